-- Places in a text.
use Rattle.std.specs.Prelude.{◌==◌, ℕ, ◌+◌, Bool, not, List, take}
use Rattle.std.specs.List.{count_by, suffix_len}
use Rattle.cm_model.specs.declared.place.Place.{Place}

abbrev pub is_newline : ℕ → Bool
is_newline byte = byte == 10

abbrev pub is_in_line : ℕ → Bool
is_in_line byte = not (is_newline byte)

-- the place behind so many bytes: one line more than the newlines among them, and one column more than the bytes
-- since the last newline
unfoldable pub place_in : List ℕ → ℕ → Place
place_in text n = record {
  line = 1 + count_by is_newline (take n text);
  col = 1 + suffix_len is_in_line (take n text);
}
