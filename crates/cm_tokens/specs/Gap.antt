-- What separates tokens: spaces, and comments from `//` up to before the next newline.
use Rattle.std.specs.Prelude.{◌==◌, ◌&&◌, ◌||◌, if◌then◌else◌, ℕ, ◌+◌, Bool, true, false, List, [], ◌∷◌}
use Rattle.cm_text.specs.Place.{is_in_line}
use Rattle.cm_tokens.specs.Bytes.{is_space}

-- the text begins with `//`
abbrev pub begins_comment : List ℕ → Bool
begins_comment [] = false
begins_comment (a ∷ []) = false
begins_comment (a ∷ b ∷ rest) = a == 47 && b == 47

-- how many bytes at the front separate, where what stands before them ends inside a comment or not
abbrev pub gap_from : Bool → List ℕ → ℕ
gap_from in_comment [] = 0
gap_from true (b ∷ bs) = 1 + gap_from (is_in_line b) bs
gap_from false (b ∷ bs) = let comment = begins_comment (b ∷ bs) in
    if is_space b || comment then 1 + gap_from comment bs else 0

-- how many bytes of spaces and comments stand at the front
unfoldable pub gap_of : List ℕ → ℕ
gap_of text = gap_from false text
