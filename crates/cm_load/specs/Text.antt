-- The text of the generated model: two sorts, three maps, and calls that each write a value at two keys of one map.
use Rattle.std.specs.Prelude.{ℕ, ◌%◌, List, ◌++◌, codes, decimal, flat_map}
use Rattle.std.specs.List.{range_with_len}

-- how many calls a model has at most
abbrev pub most_calls : ℕ
most_calls = 60

abbrev pub sort_lines : List ℕ
sort_lines = codes "sort K;\n" ++ codes "sort V;\n"

abbrev pub state_lines : List ℕ
state_lines =
    codes "state m0: map K -> V;\n" ++ codes "state m1: map K -> V;\n" ++ codes "state m2: map K -> V;\n"

-- the number of the map that a call writes
abbrev pub map_of : ℕ → ℕ
map_of call = call % 3

-- the value is written at this key
abbrev pub write_text : ℕ → List ℕ → List ℕ
write_text m key = codes "m" ++ decimal m ++ codes "[" ++ key ++ codes "] = v; "

-- what a call does on the map of this number
abbrev pub body_text : ℕ → List ℕ
body_text m = write_text m (codes "k") ++ write_text m (codes "l") ++ codes "return true; "

abbrev pub call_line : ℕ → List ℕ
call_line call =
    codes "call p" ++ decimal call ++ codes "(k: K, l: K, v: V) -> bool { " ++ body_text (map_of call) ++ codes "}\n"

-- a line for each call, numbered from 0
abbrev pub call_lines : ℕ → List ℕ
call_lines n = flat_map call_line (range_with_len 0 n)

-- THE GENERATED MODEL with so many calls
unfoldable pub text_of : ℕ → List ℕ
text_of n = sort_lines ++ state_lines ++ call_lines n
