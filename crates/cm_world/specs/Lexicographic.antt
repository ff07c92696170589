-- The lexicographic order of lists of numbers.
use Rattle.std.specs.Prelude.{ℕ, ltb, Bool, true, false, List, [], ◌∷◌, if◌then◌else◌}

-- whether the first comes before the second; a list comes before those that go on after it
abbrev pub comes_before : List ℕ → List ℕ → Bool
comes_before [] [] = false
comes_before [] (n ∷ ns) = true
comes_before (m ∷ ms) [] = false
comes_before (m ∷ ms) (n ∷ ns) = if ltb m n then true else if ltb n m then false else comes_before ms ns
