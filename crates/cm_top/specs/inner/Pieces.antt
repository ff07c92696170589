-- The pieces of judged sections.
use Rattle.std.specs.Prelude.{ℕ, List, [], ◌∷◌, ◌++◌, map, Result, MatchResult}
use Rattle.std.specs.declared.option.Option.{Option}
use Rattle.std.specs.Io.KnownBytes.{Appends}
use Rattle.cm_top.specs.Output.{TakesFront, closing, header, joined, section_text}
use Rattle.cm_top.specs.declared.sections.Judged.{Judged}

-- the piece of a judged section
abbrev pub piece_of : Judged → List ℕ
piece_of judged = section_text judged.name judged.lines

-- the pieces of all
abbrev pub pieces_of : List Judged → List (List ℕ)
pieces_of judged = header ∷ (map piece_of judged ++ closing ∷ [])

-- all pieces were taken, or a prefix of the first ones
abbrev pub PutsAll : {T E : Type 0} → Option (List ℕ) → Option (List ℕ) → Result T E → List (List ℕ) → Type 0
PutsAll old new r pieces = MatchResult r (λ _. Appends old new (joined pieces)) (λ _. TakesFront old new pieces)
