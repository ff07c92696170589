-- What a sink has taken.
use Rattle.std.specs.Prelude.{ℕ, List, take, Result, MatchResult}
use Rattle.std.specs.declared.option.Option.{Option}
use Rattle.std.specs.Io.KnownBytes.{Appends}

-- the sink took a prefix of the piece
abbrev pub TakesPart : Option (List ℕ) → Option (List ℕ) → List ℕ → Type 0
TakesPart old new piece = (n : ℕ) × Appends old new (take n piece)

-- the sink took the whole piece at `Ok`, and a prefix of it otherwise
abbrev pub PutTakes : {T E : Type 0} → Option (List ℕ) → Option (List ℕ) → Result T E → List ℕ → Type 0
PutTakes old new r piece = MatchResult r (λ _. Appends old new piece) (λ _. TakesPart old new piece)
