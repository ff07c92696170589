-- Where there is no value there is no part of it.
use Rattle.std.proofs.Common.{◌≡◌, List, [], ◌∷◌, Option, None, refl}
use Rattle.cm_term.specs.declared.symbol.Step.{Step}
use Rattle.cm_term.specs.Symbols.{followed}

pub followed_none : (ss : List Step) → followed ss None ≡ None
followed_none [] = refl
followed_none (s ∷ ss) = refl
