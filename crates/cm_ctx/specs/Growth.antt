-- What making a term adds to the variables made before.
use Rattle.std.specs.Prelude.{◌≡◌, ℕ, List, [], map, slice_get}
use Rattle.cm_model.specs.Types.{or_else}
use Rattle.cm_model.specs.declared.ty.Ty.{Ty}
use Rattle.cm_model.specs.declared.ty.Part.{Part}
use Rattle.cm_model.specs.declared.ty.RecDecl.{RecDecl}
use Rattle.cm_term.specs.declared.symbol.Step.{Step}
use Rattle.cm_term.specs.declared.term.Term.{Term}
use Rattle.cm_ctx.specs.declared.piece.Variables.{Variables}
use Rattle.cm_ctx.specs.declared.making.Making.{Making}
use Rattle.cm_ctx.specs.Making.{Place, place, counted, both, Made, Maker, Fields, made_in, record_makers}
use Rattle.cm_ctx.specs.Making.{record_made}

-- where the next part is made
abbrev pub at : Making → List Step → Variables → Place
at m path to = place m.root path (counted m.from to)

abbrev pub maker_of : Making → List RecDecl → Ty → Maker
maker_of m records = made_in m.ints.now m.enums.now (record_makers m.ints.now m.enums.now records)

abbrev pub field_makers : Making → List RecDecl → List Part → List Maker
field_makers m records parts = map (λ p. maker_of m records p.ty) parts

abbrev pub maker_at : Making → List RecDecl → ℕ → Maker
maker_at m records r = or_else (record_made []) (slice_get (record_makers m.ints.now m.enums.now records) r)

-- the term, and the variables that were there with those of the term behind them
pub record Adds (m : Made) (old new : Variables) (t : Term) : Type 0 where
  pub term : t ≡ m.term
  pub variables : new ≡ both old m.variables

pub record AddsFields (f : Fields) (old new : Variables) (ts : List Term) : Type 0 where
  pub terms : ts ≡ f.terms
  pub variables : new ≡ both old f.variables
