-- The value of a term under a valuation, and the parts of a term.
use Rattle.std.specs.Prelude.{◌≡◌, ◌==◌, ℕ, pos, List, [], ◌∷◌, ◌++◌, if◌then◌else◌}
use Rattle.std.specs.List.{flat_map}
use Rattle.cm_value.specs.declared.value.Value.{Value}
use Rattle.cm_value.specs.declared.value.Value.TheVariants as value
use Rattle.cm_term.specs.declared.atom.Num.{Num}
use Rattle.cm_term.specs.declared.atom.Num.TheVariants as num
use Rattle.cm_term.specs.declared.term.Term.{Term, out-Term}
use Rattle.cm_term.specs.declared.term.Term.TheVariants as term
use Rattle.cm_term.specs.declared.term.Term.TheOpen.{Term-F}
use Rattle.cm_term.specs.declared.term.Term.TheFolds.{fold-Term}
use Rattle.cm_term.specs.Valuation.{Valuation, Var, OfElement, OfOption}
use Rattle.cm_term.specs.Atoms.{num_under, tag_under, vars_of_num, vars_of_tag}

abbrev pub value_step : Valuation → Term-F Value → Value
value_step v (Term-F.Elem x) = value.Elem (v.element x.0)
value_step v (Term-F.Num a) = value.Int (num_under v.number a)
value_step v (Term-F.Tag a) = value.Tag (tag_under v.tag a)
value_step v (Term-F.Rec xs) = value.Rec xs
value_step v Term-F.None = value.None
value_step v (Term-F.Some x) = value.Some x
value_step v (Term-F.Either o) = if v.present o.0 == 1 then value.Some (v.payload o.0) else value.None

-- the value of a term
abbrev pub value_of : Valuation → Term → Value
value_of v = fold-Term Value (value_step v)

abbrev pub vars_step : Term-F (List Var) → List Var
vars_step (Term-F.Elem x) = OfElement x.0 ∷ []
vars_step (Term-F.Num a) = vars_of_num a
vars_step (Term-F.Tag a) = vars_of_tag a
vars_step (Term-F.Rec xs) = flat_map (λ vars. vars) xs
vars_step Term-F.None = []
vars_step (Term-F.Some x) = x
vars_step (Term-F.Either o) = OfOption o.0 ∷ []

-- the variables of a term in order; those of the payloads of its options are not among them
abbrev pub vars_of : Term → List Var
vars_of = fold-Term (List Var) vars_step

abbrev pub fields_at : Term-F Term → List Term
fields_at (Term-F.Rec ts) = ts
fields_at _ = []

-- the fields of a record
abbrev pub fields_of : Term → List Term
fields_of t = fields_at (out-Term t)

abbrev pub IsRecord : Term → Type 0
IsRecord t = t ≡ term.Rec (fields_of t)

-- an option that is there
abbrev pub IsSome : Term → Type 0
IsSome t = (u : Term) × (t ≡ term.Some u)

abbrev pub number_at : Term-F Term → Num
number_at (Term-F.Num a) = a
number_at _ = num.Const (pos 0)

-- the number of a term that is one
abbrev pub number_in : Term → Num
number_in t = number_at (out-Term t)

abbrev pub IsNumber : Term → Type 0
IsNumber t = t ≡ term.Num (number_in t)
