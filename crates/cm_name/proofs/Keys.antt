-- The symbols of the variables of a record's fields.
use Rattle.std.proofs.Common.{List, [], ◌∷◌, ◌++◌, map, subst, IsTrue}
use Rattle.std.specs.List.{AllByRecursion, flat_map}
use Rattle.cm_term.specs.declared.term.Term.{Term}
use Rattle.cm_term.specs.declared.term.Term.TheVariants as term
use Rattle.cm_term.specs.Terms.{vars_of, vars_step}
use Rattle.cm_term.proofs.Folds.{fold-rec}
use Rattle.cm_ctx.specs.declared.piece.Piece.{Piece}
use Rattle.cm_name.specs.Naming.{has_symbol, HaveSymbols, HasSymbols}

all_parts : {A : Type 0} (P : A → Type 0) (xs ys : List A) → AllByRecursion P (xs ++ ys)
    → AllByRecursion P xs × AllByRecursion P ys
all_parts P [] ys h = (tt, h)
all_parts P (x ∷ xs) ys h = let rest = all_parts P xs ys h.1 in ((h.0, rest.0), rest.1)

pub fields_named : (ps : List Piece) (ts : List Term) → HasSymbols ps (term.Rec ts) → AllByRecursion (HasSymbols ps) ts
fields_named ps ts h = each ts (subst (HaveSymbols ps) (fold-rec vars_step ts) h)
  where
    each : (us : List Term) → HaveSymbols ps (flat_map (λ vars. vars) (map vars_of us))
        → AllByRecursion (HasSymbols ps) us
    each [] k = tt
    each (u ∷ us) k =
        let rest = flat_map (λ vars. vars) (map vars_of us) in
        let parts = all_parts (λ x. IsTrue (has_symbol ps x)) (vars_of u) rest k in
        (parts.0, each us parts.1)
