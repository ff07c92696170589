-- The variables that are made for an integer type and for an option.
use Rattle.std.proofs.Common.{◌≡◌, ◌<◌, ◌+◌, ℕ, List, [], ◌∷◌, ◌++◌, length, slice_get, Some, sym, ap, subst, ◌∙◌}
use Rattle.std.proofs.Common.{arith}
use Rattle.std.proofs.lemmas.List.{length-append}
use Rattle.cm_model.specs.Tables.{Tables}
use Rattle.cm_model.specs.declared.ty.Ty.{Ty}
use Rattle.cm_model.specs.declared.ty.Ty.TheVariants as ty
use Rattle.cm_value.proofs.Types.{fold-int_type, fold-option}
use Rattle.cm_term.specs.declared.symbol.Root.{Root}
use Rattle.cm_ctx.specs.declared.piece.Counts.{Counts}
use Rattle.cm_ctx.specs.declared.piece.Piece.{Piece}
use Rattle.cm_ctx.specs.Making.{place, make_step, piece_of, record_makers, counted}
use Rattle.cm_ctx.specs.Asking.{IsNew}
use Rattle.cm_ctx.specs.Contexts.{Context, counts_of}

pub nothing_asked : (ps : List Piece) (r : Root) → ps ≡ [] → IsNew ps r
nothing_asked ps r e p m s = none m.0 (subst (λ (qs : List Piece). slice_get qs m.0 ≡ Some p) e m.1)
  where
    none : (k : ℕ) → slice_get [] k ≡ Some p → ⊥
    none k h = cc

pub one_number : (t : Tables) (i : ℕ) (root : Root) (from : Counts)
    → length (piece_of t (ty.Int i) root from).variables.numbers ≡ 1
one_number t i root from = ap (λ m. length (m (place root [] from)).variables.numbers) (fold-int_type
    (make_step t.ints t.enums (record_makers t.ints t.enums t.records)) i)

pub number_more : (t : Tables) (i : ℕ) (root : Root) (from : Counts) (old new : Context)
    → counts_of new ≡ counted (counts_of old) (piece_of t (ty.Int i) root from).variables
    → length new.bounds ≡ length old.bounds + 1
number_more t i root from old new e = ap (λ (c : Counts). c.numbers) e
    ∙ ap (λ n. length old.bounds + n) (one_number t i root from)

ends : {A : Type 0} (xs : List A) (y : A) → 0 < length (xs ++ y ∷ [])
ends xs y = omega (arith, length-append xs (y ∷ []))

pub some_option : (t : Tables) (u : Ty) (root : Root) (from : Counts)
    → 0 < length (piece_of t (ty.Option u) root from).variables.options
some_option t u root from =
    subst (λ n. 0 < n) (sym (ap (λ m. length (m (place root [] from)).variables.options)
    (fold-option (make_step t.ints t.enums (record_makers t.ints t.enums t.records)) u)))
    (ends _ _)

pub option_more : (t : Tables) (u : Ty) (root : Root) (from : Counts) (old new : Context)
    → counts_of new ≡ counted (counts_of old) (piece_of t (ty.Option u) root from).variables → 0 < length new.options
option_more t u root from old new e = let some = some_option t u root from in let all =
    ap (λ (c : Counts). c.options) e in omega arith
