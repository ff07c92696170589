-- A valuation for any values of the types of what was made.
use Rattle.std.proofs.Common.{◌≡◌, ◌+◌, ℕ, true, List, [], ◌∷◌, map}
use Rattle.std.proofs.Common.{refl, sym, ap, ◌∙◌, subst, arith}
use Rattle.std.specs.List.{AllByRecursion}
use Rattle.std.proofs.lemmas.Bool.{and_parts}
use Rattle.cm_model.specs.Tables.{Tables}
use Rattle.cm_model.specs.WellTyped.{IsWellTyped}
use Rattle.cm_model.specs.Types.{IsType}
use Rattle.cm_model.specs.declared.ty.Ty.{Ty}
use Rattle.cm_value.specs.declared.value.Value.{Value}
use Rattle.cm_value.specs.Membership.{is_value_of, are_values_of}
use Rattle.cm_term.specs.declared.symbol.Root.{Root}
use Rattle.cm_term.specs.declared.term.Term.{Term}
use Rattle.cm_term.specs.Valuation.{Valuation}
use Rattle.cm_term.specs.Terms.{value_of}
use Rattle.cm_ctx.specs.declared.piece.Counts.{Counts}
use Rattle.cm_ctx.specs.declared.piece.Piece.{Piece}
use Rattle.cm_ctx.specs.Making.{counted, piece_of, place, made_of}
use Rattle.cm_ctx.specs.Giving.{Gives, Agree}
use Rattle.cm_ctx.proofs.Counting.{AtMost, at_most, agree_less, agree_then, agree_same}
use Rattle.cm_ctx.proofs.Good.{Good, made_good, gives_seen}
use Rattle.cm_exec.specs.Run.{counted_all, GivesAll}
use Rattle.cm_beside.specs.Nodes.{pieces_from}

abbrev pub terms_of : List Piece → List Term
terms_of = map (λ (q : Piece). q.term)

module _ (t : Tables) (typed : IsWellTyped t) where
  -- what was made for symbols of these types, one behind another
  abbrev pub TypedRow : Counts → List Ty → List Piece → Type 0
  TypedRow c [] [] = Unit {0}
  TypedRow c (u ∷ us) (q ∷ qs) =
      ((r : Root) × (q ≡ piece_of t u r c)) × IsType t u × TypedRow (counted c q.variables) us qs
  TypedRow c [] (q ∷ qs) = ⊥
  TypedRow c (u ∷ us) [] = ⊥

  pub typed_from : (r : ℕ → Root) (i : ℕ) (us : List Ty) (c : Counts) → AllByRecursion (IsType t) us
      → TypedRow c us (pieces_from t r i us c)
  typed_from r i [] c h = tt
  typed_from r i (u ∷ us) c h =
      ((r i, refl), h.0, typed_from r (i + 1) us (counted c (piece_of t u (r i) c).variables) h.1)

  pub no_more : (c : Counts) (qs : List Piece) → AtMost c (counted_all c qs)
  no_more c [] = record { elements = omega arith; numbers = omega arith; tags = omega arith; options = omega arith }
  no_more c (q ∷ qs) =
      let r = no_more (counted c q.variables) qs in
      let e = r.elements in
      let n = r.numbers in
      let k = r.tags in
      let o = r.options in
      record {
        elements = omega (arith, e);
        numbers = omega (arith, n);
        tags = omega (arith, k);
        options = omega (arith, o);
      }

  -- two valuations that are one on these variables give them the same
  pub row_kept : (c : Counts) (us : List Ty) (qs : List Piece) → TypedRow c us qs → (v w : Valuation)
      → Agree (counted_all c qs) v w → GivesAll qs v
      → GivesAll qs w × (map (value_of w) (terms_of qs) ≡ map (value_of v) (terms_of qs))
  row_kept c [] [] row v w a h = (tt, refl)
  row_kept c (u ∷ us) (q ∷ qs) row v w a h =
      let good = made_good t typed u row.1 in
      let later = row_kept (counted c q.variables) us qs row.2 v w a h.1 in
      let from : q.from ≡ c = ap (λ (p : Piece). p.from) row.0.1 in
      let here : Agree (counted c q.variables) v w =
      agree_less (counted c q.variables) (counted_all (counted c q.variables) qs) v w (no_more (counted c q.variables) qs)
      a in
      let one = kept_one u row.0.0 c good v w
      (subst (λ (p : Piece). Agree (counted c p.variables) v w) row.0.1 here)
      (subst (λ (p : Piece). Gives p.from p.variables v) row.0.1 h.0) in (
        (subst (λ (p : Piece). Gives p.from p.variables w) (sym row.0.1) one.0, later.0),
        ap (λ x. x ∷ map (value_of w) (terms_of qs))
            (subst (λ (p : Piece). value_of w p.term ≡ value_of v p.term) (sym row.0.1) one.1)
            ∙ ap (λ xs. value_of v q.term ∷ xs) later.1,
      )
    where
      kept_one : (u : Ty) (r : Root) (c : Counts) → Good t u (made_of t u) → (v w : Valuation)
          → Agree (counted c (piece_of t u r c).variables) v w → Gives c (piece_of t u r c).variables v
          → Gives c (piece_of t u r c).variables w
          × (value_of w (piece_of t u r c).term ≡ value_of v (piece_of t u r c).term)
      kept_one u r c good v w a h = (
        gives_seen c (piece_of t u r c).variables v w (good.sound.grounded (place r [] c)) a h,
        sym (good.sound.sees (place r [] c) v w a),
      )
  row_kept c [] (q ∷ qs) row v w a h = absurd row
  row_kept c (u ∷ us) [] row v w a h = absurd row

  -- any values of the types are given, whatever the variables before are
  pub filled : (c : Counts) (us : List Ty) (qs : List Piece) → TypedRow c us qs → (xs : List Value)
      → are_values_of t us xs ≡ true → (v : Valuation)
      → (w : Valuation) × Agree c v w × GivesAll qs w × (map (value_of w) (terms_of qs) ≡ xs)
  filled c [] [] row [] h v = (v, agree_same c v, tt, refl)
  filled c [] [] row (x ∷ xs) h v = absurd (cc)
  filled c (u ∷ us) (q ∷ qs) row [] h v = absurd (cc)
  filled c (u ∷ us) (q ∷ qs) row (x ∷ xs) h v =
      let both_ = and_parts (is_value_of t u x) (are_values_of t us xs) h in
      let one = given_one u row.0.0 c row.1 v x both_.0 in
      let mine = subst (λ (p : Piece). (w : Valuation) × Agree c v w × Gives p.from p.variables w
      × (value_of w p.term ≡ x)) (sym row.0.1) one in
      let rest = filled (counted c q.variables) us qs row.2 xs both_.1 mine.0 in
      let kept = row_kept c (u ∷ []) (q ∷ []) (row.0, row.1, tt) mine.0 rest.0 rest.1 (mine.2, tt) in (
        rest.0,
        agree_then c v mine.0 rest.0 mine.1 (agree_less c (counted c q.variables) mine.0 rest.0 (at_most c q.variables) rest.1),
        (kept.0.0, rest.2),
        ap (λ y. y ∷ map (value_of rest.0) (terms_of qs)) (head_same kept.1 ∙ mine.3) ∙ ap (λ ys. x ∷ ys) rest.3,
      )
    where
      head_same : {x y : Value} {xs ys : List Value} → x ∷ xs ≡ y ∷ ys → x ≡ y
      head_same h = cc

      given_one : (u : Ty) (r : Root) (c : Counts) → IsType t u → (v : Valuation) (x : Value) → is_value_of t u x ≡ true
          → (w : Valuation) × Agree c v w × Gives c (piece_of t u r c).variables w
          × (value_of w (piece_of t u r c).term ≡ x)
      given_one u r c declared v x h = (made_good t typed u declared).free (place r [] c) v x h
  filled c [] (q ∷ qs) row xs h v = absurd row
  filled c (u ∷ us) [] row xs h v = absurd row
