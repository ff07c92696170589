-- The parts of a context as variables are added to them, one by one.
use Rattle.std.proofs.Common.{◌≡◌, ◌<◌, ◌≤◌, ◌+◌, ◌↔◌, ℕ, zero, suc, ℤ, pos, negsuc, ◌≤ℤ◌, to_z, of_z, w64, List, []}
use Rattle.std.proofs.Common.{◌∷◌, ◌++◌, map, take, length, get_or, slice_get, Some, append_assoc, refl, sym, ap, subst}
use Rattle.std.proofs.Common.{◌∙◌, arith, Bool}
use Rattle.std.proofs.lemmas.Int.{ints}
use Rattle.std.proofs.lemmas.Option.{slice_get-get_or}
use Rattle.std.proofs.lemmas.List.{append-nil, length-append, map-append}
use Rattle.cm_sorts.specs.Partition.{Partition}
use Rattle.cm_sorts.specs.Partition as sorts
use Rattle.cm_order.specs.Differences.{Differences}
use Rattle.cm_order.specs.Differences as order
use Rattle.cm_ctx.specs.declared.piece.ElementPart.{ElementPart}
use Rattle.cm_ctx.specs.declared.piece.NumberPart.{NumberPart}
use Rattle.cm_ctx.specs.Giving.{EachFrom}
use Rattle.cm_ctx.specs.Grown.{IsRange, LiesIn}
use Rattle.cm_ctx.proofs.Each.{each_append}
use Rattle.cm_ctx.proofs.Outcomes.{passed}

-- an item of a list as a call gives it
pub at_item : {A : Type 0} (xs : List A) (i : ℕ) (d : A) → i < length xs → d ≡ get_or xs i d → slice_get xs i ≡ Some d
at_item xs i d lt e = slice_get-get_or xs i d lt ∙ ap Some (sym e)

-- the first items and the next one
pub take_more : {A : Type 0} (xs : List A) (i : ℕ) (d : A) → slice_get xs i ≡ Some d
    → take (i + 1) xs ≡ take i xs ++ d ∷ []
take_more xs i d at = subst (λ k. take k xs ≡ take i xs ++ d ∷ []) (next i) (more xs i d at)
  where
    next : (i : ℕ) → suc i ≡ i + 1
    next i = omega arith

    more : {A : Type 0} (xs : List A) (i : ℕ) (d : A) → slice_get xs i ≡ Some d → take (suc i) xs ≡ take i xs ++ d ∷ []
    more [] i d at = absurd (cc)
    more (x ∷ xs) zero d at = let same : x ≡ d = cc in ap (λ y. y ∷ []) same
    more (x ∷ xs) (suc i) d at = ap (λ ys. x ∷ ys) (more xs i d at)

pub take_all : {A : Type 0} (xs : List A) (i : ℕ) → length xs ≤ i → take i xs ≡ xs
take_all [] zero h = refl
take_all [] (suc i) h = refl
take_all (x ∷ xs) zero h = absurd (omega arith)
take_all (x ∷ xs) (suc i) h = ap (λ ys. x ∷ ys) (take_all xs i (omega arith))

-- an end of an integer type as it is passed on
pub same_end : (n : ℤ) → negsuc 999999 ≤ℤ n → n ≤ℤ pos 1000000 → to_z w64 (of_z w64 n) ≡ n
same_end n low high = passed n n refl (omega (arith, ints)) (omega (arith, ints))

abbrev sorts_in : List ElementPart → List ℕ
sorts_in ds = map (λ (d : ElementPart). d.sort) ds

pub record SameElements (old new : Partition) (ds : List ElementPart) : Type 0 where
  pub sorts_more : new.sorts ≡ old.sorts ++ map (λ (d : ElementPart). d.sort) ds
  pub kept : (e : ℕ → ℕ) → sorts.Satisfies new e ↔ sorts.Satisfies old e

pub same_starts : (old : Partition) (s : Bool) → SameElements old (record old { spare = s }) []
same_starts old s = record {
  sorts_more = sym (append-nil old.sorts);
  kept = λ e. ((λ k. record { same = k.same; apart = k.apart }), (λ k. record { same = k.same; apart = k.apart }));
}

pub same_more : (old now new : Partition) (ds : List ElementPart) (i : ℕ) (d : ElementPart) → slice_get ds i ≡ Some d
    → SameElements old now (take i ds)
    → new.sorts ≡ now.sorts ++ d.sort ∷ [] → ((e : ℕ → ℕ) → sorts.Satisfies new e ↔ sorts.Satisfies now e)
    → SameElements old new (take (i + 1) ds)
same_more old now new ds i d at s e k = record {
  sorts_more = e ∙ ap (λ xs. xs ++ d.sort ∷ []) s.sorts_more
      ∙ append_assoc old.sorts (sorts_in (take i ds)) (d.sort ∷ [])
      ∙ ap (λ xs. old.sorts ++ xs) (sym (map-append (λ (c : ElementPart). c.sort) (take i ds) (d ∷ []))
      ∙ ap sorts_in (sym (take_more ds i d at)));
  kept = λ v. ((λ a. (s.kept v).0 ((k v).0 a)), (λ a. (k v).1 ((s.kept v).1 a)));
}

pub record MoreNumbers (old new : Differences) (ds : List NumberPart) : Type 0 where
  pub count : length new ≡ length old + length ds
  pub kept : order.Keeps old new (λ n. EachFrom (LiesIn n) (length old) ds)

pub numbers_start : (old : Differences) → MoreNumbers old old []
numbers_start old = record { count = omega arith; kept = λ n. ((λ s. (s, tt)), (λ s. s.0)) }

pub numbers_more : (old now new : Differences) (ds : List NumberPart) (i : ℕ) (d : NumberPart)
    → slice_get ds i ≡ Some d → MoreNumbers old now (take i ds)
    → length new ≡ length now + 1 → order.Keeps now new (λ n. LiesIn n (length now) d)
    → MoreNumbers old new (take (i + 1) ds)
numbers_more old now new ds i d at s e k = rw (take_more ds i d at) (record {
  count = omega (arith, s.count, length-append (take i ds) (d ∷ []));
  kept = λ n.
      let both = each_append (LiesIn n) (length old) (take i ds) (d ∷ []) in (
        (λ a. let b = (k n).0 a in let c = (s.kept n).0 b.0 in
            (c.0, both.1 (c.1, (subst (λ x. LiesIn n x d) s.count b.1, tt)))),
        (λ a. let b = both.0 a.1 in (k n).1 ((s.kept n).1 (a.0, b.0), subst (λ x. LiesIn n x d) (sym s.count) b.1.0)),
      );
})

pub same_low : (d : NumberPart) → IsRange d → to_z w64 (of_z w64 d.lo) ≡ d.lo
same_low d r = let low = r.low in let order = r.order in let high = r.high in same_end d.lo low (omega (arith, ints))

pub same_high : (d : NumberPart) → IsRange d → to_z w64 (of_z w64 d.hi) ≡ d.hi
same_high d r = let low = r.low in let order = r.order in let high = r.high in same_end d.hi (omega (arith, ints)) high
