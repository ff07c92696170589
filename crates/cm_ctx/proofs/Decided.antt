-- Valuations of choices.
use Rattle.std.proofs.Common.{◌≡◌, ◌≢◌, ◌<◌, ◌==◌, ◌↔◌, inl, inr, ℕ, zero, suc, [], ◌∷◌, Bool, true, false}
use Rattle.std.proofs.Common.{if◌then◌else◌, List, length, slice_get, slice_set, slice_index_or, Option, Some, None}
use Rattle.std.proofs.Common.{IfSome, refl, sym, ap, ◌∙◌, subst, arith}
use Rattle.std.proofs.lemmas.Option.{slice_get_within, slice_get-get_or}
use Rattle.std.proofs.lemmas.List.{get_or-set_same, length-set}
use Rattle.std.proofs.lemmas.Bool.{cases_eq}
use Rattle.std.proofs.lemmas.Bool.Decides.{nat_tests}
use Rattle.cm_ctx.specs.declared.choice.Choice.{Choice}
use Rattle.cm_ctx.specs.declared.choice.Known.TheVariants as known
use Rattle.cm_ctx.specs.Knowing.{known_of}
use Rattle.cm_ctx.specs.Choices.{Fits, Satisfies, Allows, Keeps, IsChoice, AreChoices}

-- the decided number, or the first
abbrev pub own_in : Option ℕ → ℕ
own_in (Some d) = d
own_in None = 0

abbrev pub own : Choice → ℕ
own c = own_in c.decided

abbrev pub own_at : Option Choice → ℕ
own_at (Some c) = own c
own_at None = 0

abbrev pub own_of : List Choice → ℕ → ℕ
own_of cs x = own_at (slice_get cs x)

own_within : (n : ℕ) (o : Option ℕ) → 0 < n → IfSome o (λ d. d < n) → (own_in o < n) × IfSome o (λ d. own_in o ≡ d)
own_within n (Some d) h k = (k, refl)
own_within n None h k = (h, tt)

own_fits : (c : Choice) → IsChoice c → Fits c (own c)
own_fits c h = let k = own_within c.outcomes c.decided h.some h.decided in record { within = k.0; decided = k.1 }

-- what an option holds, or a given one
abbrev held : Choice → Option Choice → Choice
held c (Some d) = d
held c None = c

some_same : (c d : Choice) → Some c ≡ Some d → c ≡ d
some_same c d e = ap (held c) e

pub own_satisfies : (cs : List Choice) → AreChoices cs → Satisfies cs (own_of cs)
own_satisfies cs h x c e = rw e (own_fits c (h x c e))

-- one choice with another number
abbrev pub with_number : (ℕ → ℕ) → ℕ → ℕ → ℕ → ℕ
with_number t x n y = if y == x then n else t y

with_same : (t : ℕ → ℕ) (x n : ℕ) → with_number t x n x ≡ n
with_same t x n = grind (arith, nat_tests)

same_choice : (cs : List Choice) (x : ℕ) (c d : Choice) → slice_get cs x ≡ Some c → slice_get cs x ≡ Some d → c ≡ d
same_choice cs x c d p q = some_same c d (sym p ∙ q)

with_satisfies : (cs : List Choice) (t : ℕ → ℕ) (x n : ℕ) (c : Choice) → Satisfies cs t → slice_get cs x ≡ Some c
    → Fits c n → Satisfies cs (with_number t x n)
with_satisfies cs t x n c s e f y d g = first (y == x) refl
  where
    first : (u : Bool) → (y == x) ≡ u → Fits d (with_number t x n y)
    first true h =
        let same : y ≡ x = grind (arith, nat_tests) in
        let one : c ≡ d = same_choice cs x c d e (subst (λ z. slice_get cs z ≡ Some d) same g) in
        rw h (subst (λ z. Fits z n) one f)
    first false h = rw h (s y d g)

-- a number that fits is one that some valuation gives
pub choice_exact : (cs : List Choice) (x : ℕ) (c : Choice) → AreChoices cs → slice_get cs x ≡ Some c → (i : ℕ)
    → Fits c i ↔ Allows cs (λ t. t x ≡ i)
choice_exact cs x c h e i = (
  (λ f. (
    with_number (own_of cs) x i,
    with_satisfies cs (own_of cs) x i c (own_satisfies cs h) e f,
    with_same (own_of cs) x i,
  )),
  (λ w. subst (Fits c) w.2 (w.1 x c e)),
)

abbrev pub decided_as : Choice → ℕ → Choice
decided_as c n = record { outcomes = c.outcomes; decided = Some n }

-- the fitting of a decided choice
decided_fits : (c : Choice) (n m : ℕ) → Fits c n → Fits (decided_as c n) m ↔ (m ≡ n)
decided_fits c n m f = (
  (λ g. g.decided),
  (λ e. record
      { within = subst (λ k. k < c.outcomes) (sym e) f.within; decided = e }),
)

get_set_same : (cs : List Choice) (x : ℕ) (c : Choice) → x < length cs → slice_get (slice_set cs x c) x ≡ Some c
get_set_same cs x c h = slice_get-get_or (slice_set cs x c) x c (rw (length-set cs x c) h)
    ∙ ap Some (get_or-set_same cs x c c h)

get_set_other : (cs : List Choice) (x y : ℕ) (c : Choice) → y ≢ x → slice_get (slice_set cs x c) y ≡ slice_get cs y
get_set_other [] x y c h = refl
get_set_other (d ∷ cs) zero zero c h = absurd (h refl)
get_set_other (d ∷ cs) zero (suc y) c h = refl
get_set_other (d ∷ cs) (suc x) zero c h = refl
get_set_other (d ∷ cs) (suc x) (suc y) c h = get_set_other cs x y c (λ e. h (ap suc e))

pub decide_kept : (cs : List Choice) (x n : ℕ) (c : Choice) → slice_get cs x ≡ Some c → Fits c n
    → Keeps cs (slice_set cs x (decided_as c n)) (λ t. t x ≡ n)
decide_kept cs x n c e f t = (
  (λ s.
      let at : t x ≡ n = (decided_fits c n (t x) f).0 (s x (decided_as c n)
      (get_set_same cs x (decided_as c n) (slice_get_within cs x c e))) in (
        (λ y d g. elim (cases_eq y x) [
          | inl same ↦
              let one : c ≡ d = same_choice cs x c d e (subst (λ z. slice_get cs z ≡ Some d) same g) in
              subst (λ z. Fits z (t y)) one (subst (Fits c) (sym (ap t same ∙ at)) f)
          | inr other ↦ s y d (get_set_other cs x y (decided_as c n) other ∙ g)
        ]),
        at,
      )),
  (λ s y d g. elim (cases_eq y x) [
    | inl same ↦
        let one : decided_as c n ≡ d = some_same (decided_as c n) d (sym
        (get_set_same cs x (decided_as c n) (slice_get_within cs x c e))
        ∙ subst (λ z. slice_get (slice_set cs x (decided_as c n)) z ≡ Some d) same g) in
        subst (λ z. Fits z (t y)) one ((decided_fits c n (t y) f).1 (ap t same ∙ s.1))
    | inr other ↦ s.0 y d (sym (get_set_other cs x y (decided_as c n) other) ∙ g)
  ]),
)

some_is_none : (n : ℕ) → Some n ≡ None → ⊥
some_is_none n e = cc

pub decide_proper : (cs : List Choice) (x n : ℕ) (c : Choice) → AreChoices cs → slice_get cs x ≡ Some c → Fits c n
    → AreChoices (slice_set cs x (decided_as c n))
decide_proper cs x n c h e f y d g = elim (cases_eq y x) [
  | inl same ↦
      let one : decided_as c n ≡ d = some_same (decided_as c n) d (sym
      (get_set_same cs x (decided_as c n) (slice_get_within cs x c e))
      ∙ subst (λ z. slice_get (slice_set cs x (decided_as c n)) z ≡ Some d) same g) in
      subst IsChoice one (record {
        some = (h x c e).some;
        few = (h x c e).few;
        decided = f.within;
        single = λ e. absurd (some_is_none n e);
      })
  | inr other ↦ h y d (sym (get_set_other cs x y (decided_as c n) other) ∙ g)
]

pub decided_few : (c : Choice) (d : ℕ) → IsChoice c → c.decided ≡ Some d → d < 64
decided_few c d h e = let few = h.few in let low : d < c.outcomes =
    subst (λ o. IfSome o (λ n. n < c.outcomes)) e h.decided in omega arith

pub fits_decided : (c : Choice) (d : ℕ) → IsChoice c → c.decided ≡ Some d → (i : ℕ) → Fits c i ↔ (i ≡ d)
fits_decided c d h e i = (
  (λ f. subst (λ o. IfSome o (λ n. i ≡ n)) e f.decided),
  (λ same. record {
    within = let low : d < c.outcomes = subst (λ o. IfSome o (λ n. n < c.outcomes)) e h.decided in omega (arith, same);
    decided = subst (λ o. IfSome o (λ n. i ≡ n)) (sym e) same;
  }),
)

pub fits_free : (c : Choice) → c.decided ≡ None → (i : ℕ) → Fits c i ↔ (i < c.outcomes)
fits_free c e i = (
  (λ f. f.within),
  (λ h. record {
    within = h;
    decided = subst (λ o. IfSome o (λ n. i ≡ n)) (sym e) tt;
  }),
)

pub found : (cs : List Choice) (x : ℕ) (d : Choice) → x < length cs → slice_get cs x ≡ Some (slice_index_or cs x d)
found cs x d h = slice_get-get_or cs x d h

-- the outcome of a constant
pub constant_exact : (cs : List Choice) → AreChoices cs → (k i : ℕ) → (i ≡ k) ↔ Allows cs (λ t. k ≡ i)
constant_exact cs h k i = ((λ e. (own_of cs, own_satisfies cs h, sym e)), (λ w. sym w.2))

pub constant_kept : (cs : List Choice) (k i : ℕ) → k ≡ i → Keeps cs cs (λ t. k ≡ i)
constant_kept cs k i e t = ((λ s. (s, e)), (λ s. s.0))

-- a decided number is the one that each valuation gives
pub known_exact : (cs : List Choice) (x : ℕ) (c : Choice) → AreChoices cs → slice_get cs x ≡ Some c → (n : ℕ)
    → (c.decided ≡ Some n) ↔ ((t : ℕ → ℕ) → Satisfies cs t → t x ≡ n)
known_exact cs x c h at n = (
  (λ e t s. subst (λ o. IfSome o (λ d. t x ≡ d)) e (s x c at).decided),
  (λ all. known c.decided refl all),
)
  where
    known : (o : Option ℕ) → c.decided ≡ o → ((t : ℕ → ℕ) → Satisfies cs t → t x ≡ n) → c.decided ≡ Some n
    known (Some d) e all =
        let w = (choice_exact cs x c h at d).0 ((fits_decided c d (h x c at) e d).1 refl) in
        e ∙ ap Some (sym w.2 ∙ all w.0 w.1)
    known None e all =
        let many = (h x c at).single e in
        let w = (choice_exact cs x c h at 0).0 ((fits_free c e 0).1 (omega arith)) in
        let u = (choice_exact cs x c h at 1).0 ((fits_free c e 1).1 (omega arith)) in
        let zero_is : 0 ≡ n = sym w.2 ∙ all w.0 w.1 in
        let one_is : 1 ≡ n = sym u.2 ∙ all u.0 u.1 in
        absurd (omega arith)

known_none : (o : Option ℕ) → (known_of o ≡ known.None) ↔ (o ≡ Some 0)
known_none None = ((λ e. absurd (cc)), (λ e. absurd (cc)))
known_none (Some zero) = ((λ e. refl), (λ e. refl))
known_none (Some (suc n)) = ((λ e. absurd (cc)), (λ e. absurd (positive (held_number e))))
  where
    held_number : Some (suc n) ≡ Some 0 → suc n ≡ 0
    held_number e = ap own_in e

    positive : suc n ≡ 0 → ⊥
    positive e = omega arith

-- none is decided where each valuation has none
pub none_exact : (cs : List Choice) (x : ℕ) (c : Choice) → AreChoices cs → slice_get cs x ≡ Some c
    → (known_of c.decided ≡ known.None) ↔ ((t : ℕ → ℕ) → Satisfies cs t → t x ≡ 0)
none_exact cs x c h at =
    let k = known_none c.decided in
    let e = known_exact cs x c h at 0 in
    ((λ g. e.0 (k.0 g)), (λ g. k.1 (e.1 g)))

-- and some where none has none
pub some_exact : (cs : List Choice) (x : ℕ) (c : Choice) → AreChoices cs → slice_get cs x ≡ Some c
    → (known_of c.decided ≡ known.Some) ↔ ((t : ℕ → ℕ) → Satisfies cs t → t x ≢ 0)
some_exact cs x c h at = ((λ e. there c.decided refl e), (λ all. back c.decided refl all))
  where
    there : (o : Option ℕ) → c.decided ≡ o → known_of c.decided ≡ known.Some
        → (t : ℕ → ℕ) → Satisfies cs t → t x ≢ 0
    there None d e t s is_zero = absurd (let no_choice = sym e ∙ ap known_of d in cc)
    there (Some zero) d e t s is_zero = absurd (let no_choice = sym e ∙ ap known_of d in cc)
    there (Some (suc n)) d e t s is_zero =
        let is : t x ≡ suc n = subst (λ o. IfSome o (λ m. t x ≡ m)) d (s x c at).decided in omega arith

    back : (o : Option ℕ) → c.decided ≡ o → ((t : ℕ → ℕ) → Satisfies cs t → t x ≢ 0)
        → known_of c.decided ≡ known.Some
    back None d all =
        let some = (h x c at).some in
        let w = (choice_exact cs x c h at 0).0 ((fits_free c d 0).1 some) in absurd (all w.0 w.1 w.2)
    back (Some zero) d all =
        let w = (choice_exact cs x c h at 0).0 ((fits_decided c 0 (h x c at) d 0).1 refl) in absurd (all w.0 w.1 w.2)
    back (Some (suc n)) d all = ap known_of d
