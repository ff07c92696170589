-- What is asked of the payload of a variable.
use Rattle.std.proofs.Common.{◌≡◌, ◌<◌, ◌≤◌, ℕ, zero, suc, ◌+◌, List, [], ◌∷◌, ◌++◌, take, length, slice_get}
use Rattle.std.proofs.Common.{Option, Some, None, refl, sym, ap, ◌∙◌, arith, append_assoc}
use Rattle.std.proofs.Math.Seq.{take-append_seam}
use Rattle.std.proofs.lemmas.List.{length-append, append-nil}
use Rattle.cm_term.specs.declared.term.Term.{Term}
use Rattle.cm_exec.specs.Asking.{Asker, askers, askers_from, askers_below, asks_in, asks_below}
use Rattle.cm_exec.specs.Comparing.{IsBelow}

take_below : {X : Type 0} (n i : ℕ) (xs : List X) → i < n → slice_get (take n xs) i ≡ slice_get xs i
take_below zero i xs lt = absurd (omega arith)
take_below (suc n) i [] lt = refl
take_below (suc n) zero (x ∷ xs) lt = refl
take_below (suc n) (suc i) (x ∷ xs) lt = take_below n i xs (omega arith)

take_above : {X : Type 0} (n i : ℕ) (xs : List X) → n ≤ i → slice_get (take n xs) i ≡ None
take_above zero zero xs le = refl
take_above zero (suc i) xs le = refl
take_above (suc n) zero xs le = absurd (omega arith)
take_above (suc n) (suc i) [] le = refl
take_above (suc n) (suc i) (x ∷ xs) le = take_above n i xs (omega arith)

get_behind : {X : Type 0} (xs ys : List X) (y : X) → slice_get (xs ++ y ∷ ys) (length xs) ≡ Some y
get_behind [] ys y = refl
get_behind (x ∷ xs) ys y = get_behind xs ys y

module _ (ps : List Term) where
  -- what is asked of the payloads before stays at the front
  longer : (before : List Asker) (ts : List Term)
      → (more : List Asker) × (askers_from ps before ts ≡ before ++ more)
  longer before [] = ([], sym (append-nil before))
  longer before (t ∷ ts) =
      let r = longer (before ++ asks_in ps before t ∷ []) ts in
      (asks_in ps before t ∷ r.0, r.1 ∙ append_assoc before (asks_in ps before t ∷ []) r.0)

  -- of a payload, as of those before it
  one : (before : List Asker) (ts : List Term) (i : ℕ) (t : Term) → slice_get ts i ≡ Some t
      → slice_get (askers_from ps before ts) (length before + i)
      ≡ Some (asks_in ps (take (length before + i) (askers_from ps before ts)) t)
  one before [] i t e = absurd (cc)
  one before (u ∷ ts) zero t e =
      let same : u ≡ t = cc in
      let r = longer (before ++ asks_in ps before u ∷ []) ts in
      let whole : askers_from ps before (u ∷ ts) ≡ before ++ asks_in ps before u ∷ r.0
      = r.1 ∙ append_assoc before (asks_in ps before u ∷ []) r.0 in
      let n : length before + 0 ≡ length before = omega arith in
      ap (slice_get (askers_from ps before (u ∷ ts))) n
      ∙ ap (λ ms. slice_get ms (length before)) whole
      ∙ get_behind before r.0 (asks_in ps before u)
      ∙ ap (λ v. Some (asks_in ps before v)) same
      ∙ sym (ap (λ ms. Some (asks_in ps ms t))
      (ap (λ m. take m (askers_from ps before (u ∷ ts))) n
      ∙ ap (take (length before)) whole ∙ take-append_seam before (asks_in ps before u ∷ r.0)))
  one before (u ∷ ts) (suc i) t e =
      let k : length before + suc i ≡ length (before ++ asks_in ps before u ∷ []) + i
      = omega (arith, length-append before (asks_in ps before u ∷ [])) in
      ap (slice_get (askers_from ps before (u ∷ ts))) k
      ∙ one (before ++ asks_in ps before u ∷ []) ts i t e
      ∙ sym (ap (λ m. Some (asks_in ps (take m (askers_from ps before (u ∷ ts))) t)) k)

  asker_at : (o : ℕ) (t : Term) → slice_get ps o ≡ Some t → slice_get (askers ps) o ≡ Some (asks_below ps (Some o) t)
  unfolding askers
  asker_at o t e =
      let none : 0 + o ≡ o = omega arith in
      sym (ap (slice_get (askers_from ps [] ps)) none) ∙ one [] ps o t e
      ∙ ap (λ m. Some (asks_in ps (take m (askers_from ps [] ps)) t)) none

  -- of the payload of a variable below a number
  pub payload_asked : (b : Option ℕ) (o : ℕ) (t : Term) → IsBelow o b → slice_get ps o ≡ Some t
      → slice_get (askers_below ps b) o ≡ Some (asks_below ps (Some o) t)
  payload_asked None o t is e = asker_at o t e
  payload_asked (Some n) o t is e = take_below n o (askers ps) is ∙ asker_at o t e

  -- of one above it nothing is
  pub payload_missing : (b : Option ℕ) (o : ℕ) → (IsBelow o b → ⊥) → slice_get (askers_below ps b) o ≡ None
  payload_missing None o isnt = absurd (isnt tt)
  payload_missing (Some n) o isnt = take_above n o (askers ps) (omega (arith, isnt))
