-- The calls of a shelf in memory that are made to fail, and the counts that they give.
use Rattle.std.proofs.Common.{◌≡◌, ℕ, ◌+◌, ◌-◌, ◌^◌, ◌<◌, ◌≤◌, ◌⊎◌, min, List, [], zero, suc, true, refl, ◌∙◌, inl, inr}
use Rattle.std.proofs.Common.{arith, add-one, add-zero}
use Rattle.std.proofs.Math.Nat.{min-eq_right}
use Rattle.std.proofs.lemmas.Bool.{cases_lt}
use Rattle.cm_io.specs.Causes.{Rose, one_more}
use Rattle.cm_io.specs.MemShelf.{named_among, is_named}

-- with no numbers no call is made to fail
named_among-nil : (calls : ℕ) → named_among [] calls ≡ 0
named_among-nil zero = refl
named_among-nil (suc calls) = add-zero (named_among [] calls) ∙ named_among-nil calls

pub named_among-none : (fails : List ℕ) (calls : ℕ) → fails ≡ [] → named_among fails calls ≡ 0
named_among-none fails calls none = rw none (named_among-nil calls)

-- a sum that rises, where its count stands at its last value
pub Rose-min : (before now : ℕ) → (before < now) ⊎ (2 ^ 64 - 1 ≤ now)
    → Rose (min before (2 ^ 64 - 1)) (min now (2 ^ 64 - 1))
Rose-min before now rose =
    elim (cases_lt now (2 ^ 64 - 1)) [
      | inl below ↦ inl (omega arith)
      | inr past ↦ inr (min-eq_right past)
    ]

-- one more call names no fewer
named_among-later : (fails : List ℕ) (calls : ℕ) → calls < 2 ^ 64
    → named_among fails calls ≤ named_among fails (one_more calls)
named_among-later fails calls fits =
    elim (cases_lt calls (2 ^ 64 - 1)) [
      | inl below ↦ let next : min (calls + 1) (2 ^ 64 - 1) ≡ suc calls = omega arith in rw next (omega arith)
      | inr past ↦ let last : min (calls + 1) (2 ^ 64 - 1) ≡ calls = omega arith in rw last (omega arith)
    ]

-- one more fetch of a name that isn't there
pub Rose-missing : (fails : List ℕ) (calls missing : ℕ) → calls < 2 ^ 64
    → Rose (min (named_among fails calls + missing) (2 ^ 64 - 1))
    (min (named_among fails (one_more calls) + one_more missing) (2 ^ 64 - 1))
Rose-missing fails calls missing fits =
    let later = named_among-later fails calls fits in
    elim (cases_lt missing (2 ^ 64 - 1)) [
      | inl below ↦ Rose-min _ _ (inl (omega arith))
      | inr past ↦ Rose-min _ _ (inr (omega arith))
    ]

-- one more call that is made to fail
pub Rose-named : (fails : List ℕ) (calls more : ℕ) → true ≡ is_named fails (calls + 1) → calls < 2 ^ 64 - 1
    → Rose (min (named_among fails calls + more) (2 ^ 64 - 1)) (min (named_among fails (one_more calls) + more)
    (2 ^ 64 - 1))
Rose-named fails calls more named within =
    let next : min (calls + 1) (2 ^ 64 - 1) ≡ suc calls = omega arith in
    let here : true ≡ is_named fails (suc calls) = rw add-one at named in
    rw (next, ← here) (Rose-min _ _ (inl (omega arith)))
