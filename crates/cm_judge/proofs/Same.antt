-- The same records, as one after another is put into a new table.
use Rattle.std.proofs.Common.{arith, ◌≡◌, ◌≢◌, ◌%◌, ◌⊎◌, ℕ, ◌+◌, ◌<◌, List, [], ◌∷◌, ◌++◌, length, take, get_or, sym}
use Rattle.std.proofs.Common.{subst, inl, inr}
use Rattle.std.specs.List.{Contains}
use Rattle.std.proofs.Math.ListN.{set, length-set}
use Rattle.std.proofs.lemmas.List.{take_more, get_or-set_same}
use Rattle.std.proofs.lemmas.List.Elements.{Contains-append_left, Contains-push, Contains-push_cases}
use Rattle.cm_judge.specs.declared.slots.Record.{Record}
use Rattle.cm_judge.specs.inner.Table.{SameRecords}
use Rattle.cm_judge.proofs.Keeps.{set_from, set_kept}

one_more : (xs : List Record) (i : ℕ) (d q : Record) → i < length xs → Contains (take (i + 1) xs) q
    → Contains (take i xs) q ⊎ (q ≡ get_or xs i d)
one_more xs i d q within has =
    let more : Contains (take i xs ++ get_or xs i d ∷ []) q =
    subst (λ (l : List Record). Contains l q) (take_more xs i d within) has in
    elim (Contains-push_cases (take i xs) (get_or xs i d) q more) [ inl old ↦ inl old | inr same ↦ inr (sym same) ]

still : (xs : List Record) (i : ℕ) (d q : Record) → i < length xs → Contains (take i xs) q
    → Contains (take (i + 1) xs) q
still xs i d q within has =
    subst (λ (l : List Record). Contains l q) (sym (take_more xs i d within))
    (Contains-append_left (take i xs) (get_or xs i d ∷ []) q has)

the_last : (xs : List Record) (i : ℕ) (d : Record) → i < length xs → Contains (take (i + 1) xs) (get_or xs i d)
the_last xs i d within =
    subst (λ (l : List Record). Contains l (get_or xs i d)) (sym (take_more xs i d within))
    (Contains-push (take i xs) (get_or xs i d))

pub Same-skip : (before after : List Record) (i : ℕ) (d : Record) → i < length before
    → (get_or before i d).line % 64 ≢ 0 → SameRecords (take i before) after → SameRecords (take (i + 1) before) after
Same-skip before after i d within free h =
    record {
      from = λ r has. elim (h.from r has) [ inl old ↦ inl (still before i d r within old) | inr b ↦ inr b ];
      kept = λ r has. elim (one_more before i d r within has) [
        | inl old ↦ h.kept r old
        | inr same ↦ inr (subst (λ (x : Record). x.line % 64 ≢ 0) (sym same) free)
      ];
    }

pub Same-put : (before after : List Record) (i k : ℕ) (d f : Record) → i < length before → k < length after
    → (get_or after k f).line % 64 ≢ 0 → SameRecords (take i before) after
    → SameRecords (take (i + 1) before) (set after k (get_or before i d))
Same-put before after i k d f within slot free h =
    let r = get_or before i d in
    record {
      from = λ q has. elim (set_from after k r q slot has) [
        | inl old ↦ elim (h.from q old) [ inl was ↦ inl (still before i d q within was) | inr b ↦ inr b ]
        | inr same ↦ inl (subst (λ (x : Record). Contains (take (i + 1) before) x) (sym same)
            (the_last before i d within))
      ];
      kept = λ q has. elim (one_more before i d q within has) [
        | inl old ↦ elim (h.kept q old) [
          | inl now ↦ elim (set_kept after k r f q slot now)
              [ inl c ↦ inl c | inr gone ↦ inr (subst (λ (x : Record). x.line % 64 ≢ 0) (sym gone) free) ]
          | inr b ↦ inr b
        ]
        | inr same ↦ inl (subst (λ (x : Record). Contains (set after k r) x) (sym same)
            (k, omega (arith, slot, length-set after k r), get_or-set_same after k r r slot))
      ];
    }

pub Same-push : (before after : List Record) (i : ℕ) (d : Record) → i < length before
    → SameRecords (take i before) after → SameRecords (take (i + 1) before) (after ++ get_or before i d ∷ [])
Same-push before after i d within h =
    let r = get_or before i d in
    record {
      from = λ q has. elim (Contains-push_cases after r q has) [
        | inl old ↦ elim (h.from q old) [ inl was ↦ inl (still before i d q within was) | inr b ↦ inr b ]
        | inr same ↦ inl (subst (λ (x : Record). Contains (take (i + 1) before) x) same (the_last before i d within))
      ];
      kept = λ q has. elim (one_more before i d q within has) [
        | inl old ↦ elim (h.kept q old) [ inl now ↦ inl (Contains-append_left after (r ∷ []) q now) | inr b ↦ inr b ]
        | inr same ↦ inl (subst (λ (x : Record). Contains (after ++ r ∷ []) x) (sym same) (Contains-push after r))
      ];
    }
