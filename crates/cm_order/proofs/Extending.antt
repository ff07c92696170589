-- One more variable keeps differences closed.
use Rattle.std.proofs.Common.{◌≡◌, ◌<◌, ◌≤◌, ◌+◌, ◌*◌, ◌^◌, ◌↔◌, inl, inr, ℕ, ℤ, pos, negsuc, ◌+ℤ◌, ◌-ℤ◌, ◌≤ℤ◌, List}
use Rattle.std.proofs.Common.{length, refl, sym, ap, ◌∙◌, arith}
use Rattle.std.proofs.lemmas.Bool.{cases_lt, le-ltb, lt-ltb}
use Rattle.std.proofs.lemmas.Int.{ints}
use Rattle.cm_order.specs.Differences.{Keeps}
use Rattle.cm_order.specs.inner.Shells.{IsClosed, IsProper, entry, extended, number_at, place, rows_of}
use Rattle.cm_order.proofs.Closing.{Meets, closed_same, meets_same}
use Rattle.cm_order.proofs.Filling.{shell_long}
use Rattle.cm_order.proofs.Valuations.{meets_from, satisfies_from}

old_pair : (n : ℕ) (d : ℕ → ℕ → ℤ) (lo hi : ℤ) (i j : ℕ) → i < n → j < n → extended n d lo hi i j ≡ d i j
old_pair n d lo hi i j p q = rw (lt-ltb i n p, lt-ltb j n q) refl

to_new : (n : ℕ) (d : ℕ → ℕ → ℤ) (lo hi : ℤ) (i j : ℕ) → i < n → n ≤ j → extended n d lo hi i j ≡ d i 0 -ℤ lo
to_new n d lo hi i j p q = rw (lt-ltb i n p, le-ltb j n q) refl

from_new : (n : ℕ) (d : ℕ → ℕ → ℤ) (lo hi : ℤ) (i j : ℕ) → n ≤ i → j < n → extended n d lo hi i j ≡ hi +ℤ d 0 j
from_new n d lo hi i j p q = rw (le-ltb i n p, lt-ltb j n q) refl

new_self : (n : ℕ) (d : ℕ → ℕ → ℤ) (lo hi : ℤ) (i j : ℕ) → n ≤ i → n ≤ j → extended n d lo hi i j ≡ pos 0
new_self n d lo hi i j p q = rw (le-ltb i n p, le-ltb j n q) refl

-- each way through two pairs, by which of the three are new
triangle_of : (n : ℕ) (d : ℕ → ℕ → ℤ) (lo hi : ℤ) → IsClosed n d → 0 < n → lo ≤ℤ hi → (i j k : ℕ)
    → extended n d lo hi i j ≤ℤ (extended n d lo hi i k +ℤ extended n d lo hi k j)
triangle_of n d lo hi h some order i j k = elim (cases_lt i n) [
  | inl a ↦ elim (cases_lt j n) [
    | inl b ↦ elim (cases_lt k n) [
      | inl e ↦ rw (old_pair n d lo hi i j a b, old_pair n d lo hi i k a e, old_pair n d lo hi k j e b)
          (h.triangle i j k a b e)
      | inr e ↦ let t = h.triangle i j 0 a b some in rw (
        old_pair n d lo hi i j a b,
        to_new n d lo hi i k a e,
        from_new n d lo hi k j e b,
      ) (omega (arith, ints))
    ]
    | inr b ↦ elim (cases_lt k n) [
      | inl e ↦ let t = h.triangle i 0 k a some e in rw (
        to_new n d lo hi i j a b,
        old_pair n d lo hi i k a e,
        to_new n d lo hi k j e b,
      ) (omega (arith, ints))
      | inr e ↦ rw (to_new n d lo hi i j a b, to_new n d lo hi i k a e, new_self n d lo hi k j e b)
          (omega (arith, ints))
    ]
  ]
  | inr a ↦ elim (cases_lt j n) [
    | inl b ↦ elim (cases_lt k n) [
      | inl e ↦ let t = h.triangle 0 j k some b e in rw (
        from_new n d lo hi i j a b,
        from_new n d lo hi i k a e,
        old_pair n d lo hi k j e b,
      ) (omega (arith, ints))
      | inr e ↦ rw (from_new n d lo hi i j a b, new_self n d lo hi i k a e, from_new n d lo hi k j e b)
          (omega (arith, ints))
    ]
    | inr b ↦ elim (cases_lt k n) [
      | inl e ↦ let t = h.triangle 0 0 k some some e in let z = h.zero 0 some in
          rw (new_self n d lo hi i j a b, from_new n d lo hi i k a e, to_new n d lo hi k j e b) (omega (arith, ints))
      | inr e ↦ rw (new_self n d lo hi i j a b, new_self n d lo hi i k a e, new_self n d lo hi k j e b)
          (omega (arith, ints))
    ]
  ]
]

pub extended_closed : (n : ℕ) (d : ℕ → ℕ → ℤ) (lo hi : ℤ) → IsClosed n d → 0 < n → negsuc 999999 ≤ℤ lo
    → lo ≤ℤ hi → hi ≤ℤ pos 1000000 → IsClosed (n + 1) (extended n d lo hi)
extended_closed n d lo hi h some low order high = record {
  zero = λ i p. elim (cases_lt i n) [
    | inl a ↦ rw (old_pair n d lo hi i i a a) (h.zero i a)
    | inr a ↦ new_self n d lo hi i i a a
  ];
  triangle = λ i j k p q r. triangle_of n d lo hi h some order i j k;
  above = λ i p. elim (cases_lt i n) [
    | inl a ↦ rw (old_pair n d lo hi i 0 a some) (h.above i a)
    | inr a ↦ let z = h.zero 0 some in rw (from_new n d lo hi i 0 a some) (omega (arith, ints))
  ];
  below = λ i p. elim (cases_lt i n) [
    | inl a ↦ rw (old_pair n d lo hi 0 i some a) (h.below i a)
    | inr a ↦ let z = h.zero 0 some in rw (to_new n d lo hi 0 i some a) (omega (arith, ints))
  ];
}

pub extended_meets : (n : ℕ) (d : ℕ → ℕ → ℤ) (lo hi : ℤ) → IsClosed n d → 0 < n → (v : ℕ → ℤ)
    → Meets (n + 1) (extended n d lo hi) v ↔ (Meets n d v × ((lo ≤ℤ v n) × (v n ≤ℤ hi)))
extended_meets n d lo hi h some v = (
  (λ s.
      let z = s.zero in
      let o = h.zero 0 some in
      let a = rw (from_new n d lo hi n 0 (omega arith) some) at (s.within n 0 (omega arith) (omega arith)) in
      let b = rw (to_new n d lo hi 0 n some (omega arith)) at (s.within 0 n (omega arith) (omega arith)) in (
        record {
          zero = s.zero;
          within = λ i j p q. rw (old_pair n d lo hi i j p q) at
              (s.within i j (omega arith) (omega arith));
        },
        (omega (arith, ints), omega (arith, ints)),
      )),
  (λ s.
      let z = s.0.zero in
      let low = s.1.0 in
      let high = s.1.1 in
      record {
        zero = s.0.zero;
        within = λ i j p q. elim (cases_lt i n) [
          | inl a ↦ elim (cases_lt j n) [
            | inl b ↦ rw (old_pair n d lo hi i j a b) (s.0.within i j a b)
            | inr b ↦ let last : j ≡ n = omega arith in let t = s.0.within i 0 a some in
                rw (to_new n d lo hi i j a b, last) (omega (arith, ints))
          ]
          | inr a ↦ let first : i ≡ n = omega arith in elim (cases_lt j n) [
            | inl b ↦ let t = s.0.within 0 j some b in rw (from_new n d lo hi i j a b, first) (omega (arith, ints))
            | inr b ↦ let last : j ≡ n = omega arith in rw (
              new_self n d lo hi i j a b,
              first,
              last,
            ) (omega (arith, ints))
          ]
        ];
      }),
)

-- entries to which a shell was added
pub fresh_proper : (n : ℕ) (old new : List ℤ) (lo hi : ℤ) → IsProper n old → n + 1 < 2 ^ 31
    → length old + (2 * n + 3) ≡ length new → negsuc 999999 ≤ℤ lo → lo ≤ℤ hi → hi ≤ℤ pos 1000000
    → ((i j : ℕ) → i ≤ n → j ≤ n → entry new i j ≡ extended n (entry old) lo hi i j) → IsProper (n + 1) new
fresh_proper n old new lo hi h few long low order high same = record {
  some = omega arith;
  few = few;
  long = omega (arith, h.long, shell_long n, shell_long (n + 1), grown n);
  closed = closed_same (n + 1) (extended n (entry old) lo hi) (entry new) (omega arith)
      (λ i j p q. same i j (omega arith) (omega arith)) (extended_closed n (entry old) lo hi h.closed
      h.some low order high);
}
  where
    grown : (m : ℕ) → (m + 1) * (m + 1) ≡ m * m + m + m + 1
    grown m = shell_long m

pub fresh_keeps : (n : ℕ) (old new : List ℤ) (lo hi : ℤ) → IsProper n old → ((i j : ℕ) → i ≤ n → j ≤ n
    → entry new i j ≡ extended n (entry old) lo hi i j)
    → Keeps (rows_of n old) (rows_of (n + 1) new) (λ v. (lo ≤ℤ v n) × (v n ≤ℤ hi))
fresh_keeps n old new lo hi h same v = (
  (λ s.
      let m = meets_same (n + 1) (entry new) (extended n (entry old) lo hi) v
      (λ i j p q. sym (same i j (omega arith) (omega arith))) (meets_from (n + 1) new v s) in
      let k = (extended_meets n (entry old) lo hi h.closed h.some v).0 m in
      (satisfies_from n old v k.0, k.1)),
  (λ s. satisfies_from (n + 1) new v (meets_same (n + 1) (extended n (entry old) lo hi) (entry new) v
      (λ i j p q. same i j (omega arith) (omega arith))
      ((extended_meets n (entry old) lo hi h.closed h.some v).1 (meets_from n old v s.0, s.1)))),
)

pub same_shell : (n : ℕ) (before old new : List ℤ) (lo hi : ℤ) → ((p : ℕ) → number_at before p ≡ number_at old p)
    → ((i j : ℕ) → i ≤ n → j ≤ n → entry new i j ≡ extended n (entry before) lo hi i j) → (i j : ℕ) → i ≤ n
    → j ≤ n → entry new i j ≡ extended n (entry old) lo hi i j
same_shell n before old new lo hi same shell i j p q =
    let e : entry before ≡ entry old = λ k. λ x y. same (place x y) k in
    shell i j p q ∙ ap (λ (d : ℕ → ℕ → ℤ). extended n d lo hi i j) e
