-- Each line of a table is found where it is looked for, as slots are written.
use Rattle.std.proofs.Common.{arith, ◌≡◌, ◌≢◌, ℕ, ◌%◌, ◌<◌, List, length, get_or, sym, ap, ◌∙◌, subst, inl, inr}
use Rattle.std.specs.List.{All}
use Rattle.std.proofs.Math.ListN.{set, length-set}
use Rattle.std.proofs.lemmas.Bool.{cases_eq, cases_lt}
use Rattle.std.proofs.lemmas.List.{get_or_default, get_or-set_same, get_or-set_other}
use Rattle.cm_judge.specs.declared.slots.Record.{Record}
use Rattle.cm_judge.specs.inner.Table.{EachIsFound, first_slot, HasOneEach, HoldsFirst, IsFreeFor, IsPassed}

-- the record may stand in the slot in the place of the one that it has
pub SameLineAt : List Record → ℕ → Record → Type 0
SameLineAt slots k r = (d : Record) → (get_or slots k d).line % 64 ≡ 0 → (get_or slots k d).line ≡ r.line

passed_write : (slots : List Record) (k : ℕ) (r : Record) (line j : ℕ) → k < length slots → SameLineAt slots k r
    → IsPassed slots line j → IsPassed (set slots k r) line j
unfolding SameLineAt
passed_write slots k r line j within same p =
    let first : first_slot line (length (set slots k r)) ≡ first_slot line (length slots) =
    ap (first_slot line) (length-set slots k r) in
    record {
      may = omega (arith, first, p.may);
      others = λ i d from to.
          let was = p.others i d (omega (arith, first, from)) to in
          elim (cases_eq i k) [
            | inl is ↦
                let now : get_or (set slots k r) i d ≡ r = ap (λ (m : ℕ). get_or (set slots k r) m d) is ∙
                get_or-set_same slots k r d within in
                let at : (get_or slots k d).line ≡ (get_or slots i d).line =
                ap (λ (m : ℕ). (get_or slots m d).line) (sym is) in
                let new : (get_or (set slots k r) i d).line ≡ (get_or slots i d).line =
                ap (λ (q : Record). q.line) now ∙ sym (same d (ap (λ n. n % 64) at ∙ was.0)) ∙ at in
                (ap (λ n. n % 64) new ∙ was.0, λ e. was.1 (sym new ∙ e))
            | inr apart ↦
                let new : (get_or (set slots k r) i d).line ≡ (get_or slots i d).line =
                ap (λ (q : Record). q.line) (get_or-set_other slots k i r d apart) in
                (ap (λ n. n % 64) new ∙ was.0, λ e. was.1 (sym new ∙ e))
          ];
    }

found_write : (slots : List Record) (k : ℕ) (r : Record) → k < length slots → SameLineAt slots k r
    → IsPassed slots r.line k
    → EachIsFound slots → EachIsFound (set slots k r)
found_write slots k r within same passed found j d in_table aligned =
    elim (cases_eq j k) [
      | inl is ↦
          let now : get_or (set slots k r) j d ≡ r = ap (λ (m : ℕ). get_or (set slots k r) m d) is ∙
          get_or-set_same slots k r d within in
          subst (λ n. IsPassed (set slots k r) n j) (sym (ap (λ (q : Record). q.line) now))
          (subst (λ m. IsPassed (set slots k r) r.line m) (sym is) (passed_write slots k r r.line k within same passed))
      | inr apart ↦
          let now : (get_or (set slots k r) j d).line ≡ (get_or slots j d).line =
          ap (λ (q : Record). q.line) (get_or-set_other slots k j r d apart) in
          subst (λ n. IsPassed (set slots k r) n j) (sym now)
          (passed_write slots k r (get_or slots j d).line j within same
          (found j d (omega (arith, in_table, length-set slots k r)) (ap (λ n. n % 64) (sym now) ∙ aligned)))
    ]

-- a record of the line that the slot has
pub found_held : (slots : List Record) (k line : ℕ) (r : Record) → HoldsFirst slots line k → r.line ≡ line
    → EachIsFound slots → EachIsFound (set slots k r)
unfolding SameLineAt
found_held slots k line r holds is =
    found_write slots k r holds.in_table (λ d aligned. holds.here d ∙ sym is)
    (subst (λ n. IsPassed slots n k) (sym is) holds.passed)

-- a record in a free slot
pub found_filled : (slots : List Record) (k : ℕ) (r : Record) → IsFreeFor slots r.line k → EachIsFound slots
    → EachIsFound (set slots k r)
unfolding SameLineAt
found_filled slots k r free =
    found_write slots k r free.in_table (λ d aligned. absurd (free.free d aligned)) free.passed

pub found_free : (slots : List Record) → All (λ (r : Record). r.line % 64 ≢ 0) slots → EachIsFound slots
found_free slots free k d within aligned = absurd (free k d within aligned)

not_before : (slots : List Record) (q r : Record) (i j : ℕ) → EachIsFound slots → i < length slots → j < length slots
    → get_or slots i q ≡ q → get_or slots j r ≡ r → q.line % 64 ≡ 0 → q.line ≡ r.line → i < j → ⊥
not_before slots q r i j found in_i in_j is_q is_r aligned same below =
    let line_q : (get_or slots i q).line ≡ q.line = ap (λ (x : Record). x.line) is_q in
    let line_r : (get_or slots j r).line ≡ r.line = ap (λ (x : Record). x.line) is_r in
    let at_i = found i q in_i (ap (λ n. n % 64) line_q ∙ aligned) in
    let at_j = found j r in_j (ap (λ n. n % 64) (line_r ∙ sym same) ∙ aligned) in
    let first : first_slot (get_or slots j r).line (length slots) ≡ first_slot (get_or slots i q).line (length slots) =
    ap (λ n. first_slot n (length slots)) (line_r ∙ sym same ∙ sym line_q) in
    (at_j.others i q (omega (arith, first, at_i.may)) below).1 (line_q ∙ same ∙ sym line_r)

-- so a line has at most one slot
pub one_each : (slots : List Record) → EachIsFound slots → HasOneEach slots
one_each slots found q r has_q has_r aligned same =
    elim (cases_lt has_q.0 has_r.0) [
      | inl below ↦ absurd (not_before slots q r has_q.0 has_r.0 found has_q.1 has_r.1 has_q.2 has_r.2 aligned same
          below)
      | inr above ↦ elim (cases_lt has_r.0 has_q.0) [
        | inl below ↦ absurd (not_before slots r q has_r.0 has_q.0 found has_r.1 has_q.1 has_r.2 has_q.2
            (ap (λ n. n % 64) (sym same) ∙ aligned) (sym same) below)
        | inr not ↦
            let at : has_q.0 ≡ has_r.0 = omega (arith, above, not) in
            sym has_q.2 ∙ ap (λ (m : ℕ). get_or slots m q) at ∙ get_or_default slots has_r.0 q r has_r.1 ∙ has_r.2
      ]
    ]
