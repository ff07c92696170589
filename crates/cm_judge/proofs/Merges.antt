-- Records of one line put together, and the lines in conflict of records of which a line has one.
use Rattle.std.proofs.Common.{arith, zero, suc, ◌≡◌, ◌≢◌, ◌⊎◌, ℕ, ◌%◌, ◌+◌, ◌<◌, ◌≤◌, List, [], ◌∷◌, ◌++◌, length, take}
use Rattle.std.proofs.Common.{get_or, append_assoc, eqb, ltb, cond, min, max, refl, sym, ap, ◌∙◌, subst, inl, inr}
use Rattle.std.specs.List.{All, Contains, dedup}
use Rattle.std.proofs.lemmas.Bool.{cond_both, ltb-true, ltb-false}
use Rattle.std.specs.Ordering.{nat_cmp}
use Rattle.std.specs.List.Sorted.{IsNonDecreasingBy, IsPermutation, IsSorted, IsStrictlyIncreasing}
use Rattle.std.proofs.lemmas.List.Sorted.{Contains-permutation, IsPermutation-sym}
use Rattle.std.proofs.lemmas.List.{take_more}
use Rattle.std.proofs.lemmas.List.Kept.{Contains-dedup_nat, Contains-from_dedup}
use Rattle.std.proofs.lemmas.Map.Keys.{IsStrictlyIncreasing-dedup}
use Rattle.std.proofs.lemmas.List.Elements.{All-contains, All-push, Contains-append_left, Contains-append_right}
use Rattle.std.proofs.lemmas.List.Elements.{Contains-append_cases, Contains-get_or, Contains-push, Contains-push_cases}
use Rattle.cm_mtrace.specs.declared.item.Entry.{Entry}
use Rattle.cm_mtrace.specs.declared.item.Who.{Who}
use Rattle.cm_mtrace.specs.declared.item.Who.TheVariants.{A, Other}
use Rattle.cm_mtrace.specs.declared.item.Kind.{Kind}
use Rattle.cm_judge.specs.declared.summary.Cores.{Cores}
use Rattle.cm_judge.specs.declared.summary.LineSummary.{LineSummary}
use Rattle.cm_judge.specs.declared.slots.Record.{Record}
use Rattle.cm_judge.specs.Conflicts.{AreConflictLines, ConflictAt, IsConflictLine}
use Rattle.cm_judge.specs.Judge.{KeepLine, StandsFor}
use Rattle.cm_judge.specs.inner.Table.{AreFound, HasOneEach, KeepWhat, SameRecords}
use Rattle.cm_judge.specs.Summary.{AreBoundsOf, cores_of, IsSummaryOf, IsWithin, Touches, union_of}
use Rattle.cm_judge.proofs.Accesses.{a≢other}
use Rattle.cm_judge.proofs.Keeps.{any_of, bounds_some, max_cases, min_cases, Replaces}

-- a table with the same records keeps the same
pub Keep-same : (before after others : List Record) (entries : List Entry) (line : ℕ) → line % 64 ≡ 0
    → SameRecords before after → KeepLine (before ++ others) entries line → KeepLine (after ++ others) entries line
Keep-same before after others entries line aligned same h =
    record {
      bounds = λ r has is who kind judged. elim (Contains-append_cases after others r has) [
        | inl new ↦ elim (same.from r new) [
          | inl old ↦ h.bounds r (Contains-append_left before others r old) is who kind judged
          | inr free ↦ absurd (free (ap (λ n. n % 64) is ∙ aligned))
        ]
        | inr o ↦ h.bounds r (Contains-append_right before others r o) is who kind judged
      ];
      within = λ who kind core judged t. (
          let a = h.within who kind core judged t in
          let P : Record → Type 0 = λ r. (r.line ≡ line) × IsWithin (cores_of r.summary who kind) core in
          elim (Contains-append_cases before others a.1 (a.0, a.2, a.3)) [
            | inl old ↦ elim (same.kept a.1 old) [
              | inl new ↦ any_of P (after ++ others) a.1 (Contains-append_left after others a.1 new) a.4
              | inr free ↦ absurd (free (ap (λ n. n % 64) a.4.0 ∙ aligned))
            ]
            | inr o ↦ any_of P (after ++ others) a.1 (Contains-append_right after others a.1 o) a.4
          ]
          );
    }

-- a record in the place of others
Keep-put : (before after : List Record) (r : Record) (entries : List Entry) (line : ℕ) → line % 64 ≡ 0
    → Replaces before after r
    → (r.line ≡ line → (who : Who) (kind : Kind) → who ≢ Other
    → AreBoundsOf (cores_of r.summary who kind) (Touches entries who kind line)) → KeepLine before entries line
    → KeepLine after entries line
Keep-put before after r entries line aligned step bounds h =
    record {
      bounds = λ q has is who kind judged. elim (step.from q has) [
        | inl old ↦ h.bounds q old is who kind judged
        | inr same ↦ subst (λ (x : Record). AreBoundsOf (cores_of x.summary who kind) (Touches entries who kind line))
            (sym same) (bounds (sym (ap (λ (x : Record). x.line) same) ∙ is) who kind judged)
      ];
      within = λ who kind core judged t. (
          let a = h.within who kind core judged t in
          let P : Record → Type 0 = λ q. (q.line ≡ line) × IsWithin (cores_of q.summary who kind) core in
          elim (step.kept a.1 (a.0, a.2, a.3) (ap (λ n. n % 64) a.4.0 ∙ aligned)) [
            | inl still ↦ any_of P after a.1 still a.4
            | inr wider ↦ (let w = wider who kind core judged a.4.1 in any_of P after r step.has (sym w.0 ∙ a.4.0, w.1))
          ]
          );
    }

abbrev both_of : Cores → Cores → Cores
both_of c d = record { least = min c.least d.least; greatest = max c.greatest d.greatest }

bounds_union : (c d : Cores) (Is : ℕ → Type 0) → AreBoundsOf c Is → AreBoundsOf d Is → AreBoundsOf (union_of c d) Is
bounds_union c d Is p q =
    cond_both (ltb c.greatest c.least) d (cond (ltb d.greatest d.least) c (both_of c d))
    (λ (x : Cores). AreBoundsOf x Is) (λ e. q) (λ e. (
    cond_both (ltb d.greatest d.least) c (both_of c d) (λ (x : Cores). AreBoundsOf x Is) (λ f. p) (λ f. (
    let a = bounds_some c Is p (ltb-false c.greatest c.least e) in
    let b = bounds_some d Is q (ltb-false d.greatest d.least f) in
    inl (
      elim (min_cases c.least d.least) [ inl m ↦ subst Is (sym m) a.0 | inr m ↦ subst Is (sym m) b.0 ],
      elim (max_cases c.greatest d.greatest) [ inl m ↦ subst Is (sym m) a.1 | inr m ↦ subst Is (sym m) b.1 ],
    )
    ))
    ))

within_union_left : (c d : Cores) (core : ℕ) → IsWithin c core → IsWithin (union_of c d) core
within_union_left c d core h =
    cond_both (ltb c.greatest c.least) d (cond (ltb d.greatest d.least) c (both_of c d))
    (λ (x : Cores). IsWithin x core)
    (λ e. absurd (omega (arith, ltb-true c.greatest c.least e, h.above, h.below)))
    (λ e. cond_both (ltb d.greatest d.least) c (both_of c d) (λ (x : Cores). IsWithin x core) (λ f. h)
    (λ f. record { above = omega (arith, h.above); below = omega (arith, h.below) }))

within_union_right : (c d : Cores) (core : ℕ) → IsWithin d core → IsWithin (union_of c d) core
within_union_right c d core h =
    cond_both (ltb c.greatest c.least) d (cond (ltb d.greatest d.least) c (both_of c d))
    (λ (x : Cores). IsWithin x core)
    (λ e. h)
    (λ e. cond_both (ltb d.greatest d.least) c (both_of c d) (λ (x : Cores). IsWithin x core)
    (λ f. absurd (omega (arith, ltb-true d.greatest d.least f, h.above, h.below)))
    (λ f. record { above = omega (arith, h.above); below = omega (arith, h.below) }))

cons_cases : (x : Record) (xs : List Record) (q : Record) → Contains (x ∷ xs) q → (q ≡ x) ⊎ Contains xs q
cons_cases x xs q has =
    elim (Contains-append_cases (x ∷ []) xs q has) [
      | inl front ↦ elim (Contains-push_cases [] x q front)
          [ inl none ↦ absurd (omega (arith, none.1)) | inr same ↦ inl (sym same) ]
      | inr back ↦ inr back
    ]

union_replaces : (front back : List Record) (a b u : Record) → a.line ≡ u.line → b.line ≡ u.line
    → ((who : Who) (kind : Kind) → who ≢ Other
    → cores_of u.summary who kind ≡ union_of (cores_of a.summary who kind) (cores_of b.summary who kind))
    → Replaces (front ++ a ∷ b ∷ back) (front ++ u ∷ back) u
union_replaces front back a b u is_a is_b union =
    record {
      from = λ q has. elim (Contains-append_cases front (u ∷ back) q has) [
        | inl f ↦ inl (Contains-append_left front (a ∷ b ∷ back) q f)
        | inr m ↦ elim (cons_cases u back q m) [
          | inl same ↦ inr same
          | inr r ↦ inl (Contains-append_right front (a ∷ b ∷ back) q (Contains-append_right (a ∷ b ∷ []) back q r))
        ]
      ];
      has = Contains-append_right front (u ∷ back) u (Contains-append_left (u ∷ []) back u (Contains-push [] u));
      kept = λ q has aligned. elim (Contains-append_cases front (a ∷ b ∷ back) q has) [
        | inl f ↦ inl (Contains-append_left front (u ∷ back) q f)
        | inr m ↦ elim (cons_cases a (b ∷ back) q m) [
          | inl same ↦ inr (λ who kind core judged h. (
            ap (λ (x : Record). x.line) same ∙ is_a,
            subst (λ (c : Cores). IsWithin c core) (sym (union who kind judged))
                (within_union_left (cores_of a.summary who kind) (cores_of b.summary who kind) core
                (subst (λ (x : Record). IsWithin (cores_of x.summary who kind) core) same h)),
          ))
          | inr n ↦ elim (cons_cases b back q n) [
            | inl same ↦ inr (λ who kind core judged h. (
              ap (λ (x : Record). x.line) same ∙ is_b,
              subst (λ (c : Cores). IsWithin c core) (sym (union who kind judged))
                  (within_union_right (cores_of a.summary who kind) (cores_of b.summary who kind) core
                  (subst (λ (x : Record). IsWithin (cores_of x.summary who kind) core) same h)),
            ))
            | inr r ↦ inl (Contains-append_right front (u ∷ back) q (Contains-append_right (u ∷ []) back q r))
          ]
        ]
      ];
    }

-- two records of one line put together
pub KeepWhat-union : (front back : List Record) (a b u : Record) → a.line ≡ u.line → b.line ≡ u.line
    → ((who : Who) (kind : Kind) → who ≢ Other
    → cores_of u.summary who kind ≡ union_of (cores_of a.summary who kind) (cores_of b.summary who kind))
    → KeepWhat (front ++ a ∷ b ∷ back) (front ++ u ∷ back)
KeepWhat-union front back a b u is_a is_b union others entries line aligned h =
    let all = others ++ front in
    let before : KeepLine (all ++ a ∷ b ∷ back) entries line =
    subst (λ (l : List Record). KeepLine l entries line) (sym (append_assoc others front (a ∷ b ∷ back))) h in
    let has_a : Contains (all ++ a ∷ b ∷ back) a =
    Contains-append_right all (a ∷ b ∷ back) a (Contains-append_left (a ∷ []) (b ∷ back) a (Contains-push [] a)) in
    let has_b : Contains (all ++ a ∷ b ∷ back) b =
    Contains-append_right all (a ∷ b ∷ back) b
    (Contains-append_right (a ∷ []) (b ∷ back) b (Contains-append_left (b ∷ []) back b (Contains-push [] b))) in
    subst (λ (l : List Record). KeepLine l entries line) (append_assoc others front (u ∷ back))
    (Keep-put (all ++ a ∷ b ∷ back) (all ++ u ∷ back) u entries line aligned
    (union_replaces all back a b u is_a is_b union)
    (λ is who kind judged. subst (λ (c : Cores). AreBoundsOf c (Touches entries who kind line))
    (sym (union who kind judged))
    (bounds_union (cores_of a.summary who kind) (cores_of b.summary who kind) (Touches entries who kind line)
    (before.bounds a has_a (is_a ∙ is) who kind judged) (before.bounds b has_b (is_b ∙ is) who kind judged)))
    before)

-- the record of a line, where it has one
pub one_summary : (records : List Record) (entries : List Entry) (r : Record) → HasOneEach records
    → StandsFor records entries → Contains records r → r.line % 64 ≡ 0 → IsSummaryOf r.summary entries r.line
one_summary records entries r one stands has aligned who kind judged =
    let h = stands r.line aligned in
    record {
      bounds = h.bounds r has refl who kind judged;
      within = λ core t. (
          let a = h.within who kind core judged t in
          let same : a.1 ≡ r = one a.1 r (a.0, a.2, a.3) has (ap (λ n. n % 64) a.4.0 ∙ aligned) a.4.0 in
          subst (λ (x : Record). IsWithin (cores_of x.summary who kind) core) same a.4.1
          );
    }

pub conflict_aligned : (entries : List Entry) (line : ℕ) → IsConflictLine entries line → line % 64 ≡ 0
conflict_aligned entries line conflict = let meets : ConflictAt conflict.1 conflict.4.1 line = conflict.4.4 in
    meets.first_covers.aligned

-- a line in conflict has a record
pub conflict_record : (records : List Record) (entries : List Entry) (line : ℕ) → StandsFor records entries
    → IsConflictLine entries line → (r : Record) × Contains records r × (r.line ≡ line)
conflict_record records entries line stands conflict =
    let x = conflict.1 in
    let meets : ConflictAt x conflict.4.1 line = conflict.4.4 in
    let t : Touches entries A x.kind line x.core = (
      conflict.0,
      x,
      conflict.2,
      conflict.3,
      record {
        who_is = meets.first;
        kind_is = refl;
        core_is = refl;
        covers =
            meets.first_covers;
      },
    ) in
    let a = (stands line meets.first_covers.aligned).within A x.kind x.core a≢other t in
    (a.1, (a.0, a.2, a.3), a.4.0)

-- records in another order keep the same
pub KeepWhat-permutation : (before after : List Record) → IsPermutation before after → KeepWhat before after
KeepWhat-permutation before after same others entries line aligned h =
    record {
      bounds = λ r has is who kind judged. elim (Contains-append_cases others after r has) [
        | inl o ↦ h.bounds r (Contains-append_left others before r o) is who kind judged
        | inr new ↦ h.bounds r (Contains-append_right others before r
            (Contains-permutation after before r (IsPermutation-sym before after same) new)) is who kind judged
      ];
      within = λ who kind core judged t. (
          let a = h.within who kind core judged t in
          let P : Record → Type 0 = λ r. (r.line ≡ line) × IsWithin (cores_of r.summary who kind) core in
          elim (Contains-append_cases others before a.1 (a.0, a.2, a.3)) [
            | inl o ↦ any_of P (others ++ after) a.1 (Contains-append_left others after a.1 o) a.4
            | inr old ↦ any_of P (others ++ after) a.1
                (Contains-append_right others after a.1 (Contains-permutation before after a.1 same old)) a.4
          ]
          );
    }

-- one record more, of a line above all others
pub one_more_each : (records : List Record) (r : Record) → All (λ (q : Record). q.line < r.line) records
    → HasOneEach records → HasOneEach (records ++ r ∷ [])
one_more_each records r below one p q has_p has_q aligned same =
    let low : (x : Record) → Contains records x → x.line < r.line =
    λ x has. All-contains (λ (y : Record). y.line < r.line) records x below has in
    elim (Contains-push_cases records r p has_p) [
      | inl p_old ↦ elim (Contains-push_cases records r q has_q) [
        | inl q_old ↦ one p q p_old q_old aligned same
        | inr is_q ↦ absurd (let l = low p p_old in let e : r.line ≡ q.line = ap (λ (x : Record). x.line) is_q in
            omega (arith, l, e, same))
      ]
      | inr is_p ↦ elim (Contains-push_cases records r q has_q) [
        | inl q_old ↦ absurd (let l = low q q_old in let e : r.line ≡ p.line = ap (λ (x : Record). x.line) is_p in
            omega (arith, l, e, same))
        | inr is_q ↦ sym is_p ∙ is_q
      ]
    ]

-- how far records in order are joined: those done, the one at hand, and those to come
pub record IsJoined (sorted all : List Record) (last : Record) (rest : List Record) : Type 0 where
  pub keep : KeepWhat sorted (all ++ last ∷ rest)
  pub one_each : HasOneEach all
  pub below : All (λ (q : Record). q.line < last.line) all
  pub order : IsNonDecreasingBy (λ (q : Record). q.line) (last ∷ rest)

order_joined : (x y u : Record) (xs : List Record) → u.line ≡ x.line
    → IsNonDecreasingBy (λ (q : Record). q.line) (x ∷ y ∷ xs) → (i j : ℕ) (d : Record) → i ≤ j → j < length (u ∷ xs)
    → (get_or (u ∷ xs) i d).line ≤ (get_or (u ∷ xs) j d).line
order_joined x y u xs is h zero zero d up within = omega arith
order_joined x y u xs is h zero (suc j) d up within =
    omega (arith, is, h zero (suc (suc j)) d (omega arith) (omega (arith, within)))
order_joined x y u xs is h (suc i) zero d up within = absurd (omega (arith, up))
order_joined x y u xs is h (suc i) (suc j) d up within =
    h (suc (suc i)) (suc (suc j)) d (omega (arith, up)) (omega (arith, within))

order_next : (x : Record) (xs : List Record) → IsNonDecreasingBy (λ (q : Record). q.line) (x ∷ xs)
    → IsNonDecreasingBy (λ (q : Record). q.line) xs
order_next x xs h i j d up within = h (suc i) (suc j) d (omega (arith, up)) (omega (arith, within))

pub join_first : (first : Record) (rest : List Record) → IsNonDecreasingBy (λ (q : Record). q.line) (first ∷ rest)
    → IsJoined (first ∷ rest) [] first rest
join_first first rest order =
    record {
      keep = λ others entries line aligned h. h;
      one_each = λ q r has. absurd (omega (arith, has.1));
      below = λ k d within. absurd (omega (arith, within));
      order = order;
    }

pub join_union : (sorted all : List Record) (last r : Record) (rest : List Record) (s : LineSummary)
    → r.line ≡ last.line → ((who : Who) (kind : Kind) → who ≢ Other
    → cores_of s who kind ≡ union_of (cores_of last.summary who kind) (cores_of r.summary who kind))
    → IsJoined sorted all last (r ∷ rest) → IsJoined sorted all record { line = last.line; summary = s } rest
join_union sorted all last r rest s is union h =
    let u : Record = record { line = last.line; summary = s } in
    record {
      keep = λ others entries line aligned k.
          KeepWhat-union all rest last r u refl is union others entries line aligned
          (h.keep others entries line aligned k);
      one_each = h.one_each;
      below = h.below;
      order = order_joined last r u rest refl h.order;
    }

pub join_push : (sorted all : List Record) (last r : Record) (rest : List Record) → (r.line ≡ last.line → ⊥)
    → IsJoined sorted all last (r ∷ rest) → IsJoined sorted (all ++ last ∷ []) r rest
join_push sorted all last r rest apart h =
    let up : last.line ≤ r.line = h.order zero (suc zero) r (omega arith) (omega arith) in
    let over : last.line < r.line = omega (arith, up, apart) in
    record {
      keep = λ others entries line aligned k. subst (λ (l : List Record). KeepLine (others ++ l) entries line)
          (sym (append_assoc all (last ∷ []) (r ∷ rest))) (h.keep others entries line aligned k);
      one_each = one_more_each all last h.below h.one_each;
      below = All-push (λ (q : Record). q.line < r.line) all last
          (λ k d within. omega (arith, h.below k d within, over)) over;
      order = order_next last (r ∷ rest) h.order;
    }

pub found_more : (records done : List Record) (lines : List ℕ) (r : Record) → HasOneEach records → Contains records r
    → r.line % 64 ≡ 0 → ((entries : List Entry) → IsSummaryOf r.summary entries r.line → IsConflictLine entries r.line)
    → AreFound records done lines → AreFound records (done ++ r ∷ []) (lines ++ r.line ∷ [])
found_more records done lines r one has aligned disputed h =
    record {
      sound = λ entries stands line in_lines. elim (Contains-push_cases lines r.line line in_lines) [
        | inl old ↦ h.sound entries stands line old
        | inr same ↦ subst (λ n. IsConflictLine entries n) same
            (disputed entries (one_summary records entries r one stands has aligned))
      ];
      complete = λ entries stands q in_done conflict. elim (Contains-push_cases done r q in_done) [
        | inl old ↦ Contains-append_left lines (r.line ∷ []) q.line (h.complete entries stands q old conflict)
        | inr same ↦ subst (λ n. Contains (lines ++ r.line ∷ []) n) (ap (λ (x : Record). x.line) same)
            (Contains-push lines r.line)
      ];
    }

found_same : (records done : List Record) (lines : List ℕ) (r : Record) → HasOneEach records → Contains records r
    → ((entries : List Entry) → (r.line % 64 ≡ 0 → IsSummaryOf r.summary entries r.line)
    → IsConflictLine entries r.line → ⊥) → AreFound records done lines → AreFound records (done ++ r ∷ []) lines
found_same records done lines r one has calm h =
    record {
      sound = h.sound;
      complete = λ entries stands q in_done conflict. elim (Contains-push_cases done r q in_done) [
        | inl old ↦ h.complete entries stands q old conflict
        | inr same ↦ absurd (calm entries (one_summary records entries r one stands has)
            (subst (λ (x : Record). IsConflictLine entries x.line) (sym same) conflict))
      ];
    }

pub found_more_at : (records : List Record) (lines : List ℕ) (i : ℕ) (d : Record) → i < length records
    → HasOneEach records → (get_or records i d).line % 64 ≡ 0
    → ((entries : List Entry) → IsSummaryOf (get_or records i d).summary entries (get_or records i d).line
    → IsConflictLine entries (get_or records i d).line) → AreFound records (take i records) lines
    → AreFound records (take (i + 1) records) (lines ++ (get_or records i d).line ∷ [])
found_more_at records lines i d within one aligned disputed h =
    subst (λ (l : List Record). AreFound records l (lines ++ (get_or records i d).line ∷ []))
    (sym (take_more records i d within))
    (found_more records (take i records) lines (get_or records i d) one
    (Contains-get_or records i d within) aligned disputed h)

found_same_at : (records : List Record) (lines : List ℕ) (i : ℕ) (d : Record) → i < length records → HasOneEach records
    → ((entries : List Entry)
    → ((get_or records i d).line % 64 ≡ 0 → IsSummaryOf (get_or records i d).summary entries (get_or records i d).line)
    → IsConflictLine entries (get_or records i d).line → ⊥) → AreFound records (take i records) lines
    → AreFound records (take (i + 1) records) lines
found_same_at records lines i d within one calm h =
    subst (λ (l : List Record). AreFound records l lines) (sym (take_more records i d within))
    (found_same records (take i records) lines (get_or records i d) one (Contains-get_or records i d within) calm h)

pub found_calm : (records : List Record) (lines : List ℕ) (i : ℕ) (d : Record) → i < length records → HasOneEach records
    → ((entries : List Entry) → (get_or records i d).line % 64 ≡ 0
    → IsSummaryOf (get_or records i d).summary entries (get_or records i d).line
    → IsConflictLine entries (get_or records i d).line → ⊥)
    → AreFound records (take i records) lines → AreFound records (take (i + 1) records) lines
found_calm records lines i d within one calm h =
    found_same_at records lines i d within one (λ entries summary conflict.
    let aligned = conflict_aligned entries (get_or records i d).line conflict in
    calm entries aligned (summary aligned) conflict) h

-- the lines found, sorted, each once
pub all_found : (records : List Record) (found sorted lines : List ℕ) → IsPermutation found sorted
    → IsSorted nat_cmp sorted → lines ≡ dedup eqb sorted → AreFound records records found → (entries : List Entry)
    → StandsFor records entries → AreConflictLines entries lines
all_found records found sorted lines same up is h entries stands =
    record {
      ascending = subst IsStrictlyIncreasing (sym is) (IsStrictlyIncreasing-dedup sorted up);
      each = λ line. (
        λ has. h.sound entries stands line
            (Contains-permutation sorted found line (IsPermutation-sym found sorted same)
            (Contains-from_dedup eqb sorted line (subst (λ (l : List ℕ). Contains l line) is has))),
        λ conflict. (
            let r = conflict_record records entries line stands conflict in
            let has : Contains found r.0.line =
            h.complete entries stands r.0 r.1 (subst (λ n. IsConflictLine entries n) (sym r.2) conflict) in
            subst (λ (l : List ℕ). Contains l line) (sym is)
            (Contains-dedup_nat sorted line
            (Contains-permutation found sorted line same (subst (λ n. Contains found n) r.2 has)))
            ),
      );
    }
