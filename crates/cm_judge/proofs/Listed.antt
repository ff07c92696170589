-- The slots that have a line, in a list.
use Rattle.std.proofs.Common.{arith, ◌≡◌, ◌≢◌, ℕ, ◌%◌, ◌+◌, ◌<◌, ◌≤◌, List, [], ◌∷◌, ◌++◌, length, get_or, sym, ap, ◌∙◌}
use Rattle.std.proofs.Common.{subst, inl, inr}
use Rattle.std.specs.List.{All, Contains}
use Rattle.std.proofs.Math.ListN.{set, length-set}
use Rattle.std.proofs.lemmas.Bool.{cases_eq}
use Rattle.std.proofs.lemmas.List.{get_or_default, get_or-set_same, get_or-set_other}
use Rattle.std.proofs.lemmas.List.Elements.{All-push, All-weaker, Contains-append_left, Contains-get_or, Contains-push}
use Rattle.cm_mtrace.specs.declared.item.Entry.{Entry}
use Rattle.cm_judge.specs.declared.slots.Record.{Record}
use Rattle.cm_judge.specs.Conflicts.{IsConflictLine}
use Rattle.cm_judge.specs.Judge.{StandsFor}
use Rattle.cm_judge.specs.Summary.{IsSummaryOf}
use Rattle.cm_judge.specs.inner.Table.{AreFound, HasOneEach, HoldsFirst, ListsLines}
use Rattle.cm_judge.proofs.Merges.{conflict_aligned, found_more, one_summary}

within_write : (slots : List Record) (used : List ℕ) (k : ℕ) (r : Record) → All (λ j. j < length slots) used
    → All (λ j. j < length (set slots k r)) used
within_write slots used k r within =
    All-weaker (λ j. j < length slots) (λ j. j < length (set slots k r))
    (λ j h. omega (arith, h, length-set slots k r)) used within

-- a record of the line that the slot has
pub lists_held : (slots : List Record) (used : List ℕ) (k line : ℕ) (r : Record) → HoldsFirst slots line k
    → line % 64 ≡ 0
    → ListsLines slots used → ListsLines (set slots k r) used
lists_held slots used k line r holds aligned lists =
    record {
      within = within_write slots used k r lists.within;
      each = λ j d in_table has. elim (cases_eq j k) [
        | inl is ↦ subst (λ m. Contains used m) (sym is)
            (lists.each k d holds.in_table (ap (λ n. n % 64) (holds.here d) ∙ aligned))
        | inr apart ↦ lists.each j d (omega (arith, in_table, length-set slots k r))
            (sym (ap (λ (q : Record). q.line % 64) (get_or-set_other slots k j r d apart)) ∙ has)
      ];
    }

-- one slot more
pub lists_filled : (slots : List Record) (used : List ℕ) (k : ℕ) (r : Record) → k < length slots
    → ListsLines slots used → ListsLines (set slots k r) (used ++ k ∷ [])
lists_filled slots used k r within lists =
    record {
      within = All-push (λ j. j < length (set slots k r)) used k (within_write slots used k r lists.within)
          (omega (arith, within, length-set slots k r));
      each = λ j d in_table has. elim (cases_eq j k) [
        | inl is ↦ subst (λ m. Contains (used ++ k ∷ []) m) (sym is) (Contains-push used k)
        | inr apart ↦ Contains-append_left used (k ∷ []) j
            (lists.each j d (omega (arith, in_table, length-set slots k r))
            (sym (ap (λ (q : Record). q.line % 64) (get_or-set_other slots k j r d apart)) ∙ has))
      ];
    }

-- free slots need no list
pub lists_none : (slots : List Record) → All (λ (r : Record). r.line % 64 ≢ 0) slots → ListsLines slots []
lists_none slots free =
    record {
      within = λ k d below. absurd (omega (arith, below));
      each = λ k d in_table aligned. absurd (free k d in_table aligned);
    }

-- the slots that have a line are listed from this place on
pub ListedFrom : List Record → List ℕ → ℕ → Type 0
ListedFrom slots used i =
    (k : ℕ) (d : Record) → k < length slots → (get_or slots k d).line % 64 ≡ 0
    → (j : ℕ) × (i ≤ j) × (j < length used) × (get_or used j 0 ≡ k)

pub listed_first : (slots : List Record) (used : List ℕ) → ListsLines slots used → ListedFrom slots used 0
unfolding ListedFrom
listed_first slots used lists k d in_table aligned =
    let has = lists.each k d in_table aligned in
    (has.0, omega arith, has.1, get_or_default used has.0 0 k has.1 ∙ has.2)

pub listed_next : (slots : List Record) (used : List ℕ) (i : ℕ) (free : Record) → i < length used → free.line % 64 ≢ 0
    → ListedFrom slots used i
    → ListedFrom (set slots (get_or used i 0) free) used (i + 1)
unfolding ListedFrom
listed_next slots used i free within is_free h k d in_table aligned =
    elim (cases_eq k (get_or used i 0)) [
      | inl is ↦ absurd (is_free (
          let at : get_or (set slots (get_or used i 0) free) k d ≡ free =
          ap (λ (m : ℕ). get_or (set slots (get_or used i 0) free) m d) is
          ∙ get_or-set_same slots (get_or used i 0) free d
          (omega (arith, in_table, is, length-set slots (get_or used i 0) free)) in
          sym (ap (λ (q : Record). q.line % 64) at) ∙ aligned
          ))
      | inr apart ↦
          let was = h k d (omega (arith, in_table, length-set slots (get_or used i 0) free))
          (sym (ap (λ (q : Record). q.line % 64) (get_or-set_other slots (get_or used i 0) k free d apart)) ∙
          aligned) in
          elim (cases_eq was.0 i) [
            | inl here ↦ absurd (apart (sym was.3 ∙ ap (λ (m : ℕ). get_or used m 0) here))
            | inr later ↦ (was.0, omega (arith, was.1, later), was.2, was.3)
          ]
    ]

pub listed_all : (slots : List Record) (used : List ℕ) (i : ℕ) → length used ≤ i → ListedFrom slots used i
    → All (λ (r : Record). r.line % 64 ≢ 0) slots
unfolding ListedFrom
listed_all slots used i over h k d in_table aligned = let was = h k d in_table aligned in
    omega (arith, was.1, was.2, over)

-- the lines in conflict of the first so many that are listed
pub record FoundAt (records : List Record) (used : List ℕ) (done : ℕ) (lines : List ℕ) : Type 0 where
  pub sound : (entries : List Entry) → StandsFor records entries → (line : ℕ) → Contains lines line
      → IsConflictLine entries line
  pub complete : (entries : List Entry) → StandsFor records entries → (i : ℕ) (d : Record) → i < done
      → IsConflictLine entries (get_or records (get_or used i 0) d).line
      → Contains lines (get_or records (get_or used i 0) d).line

pub found_none : (records : List Record) (used : List ℕ) → FoundAt records used 0 []
found_none records used =
    record {
      sound = λ entries stands line has. absurd (omega (arith, has.1));
      complete = λ entries stands i d below. absurd (omega (arith, below));
    }

-- the record at a place, whatever stands for one beyond the end
same_at : (records : List Record) (k : ℕ) (d e : Record) → k < length records
    → (get_or records k d).line ≡ (get_or records k e).line
same_at records k d e within = ap (λ (q : Record). q.line) (get_or_default records k d e within)

pub found_push : (records : List Record) (used lines : List ℕ) (i : ℕ) (d : Record)
    → All (λ k. k < length records) used → i < length used → HasOneEach records
    → (get_or records (get_or used i 0) d).line % 64 ≡ 0
    → ((entries : List Entry)
    → IsSummaryOf (get_or records (get_or used i 0) d).summary entries (get_or records (get_or used i 0) d).line
    → IsConflictLine entries (get_or records (get_or used i 0) d).line)
    → FoundAt records used i lines
    → FoundAt records used (i + 1) (lines ++ (get_or records (get_or used i 0) d).line ∷ [])
found_push records used lines i d all within one aligned disputed h =
    let k = get_or used i 0 in
    let r = get_or records k d in
    let below : k < length records = all i 0 within in
    let more = found_more records [] lines r one (Contains-get_or records k d below) aligned disputed record {
      sound = h.sound;
      complete = λ entries stands q has. absurd (omega (arith, has.1));
    } in
    record {
      sound = more.sound;
      complete = λ entries stands j e before conflict. elim (cases_eq j i) [
        | inl is ↦
            let same : (get_or records (get_or used j 0) e).line ≡ r.line =
            ap (λ (m : ℕ). (get_or records (get_or used m 0) e).line) is ∙ same_at records k e d below in
            subst (λ n. Contains (lines ++ r.line ∷ []) n) (sym same) (Contains-push lines r.line)
        | inr apart ↦ Contains-append_left lines (r.line ∷ []) (get_or records (get_or used j 0) e).line
            (h.complete entries stands j e (omega (arith, before, apart)) conflict)
      ];
    }

pub found_skip : (records : List Record) (used lines : List ℕ) (i : ℕ) (d : Record)
    → All (λ k. k < length records) used → i < length used → HasOneEach records
    → ((entries : List Entry) → (get_or records (get_or used i 0) d).line % 64 ≡ 0
    → IsSummaryOf (get_or records (get_or used i 0) d).summary entries (get_or records (get_or used i 0) d).line
    → IsConflictLine entries (get_or records (get_or used i 0) d).line → ⊥)
    → FoundAt records used i lines → FoundAt records used (i + 1) lines
found_skip records used lines i d all within one calm h =
    let k = get_or used i 0 in
    let r = get_or records k d in
    let below : k < length records = all i 0 within in
    record {
      sound = h.sound;
      complete = λ entries stands j e before conflict. elim (cases_eq j i) [
        | inl is ↦
            let same : (get_or records (get_or used j 0) e).line ≡ r.line =
            ap (λ (m : ℕ). (get_or records (get_or used m 0) e).line) is ∙ same_at records k e d below in
            let here : IsConflictLine entries r.line = subst (λ n. IsConflictLine entries n) same conflict in
            let aligned = conflict_aligned entries r.line here in
            absurd (calm entries aligned
            (one_summary records entries r one stands (Contains-get_or records k d below) aligned) here)
        | inr apart ↦ h.complete entries stands j e (omega (arith, before, apart)) conflict
      ];
    }

-- all that are listed are all
pub found_listed : (records : List Record) (used lines : List ℕ) (i : ℕ) → ListsLines records used → length used ≤ i
    → FoundAt records used i lines → AreFound records records lines
found_listed records used lines i lists over h =
    record {
      sound = h.sound;
      complete = λ entries stands r has conflict.
          let aligned = conflict_aligned entries r.line conflict in
          let at : (get_or records has.0 r).line ≡ r.line = ap (λ (q : Record). q.line) has.2 in
          let listed = lists.each has.0 r has.1 (ap (λ n. n % 64) at ∙ aligned) in
          let used_at : get_or used listed.0 0 ≡ has.0 = get_or_default used listed.0 0 has.0 listed.1 ∙ listed.2 in
          let same : (get_or records (get_or used listed.0 0) r).line ≡ r.line =
          ap (λ (m : ℕ). (get_or records m r).line) used_at ∙ at in
          subst (λ n. Contains lines n) same
          (h.complete entries stands listed.0 r (omega (arith, listed.1, over))
          (subst (λ n. IsConflictLine entries n) (sym same) conflict));
    }
