-- The lines of an access, noted one after another.
use Rattle.std.proofs.Common.{arith, ◌≡◌, ◌≢◌, ◌⊎◌, ◌↔◌, ℕ, ◌+◌, ◌-◌, ◌*◌, ◌/◌, ◌%◌, ◌<◌, List, [], ◌∷◌, ◌++◌, ap, sym}
use Rattle.std.proofs.Common.{◌∙◌, subst, inl, inr}
use Rattle.std.specs.List.{All}
use Rattle.std.proofs.lemmas.Bool.{cases_eq, cases_lt}
use Rattle.std.proofs.lemmas.List.Elements.{All-contains}
use Rattle.cm_mtrace.specs.Lines.{Covers}
use Rattle.cm_mtrace.specs.declared.item.Entry.{Entry}
use Rattle.cm_mtrace.specs.declared.item.Who.{Who}
use Rattle.cm_mtrace.specs.declared.item.Who.TheVariants.{Other}
use Rattle.cm_mtrace.specs.declared.item.Kind.{Kind}
use Rattle.cm_judge.specs.declared.slots.Record.{Record}
use Rattle.cm_judge.specs.Judge.{KeepLine, StandsFor}
use Rattle.cm_judge.specs.Summary.{cores_of, IsAccess, Touches}
use Rattle.cm_judge.specs.declared.line.Lines.{Lines}
use Rattle.cm_judge.specs.inner.Table.{AreLinesOf, Notes}
use Rattle.cm_judge.proofs.Keeps.{Any-more}

-- the line is one of the first so many
abbrev pub IsOneOf : ℕ → ℕ → ℕ → Type 0
IsOneOf first k line = (j : ℕ) × (j < k) × (line ≡ first + 64 * j)

-- the access was added at its first so many lines, and nowhere else
pub record IsNoted (before after : List Record) (first k : ℕ) (e : Entry) : Type 0 where
  pub done : (entries : List Entry) (line : ℕ) → line % 64 ≡ 0 → IsOneOf first k line → KeepLine before entries line
      → KeepLine after (entries ++ e ∷ []) line
  pub ahead : (entries : List Entry) (line : ℕ) → line % 64 ≡ 0 → (IsOneOf first k line → ⊥)
      → KeepLine before entries line → KeepLine after entries line

pub noted_none : (records : List Record) (first : ℕ) (e : Entry) → IsNoted records records first 0 e
noted_none records first e =
    record {
      done = λ entries line aligned is h. absurd (omega (arith, is.1));
      ahead = λ entries line aligned not h. h;
    }

pub noted_more : (before now after : List Record) (first k here : ℕ) (e : Entry) → here ≡ first + 64 * k
    → Notes now after here e → IsNoted before now first k e → IsNoted before after first (k + 1) e
noted_more before now after first k here e is notes h =
    record {
      done = λ entries line aligned one b. elim (cases_lt one.0 k) [
        | inl below ↦ notes.elsewhere (entries ++ e ∷ []) line aligned (λ same. omega (arith, same, is, one.2, below))
            (h.done entries line aligned (one.0, below, one.2) b)
        | inr above ↦
            let same : here ≡ line = omega (arith, is, one.1, one.2, above) in
            let b_here : KeepLine before entries here = subst (λ n. KeepLine before entries n) (sym same) b in
            subst (λ n. KeepLine after (entries ++ e ∷ []) n) same
            (notes.here entries (h.ahead entries here (ap (λ n. n % 64) same ∙ aligned)
            (λ o. omega (arith, is, o.1, o.2)) b_here))
      ];
      ahead = λ entries line aligned not b. notes.elsewhere entries line aligned
          (λ same. not (k, omega arith, same ∙ is))
          (h.ahead entries line aligned (λ o. not (o.0, omega (arith, o.1), o.2)) b);
    }

one_of : (first count line : ℕ) → IsOneOf first count line ⊎ (IsOneOf first count line → ⊥)
one_of first count line =
    elim (cases_lt line first) [
      | inl low ↦ inr (λ o. omega (arith, low, o.2))
      | inr high ↦ elim (cases_eq (first + 64 * ((line - first) / 64)) line) [
        | inl e ↦ elim (cases_lt ((line - first) / 64) count) [
          | inl below ↦ inl ((line - first) / 64, below, sym e)
          | inr above ↦ inr (λ o. omega (arith, above, o.1, o.2, high))
        ]
        | inr apart ↦ inr (λ o. apart (omega (arith, o.2, high)))
      ]
    ]

-- an entry that does not touch the line changes nothing there
Keep-untouched : (records : List Record) (entries : List Entry) (e : Entry) (line : ℕ)
    → ((who : Who) (kind : Kind) (core : ℕ) → who ≢ Other → IsAccess e who kind line core → ⊥)
    → KeepLine records entries line → KeepLine records (entries ++ e ∷ []) line
Keep-untouched records entries e line apart h =
    let more : (who : Who) (kind : Kind) (core : ℕ) → Touches entries who kind line core
    → Touches (entries ++ e ∷ []) who kind line core =
    λ who kind core t. (Any-more (λ x. IsAccess x who kind line core) entries e).1 (inl t) in
    record {
      bounds = λ r has is who kind judged. elim (h.bounds r has is who kind judged) [
        | inl b ↦ inl (
          more who kind (cores_of r.summary who kind).least b.0,
          more who kind
              (cores_of r.summary who kind).greatest b.1,
        )
        | inr none ↦ inr none
      ];
      within = λ who kind core judged t. elim ((Any-more (λ x. IsAccess x who kind line core) entries e).0 t) [
        | inl old ↦ h.within who kind core judged old
        | inr a ↦ absurd (apart who kind core judged a)
      ];
    }

-- all lines are noted
pub noted_all : (before after : List Record) (first count : ℕ) (e : Entry)
    → ((line : ℕ) → Covers e line ↔ IsOneOf first count line) → IsNoted before after first count e
    → (entries : List Entry) → StandsFor before entries → StandsFor after (entries ++ e ∷ [])
noted_all before after first count e lines h entries stands line aligned =
    elim (one_of first count line) [
      | inl one ↦ h.done entries line aligned one (stands line aligned)
      | inr not ↦ Keep-untouched after entries e line (λ who kind core judged a. not ((lines line).0 a.covers))
          (h.ahead entries line aligned not (stands line aligned))
    ]

-- the only line of an access is noted
pub noted_one : (before after : List Record) (e : Entry) (lines : Lines) → lines.count ≡ 1 → AreLinesOf e lines
    → Notes before after lines.first e → (entries : List Entry) → StandsFor before entries
    → StandsFor after (entries ++ e ∷ [])
noted_one before after e lines one are notes =
    noted_all before after lines.first 1 e
    (subst (λ n. (line : ℕ) → Covers e line ↔ IsOneOf lines.first n line) one are)
    (noted_more before before after lines.first 0 lines.first e (omega arith) notes (noted_none before lines.first e))

-- an entry of neither call changes nothing
pub stands_other : (records : List Record) (entries : List Entry) (e : Entry) → e.who ≡ Other
    → StandsFor records entries → StandsFor records (entries ++ e ∷ [])
stands_other records entries e other stands line aligned =
    Keep-untouched records entries e line (λ who kind core judged a. judged (sym a.who_is ∙ other))
    (stands line aligned)

-- free records stand for no entries
pub stands_free : (records : List Record) → All (λ (r : Record). r.line % 64 ≢ 0) records → StandsFor records []
stands_free records free line aligned =
    record {
      bounds = λ r has is who kind judged. absurd
          (All-contains (λ (x : Record). x.line % 64 ≢ 0) records r free has (ap (λ n. n % 64) is ∙ aligned));
      within = λ who kind core judged t. absurd (omega (arith, t.2));
    }
