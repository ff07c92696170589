-- What the records keep, as records are written and added.
use Rattle.std.proofs.Common.{arith, ◌≡◌, ◌≢◌, ◌⊎◌, ◌↔◌, ℕ, ◌%◌, ◌<◌, ◌≤◌, List, [], ◌∷◌, ◌++◌, length, get_or, refl}
use Rattle.std.proofs.Common.{sym, ap, ◌∙◌, subst, inl, inr, min, max}
use Rattle.std.specs.List.{Any, Contains}
use Rattle.std.proofs.Math.ListN.{set, length-set}
use Rattle.std.proofs.lemmas.Bool.{cases_eq, cases_lt}
use Rattle.std.proofs.lemmas.List.{get_or_default, get_or-set_same, get_or-set_other}
use Rattle.std.proofs.lemmas.List.Elements.{Contains-append_left, Contains-append_right, Contains-append_cases}
use Rattle.std.proofs.lemmas.List.Elements.{Contains-get_or, Contains-push, Contains-push_cases}
use Rattle.cm_mtrace.specs.Lines.{Covers}
use Rattle.cm_mtrace.specs.declared.item.Entry.{Entry}
use Rattle.cm_mtrace.specs.declared.item.Who.{Who}
use Rattle.cm_mtrace.specs.declared.item.Who.TheVariants.{A, B, Other}
use Rattle.cm_mtrace.specs.declared.item.Kind.{Kind}
use Rattle.cm_mtrace.specs.declared.item.Kind.TheVariants.{Read, Write}
use Rattle.cm_judge.specs.declared.summary.Cores.{Cores}
use Rattle.cm_judge.specs.declared.summary.LineSummary.{LineSummary}
use Rattle.cm_judge.specs.declared.slots.Record.{Record}
use Rattle.cm_judge.specs.Judge.{KeepLine}
use Rattle.cm_judge.specs.Summary.{AreBoundsOf, cores_of, IsAccess, IsWithin, no_cores, Touches, with_core}
use Rattle.cm_judge.specs.inner.Table.{HoldsFirst, IsFreeFor, IsOfFirst, Notes}

pub any_of : {X : Type 0} (P : X → Type 0) (xs : List X) (x : X) → Contains xs x → P x → Any P xs
any_of P xs x has p = (has.0, x, has.1, has.2, p)

-- some element of a list with one more
pub Any-more : {X : Type 0} (P : X → Type 0) (xs : List X) (y : X) → Any P (xs ++ y ∷ []) ↔ (Any P xs ⊎ P y)
Any-more P xs y = (
  λ a. elim (Contains-push_cases xs y a.1 (a.0, a.2, a.3)) [
    | inl old ↦ inl (any_of P xs a.1 old a.4)
    | inr same ↦ inr (subst P (sym same) a.4)
  ],
  λ h. elim h [
    | inl a ↦ any_of P (xs ++ y ∷ []) a.1 (Contains-append_left xs (y ∷ []) a.1 (a.0, a.2, a.3)) a.4
    | inr p ↦ any_of P (xs ++ y ∷ []) y (Contains-push xs y) p
  ],
)

-- the bounds of more cores
bounds_more : (c : Cores) (Before After : ℕ → Type 0) → ((core : ℕ) → Before core → After core) → AreBoundsOf c Before
    → AreBoundsOf c After
bounds_more c Before After grow h = elim h [ inl b ↦ inl (grow c.least b.0, grow c.greatest b.1) | inr none ↦ inr none ]

pub min_cases : (m n : ℕ) → (min m n ≡ m) ⊎ (min m n ≡ n)
min_cases m n = elim (cases_lt m n) [ inl below ↦ inl (omega arith) | inr above ↦ inr (omega arith) ]

pub max_cases : (m n : ℕ) → (max m n ≡ m) ⊎ (max m n ≡ n)
max_cases m n = elim (cases_lt m n) [ inl below ↦ inr (omega arith) | inr above ↦ inl (omega arith) ]

-- bounds in order are those of some cores
pub bounds_some : (c : Cores) (Is : ℕ → Type 0) → AreBoundsOf c Is → c.least ≤ c.greatest → Is c.least × Is c.greatest
bounds_some c Is h some =
    elim h [
      | inl b ↦ b
      | inr none ↦ absurd (
          let least : c.least ≡ 65535 = ap (λ (d : Cores). d.least) none in
          let greatest : c.greatest ≡ 0 = ap (λ (d : Cores). d.greatest) none in
          omega arith
          )
    ]

bounds_with : (c : Cores) (core : ℕ) (Before After : ℕ → Type 0) → core ≤ 65535
    → ((other : ℕ) → Before other → After other) → After core → AreBoundsOf c Before
    → AreBoundsOf (with_core c core) After
bounds_with c core Before After small grow own h =
    elim h [
      | inl b ↦ inl (
        elim (min_cases c.least core)
            [ inl e ↦ subst After (sym e) (grow c.least b.0) | inr e ↦ subst After (sym e) own ],
        elim (max_cases c.greatest core)
            [ inl e ↦ subst After (sym e) (grow c.greatest b.1) | inr e ↦ subst After (sym e) own ],
      )
      | inr none ↦
          let least : min c.least core ≡ core =
          (let e : c.least ≡ 65535 = ap (λ (d : Cores). d.least) none in omega arith) in
          let greatest : max c.greatest core ≡ core =
          (let e : c.greatest ≡ 0 = ap (λ (d : Cores). d.greatest) none in omega arith) in
          inl (subst After (sym least) own, subst After (sym greatest) own)
    ]

who_cases : (w x : Who) → (w ≡ x) ⊎ (w ≢ x)
who_cases A A = inl refl
who_cases A B = inr (λ e. cc)
who_cases A Other = inr (λ e. cc)
who_cases B A = inr (λ e. cc)
who_cases B B = inl refl
who_cases B Other = inr (λ e. cc)
who_cases Other A = inr (λ e. cc)
who_cases Other B = inr (λ e. cc)
who_cases Other Other = inl refl

kind_cases : (k m : Kind) → (k ≡ m) ⊎ (k ≢ m)
kind_cases Read Read = inl refl
kind_cases Read Write = inr (λ e. cc)
kind_cases Write Read = inr (λ e. cc)
kind_cases Write Write = inl refl

same_access : (w : Who) (k : Kind) (x : Who) (m : Kind) → ((w ≡ x) × (k ≡ m)) ⊎ ((w ≢ x) ⊎ (k ≢ m))
same_access w k x m =
    elim (who_cases w x) [
      | inl e ↦ elim (kind_cases k m) [ inl f ↦ inl (e, f) | inr apart ↦ inr (inr apart) ]
      | inr apart ↦ inr (inl apart)
    ]

-- the records are those of before and one that stands in the place of those that are gone
pub record Replaces (before after : List Record) (r : Record) : Type 0 where
  pub from : (q : Record) → Contains after q → Contains before q ⊎ (q ≡ r)
  pub has : Contains after r
  pub kept : (q : Record) → Contains before q → q.line % 64 ≡ 0
      → Contains after q ⊎ ((who : Who) (kind : Kind) (core : ℕ) → who ≢ Other
      → IsWithin (cores_of q.summary who kind) core → (q.line ≡ r.line) × IsWithin (cores_of r.summary who kind) core)

touches_more : (entries : List Entry) (e : Entry) (who : Who) (kind : Kind) (line core : ℕ)
    → Touches entries who kind line core → Touches (entries ++ e ∷ []) who kind line core
touches_more entries e who kind line core t = (Any-more (λ x. IsAccess x who kind line core) entries e).1 (inl t)

pub set_from : (xs : List Record) (k : ℕ) (r q : Record) → k < length xs → Contains (set xs k r) q
    → Contains xs q ⊎ (q ≡ r)
set_from xs k r q within has =
    elim (cases_eq has.0 k) [
      | inl e ↦ inr (sym has.2 ∙ ap (λ (i : ℕ). get_or (set xs k r) i q) e ∙ get_or-set_same xs k r q within)
      | inr apart ↦ inl (
        has.0,
        omega (arith, has.1, length-set xs k r),
        sym (get_or-set_other xs k has.0 r q apart) ∙
            has.2,
      )
    ]

pub set_kept : (xs : List Record) (k : ℕ) (r d q : Record) → k < length xs → Contains xs q
    → Contains (set xs k r) q ⊎ (q ≡ get_or xs k d)
set_kept xs k r d q within has =
    elim (cases_eq has.0 k) [
      | inl e ↦ inr (sym has.2 ∙ ap (λ (i : ℕ). get_or xs i q) e ∙ get_or_default xs k q d within)
      | inr apart ↦ inl (has.0, omega (arith, has.1, length-set xs k r), get_or-set_other xs k has.0 r q apart ∙ has.2)
    ]

pub Replaces-set : (slots rest : List Record) (k : ℕ) (r d : Record) → k < length slots
    → ((get_or slots k d).line % 64 ≡ 0 → (who : Who) (kind : Kind) (core : ℕ) → who ≢ Other
    → IsWithin (cores_of (get_or slots k d).summary who kind) core
    → ((get_or slots k d).line ≡ r.line) × IsWithin (cores_of r.summary who kind) core)
    → Replaces (slots ++ rest) (set slots k r ++ rest) r
Replaces-set slots rest k r d within wider =
    record {
      from = λ q has. elim (Contains-append_cases (set slots k r) rest q has) [
        | inl s ↦ elim (set_from slots k r q within s)
            [ inl old ↦ inl (Contains-append_left slots rest q old) | inr same ↦ inr same ]
        | inr s ↦ inl (Contains-append_right slots rest q s)
      ];
      has = Contains-append_left (set slots k r) rest r
          (k, omega (arith, within, length-set slots k r), get_or-set_same slots k r r within);
      kept = λ q has aligned. elim (Contains-append_cases slots rest q has) [
        | inl s ↦ elim (set_kept slots k r d q within s) [
          | inl still ↦ inl (Contains-append_left (set slots k r) rest q still)
          | inr gone ↦ inr (λ who kind core judged is. (
              let w = wider (subst (λ (x : Record). x.line % 64 ≡ 0) gone aligned) who kind core judged
              (subst (λ (x : Record). IsWithin (cores_of x.summary who kind) core) gone is) in
              (ap (λ (x : Record). x.line) gone ∙ w.0, w.1)
              ))
        ]
        | inr s ↦ inl (Contains-append_right (set slots k r) rest q s)
      ];
    }

pub Replaces-push : (slots rest : List Record) (r : Record) → Replaces (slots ++ rest) (slots ++ (rest ++ r ∷ [])) r
Replaces-push slots rest r =
    record {
      from = λ q has. elim (Contains-append_cases slots (rest ++ r ∷ []) q has) [
        | inl s ↦ inl (Contains-append_left slots rest q s)
        | inr s ↦ elim (Contains-push_cases rest r q s)
            [ inl old ↦ inl (Contains-append_right slots rest q old) | inr same ↦ inr (sym same) ]
      ];
      has = Contains-append_right slots (rest ++ r ∷ []) r (Contains-push rest r);
      kept = λ q has aligned. inl (elim (Contains-append_cases slots rest q has) [
        | inl s ↦ Contains-append_left slots (rest ++ r ∷ []) q s
        | inr s ↦ Contains-append_right slots (rest ++ r ∷ []) q (Contains-append_left rest (r ∷ []) q s)
      ]);
    }

-- a summary with one more access is as wide
pub wider_add : (s t : LineSummary) (e : Entry) → cores_of t e.who e.kind ≡ with_core (cores_of s e.who e.kind) e.core
    → ((who : Who) (kind : Kind) → (who ≢ e.who) ⊎ (kind ≢ e.kind) → cores_of t who kind ≡ cores_of s who kind)
    → (who : Who) (kind : Kind) (core : ℕ) → IsWithin (cores_of s who kind) core → IsWithin (cores_of t who kind) core
wider_add s t e own others who kind core h =
    elim (same_access who kind e.who e.kind) [
      | inl same ↦
          let was : IsWithin (cores_of s e.who e.kind) core =
          subst (λ (k : Kind). IsWithin (cores_of s e.who k) core) same.1
          (subst (λ (w : Who). IsWithin (cores_of s w kind) core) same.0 h) in
          let now : IsWithin (cores_of t e.who e.kind) core =
          subst (λ (c : Cores). IsWithin c core)
          (sym own) record { above = omega (arith, was.above); below = omega (arith, was.below) } in
          subst (λ (w : Who). IsWithin (cores_of t w kind) core) (sym same.0)
          (subst (λ (k : Kind). IsWithin (cores_of t e.who k) core) (sym same.1) now)
      | inr apart ↦ subst (λ (c : Cores). IsWithin c core) (sym (others who kind apart)) h
    ]

-- an access of the record's line
pub Keep-here : (before after : List Record) (r : Record) (entries : List Entry) (e : Entry) (line : ℕ) → r.line ≡ line
    → Replaces before after r → Covers e line → e.core ≤ 65535
    → ((c : Cores) × AreBoundsOf c (Touches entries e.who e.kind line)
    × (cores_of r.summary e.who e.kind ≡ with_core c e.core))
    → ((who : Who) (kind : Kind) → who ≢ Other → (who ≢ e.who) ⊎ (kind ≢ e.kind)
    → AreBoundsOf (cores_of r.summary who kind) (Touches entries who kind line))
    → KeepLine before entries line → KeepLine after (entries ++ e ∷ []) line
Keep-here before after r entries e line is_line step covers small own others h =
    let all = entries ++ e ∷ [] in
    let here : Touches all e.who e.kind line e.core =
    (Any-more (λ x. IsAccess x e.who e.kind line e.core) entries e).1
    (inr record { who_is = refl; kind_is = refl; core_is = refl; covers = covers }) in
    let grow : (c : Cores) (who : Who) (kind : Kind) → AreBoundsOf c (Touches entries who kind line)
    → AreBoundsOf c (Touches all who kind line) =
    λ c who kind. bounds_more c (Touches entries who kind line) (Touches all who kind line)
    (touches_more entries e who kind line) in
    let own_bounds : AreBoundsOf (cores_of r.summary e.who e.kind) (Touches all e.who e.kind line) =
    subst (λ (c : Cores). AreBoundsOf c (Touches all e.who e.kind line)) (sym own.2)
    (bounds_with own.0 e.core (Touches entries e.who e.kind line) (Touches all e.who e.kind line) small
    (touches_more entries e e.who e.kind line) here own.1) in
    let own_within : IsWithin (cores_of r.summary e.who e.kind) e.core =
    subst (λ (c : Cores). IsWithin c e.core) (sym own.2) record { above = omega arith; below = omega arith } in
    let bounds_of_r : (who : Who) (kind : Kind) → who ≢ Other
    → AreBoundsOf (cores_of r.summary who kind) (Touches all who kind line) =
    λ who kind judged. elim (same_access who kind e.who e.kind) [
      | inl same ↦ subst (λ (w : Who). AreBoundsOf (cores_of r.summary w kind) (Touches all w kind line)) (sym same.0)
          (subst (λ (k : Kind). AreBoundsOf (cores_of r.summary e.who k) (Touches all e.who k line))
          (sym same.1) own_bounds)
      | inr apart ↦ grow (cores_of r.summary who kind) who kind (others who kind judged apart)
    ] in
    let old_within : (who : Who) (kind : Kind) (core : ℕ) → who ≢ Other → Touches entries who kind line core
    → Any (λ (q : Record). (q.line ≡ line) × IsWithin (cores_of q.summary who kind) core) after =
    λ who kind core judged t. (
    let a = h.within who kind core judged t in
    elim (step.kept a.1 (a.0, a.2, a.3) (subst (λ n. n % 64 ≡ 0) (sym a.4.0) covers.aligned)) [
      | inl still ↦ any_of (λ (q : Record). (q.line ≡ line) × IsWithin (cores_of q.summary who kind) core) after a.1
          still a.4
      | inr wider ↦ any_of (λ (q : Record). (q.line ≡ line) × IsWithin (cores_of q.summary who kind) core) after r
          step.has (is_line, (wider who kind core judged a.4.1).1)
    ]
    ) in
    record {
      bounds = λ q has is who kind judged. elim (step.from q has) [
        | inl old ↦ grow (cores_of q.summary who kind) who kind (h.bounds q old is who kind judged)
        | inr same ↦ subst (λ (x : Record). AreBoundsOf (cores_of x.summary who kind) (Touches all who kind line))
            (sym same) (bounds_of_r who kind judged)
      ];
      within = λ who kind core judged t. elim ((Any-more (λ x. IsAccess x who kind line core) entries e).0 t) [
        | inl old ↦ old_within who kind core judged old
        | inr a ↦ any_of (λ (q : Record). (q.line ≡ line) × IsWithin (cores_of q.summary who kind) core) after r
            step.has (
              is_line,
              subst (λ (w : Who). IsWithin (cores_of r.summary w kind) core) a.who_is
                  (subst (λ (k : Kind). IsWithin (cores_of r.summary e.who k) core) a.kind_is
                  (subst (λ (n : ℕ). IsWithin (cores_of r.summary e.who e.kind) n) a.core_is own_within)),
            )
      ];
    }

-- the other lines stay
pub Keep-elsewhere : (before after : List Record) (r : Record) (entries : List Entry) (other : ℕ) → other % 64 ≡ 0
    → Replaces before after r → (other ≢ r.line) → KeepLine before entries other → KeepLine after entries other
Keep-elsewhere before after r entries other aligned step apart h =
    record {
      bounds = λ q has is who kind judged. elim (step.from q has) [
        | inl old ↦ h.bounds q old is who kind judged
        | inr same ↦ absurd (apart (sym is ∙ ap (λ (x : Record). x.line) same))
      ];
      within = λ who kind core judged t. (
          let a = h.within who kind core judged t in
          elim (step.kept a.1 (a.0, a.2, a.3) (subst (λ n. n % 64 ≡ 0) (sym a.4.0) aligned)) [
            | inl still ↦ any_of (λ (q : Record). (q.line ≡ other) × IsWithin (cores_of q.summary who kind) core) after
                a.1 still a.4
            | inr wider ↦ absurd (apart (sym a.4.0 ∙ (wider who kind core judged a.4.1).0))
          ]
          );
    }

held_replaces : (slots rest : List Record) (k : ℕ) (d : Record) (e : Entry) (s : LineSummary) → k < length slots
    → cores_of s e.who e.kind ≡ with_core (cores_of (get_or slots k d).summary e.who e.kind) e.core
    → ((who : Who) (kind : Kind) → (who ≢ e.who) ⊎ (kind ≢ e.kind)
    → cores_of s who kind ≡ cores_of (get_or slots k d).summary who kind)
    → Replaces (slots ++ rest)
    (set slots k record { line = (get_or slots k d).line; summary = s } ++ rest) record {
      line =
          (get_or slots k d).line;
      summary = s;
    }
held_replaces slots rest k d e s within own others =
    Replaces-set slots rest k record { line = (get_or slots k d).line; summary = s } d within
    (λ aligned who kind core judged is.
    (refl, wider_add (get_or slots k d).summary s e own others who kind core is))

-- an access of the line that a slot has
pub Keep-held : (slots rest : List Record) (k line : ℕ) (d : Record) (e : Entry) (s : LineSummary) → k < length slots
    → (get_or slots k d).line ≡ line → Covers e line → e.who ≢ Other → e.core ≤ 65535
    → cores_of s e.who e.kind ≡ with_core (cores_of (get_or slots k d).summary e.who e.kind) e.core
    → ((who : Who) (kind : Kind) → (who ≢ e.who) ⊎ (kind ≢ e.kind)
    → cores_of s who kind ≡ cores_of (get_or slots k d).summary who kind)
    → (entries : List Entry) → KeepLine (slots ++ rest) entries line
    → KeepLine (set slots k record { line = (get_or slots k d).line; summary = s } ++ rest) (entries ++ e ∷ []) line
Keep-held slots rest k line d e s within is covers judged small own others entries h =
    let old = get_or slots k d in
    let r : Record = record { line = old.line; summary = s } in
    let has : Contains (slots ++ rest) old = Contains-append_left slots rest old (Contains-get_or slots k d within) in
    Keep-here (slots ++ rest) (set slots k r ++ rest) r entries e line is
    (held_replaces slots rest k d e s within own others) covers small
    (cores_of old.summary e.who e.kind, h.bounds old has is e.who e.kind judged, own)
    (λ who kind other apart. subst (λ (c : Cores). AreBoundsOf c (Touches entries who kind line))
    (sym (others who kind apart)) (h.bounds old has is who kind other))
    h

pub Keep-held_elsewhere : (slots rest : List Record) (k line : ℕ) (d : Record) (e : Entry) (s : LineSummary)
    → k < length slots → (get_or slots k d).line ≡ line
    → cores_of s e.who e.kind ≡ with_core (cores_of (get_or slots k d).summary e.who e.kind) e.core
    → ((who : Who) (kind : Kind) → (who ≢ e.who) ⊎ (kind ≢ e.kind)
    → cores_of s who kind ≡ cores_of (get_or slots k d).summary who kind)
    → (entries : List Entry) (other : ℕ) → other % 64 ≡ 0 → other ≢ line → KeepLine (slots ++ rest) entries other
    → KeepLine (set slots k record { line = (get_or slots k d).line; summary = s } ++ rest) entries other
Keep-held_elsewhere slots rest k line d e s within is own others entries other aligned apart h =
    Keep-elsewhere (slots ++ rest)
    (set slots k record { line = (get_or slots k d).line; summary = s } ++ rest) record {
      line =
          (get_or slots k d).line;
      summary = s;
    } entries other aligned
    (held_replaces slots rest k d e s within own others) (λ same. apart (same ∙ is)) h

-- an access of the line that a slot has, noted there
pub noted_held : (slots rest : List Record) (k line : ℕ) (q : Record) (e : Entry) (s : LineSummary)
    → HoldsFirst slots line k
    → q ≡ get_or slots k q → Covers e line → e.who ≢ Other → e.core ≤ 65535
    → cores_of s e.who e.kind ≡ with_core (cores_of q.summary e.who e.kind) e.core
    → ((who : Who) (kind : Kind) → (who ≢ e.who) ⊎ (kind ≢ e.kind) → cores_of s who kind ≡ cores_of q.summary who kind)
    → Notes (slots ++ rest) (set slots k record { line = q.line; summary = s } ++ rest) line e
noted_held slots rest k line q e s holds is covers judged small own others =
    let At : Record → Type 0 = λ o.
    cores_of s e.who e.kind ≡ with_core (cores_of o.summary e.who e.kind) e.core
    → ((who : Who) (kind : Kind) → (who ≢ e.who) ⊎ (kind ≢ e.kind) → cores_of s who kind ≡ cores_of o.summary who kind)
    → Notes (slots ++ rest) (set slots k record { line = o.line; summary = s } ++ rest) line e in
    subst At (sym is) (λ mine theirs. record {
      here = Keep-held slots rest k line q e s holds.in_table (holds.here q) covers judged small mine theirs;
      elsewhere = Keep-held_elsewhere slots rest k line q e s holds.in_table (holds.here q) mine theirs;
    }) own others

-- the first access of a line, in a free slot
pub noted_filled : (slots rest : List Record) (k line : ℕ) (r : Record) (e : Entry) → IsFreeFor slots line k
    → Covers e line → IsOfFirst r line e → Notes (slots ++ rest) (set slots k r ++ rest) line e
noted_filled slots rest k line r e free covers first =
    let step = Replaces-set slots rest k r r free.in_table (λ aligned. absurd (free.free r aligned)) in
    record {
      here = λ entries h. Keep-here (slots ++ rest)
          (set slots k r ++ rest) r entries e line first.line_is step covers first.small
          (no_cores, inr refl, first.own) (λ who kind judged apart. inr (first.others who kind apart)) h;
      elsewhere = λ entries other aligned apart h.
          Keep-elsewhere (slots ++ rest) (set slots k r ++ rest) r entries other aligned step
          (λ same. apart (same ∙ first.line_is)) h;
    }
