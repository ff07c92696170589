-- When two calls conflict at a line, by the bounds of their cores.
use Rattle.std.proofs.Common.{arith, ◌≡◌, ◌≢◌, ◌⊎◌, ℕ, ◌≤◌, List, refl, sym, ◌∙◌, subst, inl, inr}
use Rattle.std.proofs.lemmas.Bool.{cases_eq}
use Rattle.cm_mtrace.specs.declared.item.Entry.{Entry}
use Rattle.cm_mtrace.specs.declared.item.Who.{Who}
use Rattle.cm_mtrace.specs.declared.item.Who.TheVariants.{A, B, Other}
use Rattle.cm_mtrace.specs.declared.item.Kind.{Kind}
use Rattle.cm_mtrace.specs.declared.item.Kind.TheVariants.{Read, Write}
use Rattle.cm_judge.specs.declared.summary.Cores.{Cores}
use Rattle.cm_judge.specs.declared.summary.LineSummary.{LineSummary}
use Rattle.cm_judge.specs.Conflicts.{ConflictAt, IsConflictLine}
use Rattle.cm_judge.specs.Summary.{AreTheCores, cores_of, Differ, IsSummaryOf, Touches}

pub by_access : (P : Who → Kind → Type 0) → P A Read → P A Write → P B Read → P B Write
    → ((kind : Kind) → P Other kind) → (who : Who) (kind : Kind) → P who kind
by_access P ar aw br bw o A Read = ar
by_access P ar aw br bw o A Write = aw
by_access P ar aw br bw o B Read = br
by_access P ar aw br bw o B Write = bw
by_access P ar aw br bw o Other kind = o kind

pub a≢other : A ≢ Other
a≢other e = cc

pub b≢other : B ≢ Other
b≢other e = cc

kind_cases : (k : Kind) → (k ≡ Read) ⊎ (k ≡ Write)
kind_cases Read = inl refl
kind_cases Write = inr refl

-- bounds in order are those of some cores
bounds_are : (c : Cores) (Is : ℕ → Type 0) → AreTheCores c Is → c.least ≤ c.greatest → Is c.least × Is c.greatest
bounds_are c Is h some =
    elim h.bounds [
      | inl b ↦ b
      | inr none ↦ absurd (
          let P : Cores → Type 0 = λ d. d.least ≤ d.greatest in
          let h : 65535 ≤ 0 = subst P none some in
          omega arith
          )
    ]

Differ-cores : (c d : Cores) (P Q : ℕ → Type 0) → AreTheCores c P → AreTheCores d Q → Differ c d
    → (x : ℕ) × (y : ℕ) × P x × Q y × (x ≢ y)
Differ-cores c d P Q p q h =
    let a = bounds_are c P p h.some in
    let b = bounds_are d Q q h.some_other in
    elim h.apart [
      | inl apart ↦ (c.least, d.greatest, a.0, b.1, apart)
      | inr apart ↦ (c.greatest, d.least, a.1, b.0, apart)
    ]

cores-Differ : (c d : Cores) (P Q : ℕ → Type 0) (x y : ℕ) → AreTheCores c P → AreTheCores d Q → P x → Q y → x ≢ y
    → Differ c d
cores-Differ c d P Q x y p q px qy apart =
    let a = p.within x px in
    let b = q.within y qy in
    record {
      some = omega (arith, a.above, a.below);
      some_other = omega (arith, b.above, b.below);
      apart = elim (cases_eq c.least d.greatest) [
        | inl e ↦ inr (λ f. apart (omega (arith, a.above, a.below, b.above, b.below)))
        | inr ne ↦ inl ne
      ];
    }

-- an access of call a and one of call b, of these kinds
pair_of : (entries : List Entry) (line : ℕ) (x y : ℕ) (k m : Kind) → (k ≡ Write) ⊎ (m ≡ Write)
    → Touches entries A k line x → Touches entries B m line y → x ≢ y → IsConflictLine entries line
pair_of entries line x y k m write a b apart =
    let u = a.4 in
    let v = b.4 in
    let meets : ConflictAt a.1 b.1 line = record {
      first = u.who_is;
      second = v.who_is;
      apart = λ e. apart (sym u.core_is ∙ e ∙ v.core_is);
      write = elim write [ inl w ↦ inl (u.kind_is ∙ w) | inr w ↦ inr (v.kind_is ∙ w) ];
      first_covers = u.covers;
      second_covers = v.covers;
    } in
    (a.0, a.1, a.2, a.3, (b.0, b.1, b.2, b.3, meets))

-- a line is in conflict where the cores of one call's writes differ from those of the other call's accesses
pub conflict_from : (s : LineSummary) (entries : List Entry) (line : ℕ) (k m : Kind) → IsSummaryOf s entries line
    → (k ≡ Write) ⊎ (m ≡ Write) → Differ (cores_of s A k) (cores_of s B m) → IsConflictLine entries line
conflict_from s entries line k m h write d =
    let p = Differ-cores (cores_of s A k) (cores_of s B m) (Touches entries A k line) (Touches entries B m line)
    (h A k a≢other) (h B m b≢other) d in
    pair_of entries line p.0 p.1 k m write p.2 p.3 p.4

pub differ_from : (s : LineSummary) (entries : List Entry) (line : ℕ) → IsSummaryOf s entries line
    → IsConflictLine entries line
    → Differ (cores_of s A Write) (cores_of s B Write)
    ⊎ (Differ (cores_of s A Write) (cores_of s B Read) ⊎ Differ (cores_of s A Read) (cores_of s B Write))
differ_from s entries line h conflict =
    let x = conflict.1 in
    let other = conflict.4 in
    let y = other.1 in
    let meets : ConflictAt x y line = other.4 in
    let apart : (k m : Kind) → x.kind ≡ k → y.kind ≡ m → Differ (cores_of s A k) (cores_of s B m) =
    λ k m xk ym. cores-Differ (cores_of s A k) (cores_of s B m) (Touches entries A k line)
    (Touches entries B m line) x.core y.core (h A k a≢other) (h B m b≢other) (
      conflict.0,
      x,
      conflict.2,
      conflict.3,
      record {
        who_is = meets.first;
        kind_is = xk;
        core_is = refl;
        covers =
            meets.first_covers;
      },
    ) (
      other.0,
      y,
      other.2,
      other.3,
      record {
        who_is = meets.second;
        kind_is = ym;
        core_is =
            refl;
        covers = meets.second_covers;
      },
    ) meets.apart in
    elim meets.write [
      | inl xw ↦ elim (kind_cases y.kind) [
        | inl yr ↦ inr (inl (apart Write Read xw yr))
        | inr yw ↦ inl (apart Write Write xw yw)
      ]
      | inr yw ↦ elim (kind_cases x.kind) [
        | inl xr ↦ inr (inr (apart Read Write xr yw))
        | inr xw ↦ inl (apart Write Write xw yw)
      ]
    ]
