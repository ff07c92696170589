-- The paths that were given.
use Rattle.std.proofs.Common.{◌≡◌, inl, inr, ℕ, zero, suc, get_or, length, sym, Bool, true, false, ◌∙◌, ◌+◌, ◌<◌, ◌≤◌}
use Rattle.std.proofs.Common.{List, [], ◌∷◌, Option, Some, None, refl, subst, arith}
use Rattle.std.specs.Prelude.{nat_eq}
use Rattle.std.specs.Cmp.Lexicographic.{pointwise}
use Rattle.std.specs.Bool.{Decides}
use Rattle.std.specs.List.{Contains}
use Rattle.std.proofs.lemmas.Bool.Decides.{Decides-eqb}
use Rattle.std.proofs.lemmas.Slice.Eq.{slice_eq-Decides}
use Rattle.std.proofs.lemmas.Cmp.{nat_list_eq_equiv}
use Rattle.std.proofs.lemmas.Map.Made.{length-le_from_is_member, is_member-Decides}
use Rattle.std.proofs.lemmas.Map.Keys.{IsDistinct-from_apart}
use Rattle.cm_world.specs.Over.{AreDistinct}
use Rattle.cm_model.specs.declared.pair.Over.TheVariants as over
use Rattle.cm_forks.specs.declared.fault.Fault.{Fault}
use Rattle.cm_forks.specs.declared.fault.Fault.TheVariants as fault
use Rattle.cm_forks.specs.Paths.{Path, Before, Begins, After, IsNext, IsPast, Ends}
use Rattle.cm_forks.specs.Counts.{IsOpen, AtLeast}
use Rattle.cm_forks.specs.Faults.{IsRightIf, TooMany}
use Rattle.cm_forks.specs.inner.Stack.{Fork, Ready, Same, Remains}
use Rattle.cm_forks.specs.inner.Sound.{Told, Sane}
use Rattle.cm_forks.proofs.Order.{before_trans}
use Rattle.cm_forks.proofs.Forks.{falling_distinct, all_at, ended_next, ended_left, ended_ready, all_map, open_now}

-- a list with one path more has it, and has what it had
here : (p : Path) (list : List Path) (q : Path) → q ≡ p → Contains (p ∷ list) q
here p list q e = (zero, omega arith, sym e)

further : (p : Path) (list : List Path) (q : Path) → Contains list q → Contains (p ∷ list) q
further p list q h = (suc h.0, omega (arith, h.1), h.2)

same_lists : (a b : Path) → Decides (pointwise nat_eq a b) (a ≡ b)
same_lists a b = slice_eq-Decides Decides-eqb a b (pointwise nat_eq a b) refl

not_true : (b : Bool) (Q : Type 0) → Decides b Q → (Q → ⊥) → b ≡ false
not_true true Q d never = absurd (never (d.0 refl))
not_true false Q d never = refl

any_default : (xs : List Path) (i : ℕ) (d e : Path) → i < length xs → get_or xs i d ≡ get_or xs i e
any_default [] i d e lt = absurd (omega (arith, lt))
any_default (x ∷ xs) zero d e lt = refl
any_default (x ∷ xs) (suc i) d e lt = any_default xs i d e (omega (arith, lt))

-- different lists that a list contains are no more than its items
no_more : (xs ys : List Path) → AreDistinct xs → ((i : ℕ) → i < length xs → Contains ys (get_or xs i []))
    → length xs ≤ length ys
no_more xs ys distinct among =
    length-le_from_is_member nat_list_eq_equiv xs ys (IsDistinct-from_apart (pointwise nat_eq) xs
    (λ i j d lt le. not_true _ _ (same_lists (get_or xs i d) (get_or xs j d)) (distinct i j d lt le)))
    (λ q h. (is_member-Decides same_lists ys q).1 (goes q ((is_member-Decides same_lists xs q).0 h)))
  where
    goes : (q : Path) → Contains xs q → Contains ys q
    goes q h = subst (Contains ys) (any_default xs h.0 [] q h.1 ∙ h.2) (among h.0 h.1)

module _ (P F : Path → Type 0) where
  -- a path above the last one is one more
  pub too_many : (last : Option Path) (n : ℕ) → Told P F last n → (q : Path) → P q → After last q → TooMany P n
  too_many last n t q pq above = record {
    paths = q ∷ t.list;
    distinct = falling_distinct (q ∷ t.list) (
      all_map (λ p. (q : Path) → P q → After last q → Before p q)
          (λ p. Before p q) (λ p h. h q pq above) t.list t.behind,
      t.falling,
    );
    are = λ i lt. all_at P (q ∷ t.list) (pq, t.all) i [] lt;
    many = omega (arith, t.many);
  }

  told_more : (last : Option Path) (n : ℕ) → Told P F last n → (p : Path) → IsNext P last p → F p
      → Told P F (Some p) (n + 1)
  told_more last n t p next fine = record {
    fine = (fine, t.fine);
    met = λ q pq. elim (t.met q pq) [
      | inl above ↦ elim (next.least q pq above) [ inl e ↦ inr (here p t.list q e) | inr lt ↦ inl lt ]
      | inr old ↦ inr (further p t.list q old)
    ];
    list = p ∷ t.list;
    many = omega (arith, t.many);
    all = (next.is_path, t.all);
    falling = (
      all_map (λ x. (q : Path) → P q → After last q
          → Before x q) (λ x. Before x p) (λ x h. h p next.is_path next.above) t.list t.behind,
      t.falling,
    );
    behind = (
      (λ q pq h. h),
      all_map (λ x. (q : Path) → P q → After last q → Before x q) (λ x. (q : Path) → P q
          → Before p q → Before x q)
          (λ x h q pq lt. before_trans x p q (h p next.is_path next.above) lt) t.list t.behind,
    );
  }

  -- before anything is given
  pub sane_start : (limit : ℕ) → Begins P [] → Sane P F (Some []) [] None 0 0 limit
  sane_start limit begins = record {
    ready = record {
      begins = begins;
      before = λ p q pp pq lp lq. absurd lq;
      stacked = tt;
      live = tt;
      counted = record { opens = []; many = refl; all = tt; falling = tt; behind = tt; ahead = tt };
    };
    left = record { paths = λ q pq. ((λ h. inl (q, refl)), (λ h. tt)) };
    told = record {
      list = [];
      many = refl;
      all = tt;
      fine = tt;
      falling = tt;
      met = λ q pq. inl tt;
      behind = tt;
    };
    few = omega arith;
    small = omega arith;
  }

  -- a leaf is given
  module _ (hand : Option Path) (ks new : List Fork) (last : Option Path) (given added more limit : ℕ) (leaf : Path)
      (s : Sane P F hand ks last given added limit)
      (ready : Ready P (Some leaf) new more) (same : Same P (Remains hand ks) (Remains (Some leaf) new))
      (ends : Ends P leaf) where
    abbrev now_left : Same P (After last) (Remains (Some leaf) new)
    now_left = record {
      paths = λ q pq.
          ((λ h. (same.paths q pq).0 ((s.left.paths q pq).0 h)), (λ h. (s.left.paths q pq).1 ((same.paths q pq).1 h)));
    }

    pub leaf_next : IsNext P last leaf
    leaf_next = ended_next P last new leaf more ready ends now_left

    pub leaf_sane : F leaf → given < limit → more ≤ added + 65537 → Sane P F None new (Some leaf) (given + 1) more limit
    leaf_sane fine lt le = record {
      ready = ended_ready P new leaf more ready;
      left = ended_left P last new leaf more ready ends now_left;
      told = told_more last given s.told leaf leaf_next fine;
      few = omega arith;
      small = omega (arith, s.small);
    }

  -- nothing is left
  pub over_here : (last : Option Path) (given added limit : ℕ) → Sane P F None [] last given added limit → IsPast P last
  over_here last given added limit s q pq above = elim ((s.left.paths q pq).0 above) [ inl h ↦ h | inr h ↦ h ]

  pub too_many_here : (hand : Option Path) (ks : List Fork) (last : Option Path) (given added limit : ℕ)
      → Sane P F hand ks last given added limit → limit ≤ given
      → (q : Path) → P q → Remains hand ks q → TooMany P limit
  too_many_here hand ks last given added limit s le q pq left =
      let e : given ≡ limit = omega (arith, s.few) in
      subst (TooMany P) e (too_many last given s.told q pq ((s.left.paths q pq).1 left))

  -- at the end each path was given
  pub all_fine : (last : Option Path) (n : ℕ) → Told P F last n → IsPast P last → (q : Path) → P q → F q
  all_fine last n t past q pq = elim (t.met q pq) [
    | inl above ↦ absurd (past q pq above)
    | inr h ↦ subst F h.2 (all_at F t.list t.fine h.0 q h.1)
  ]

  pub all_given : (last : Option Path) (n most : ℕ) → Told P F last n → n ≤ most → IsPast P last → TooMany P most → ⊥
  all_given last n most t le past m =
      let few = no_more m.paths t.list m.distinct (λ i lt. among i lt) in omega (arith, few, m.many, t.many)
    where
      among : (i : ℕ) → i < length m.paths → Contains t.list (get_or m.paths i [])
      among i lt = elim (t.met (get_or m.paths i []) (m.are i lt)) [
        | inl above ↦ absurd (past (get_or m.paths i []) (m.are i lt) above)
        | inr h ↦ h
      ]

  pub open_here : (hand : Option Path) (ks : List Fork) (last : Option Path) (given added limit : ℕ)
      → Sane P F hand ks last given added limit → AtLeast (IsOpen P) added
  open_here hand ks last given added limit s = open_now P hand ks added s.ready

-- a fault of what remains is a fault of the enumeration
pub right_of : (many many' long cells : Type 0) → (many → many') → (f : Fault) → IsRightIf many long cells f
    → IsRightIf many' long cells f
right_of many many' long cells more (fault.Over over.Paths) h = more h
right_of many many' long cells more (fault.Over over.Long) h = h
right_of many many' long cells more (fault.Over over.Cells) h = h
right_of many many' long cells more fault.Memory h = tt
