-- Taking an outcome, and asking, keep what remains.
use Rattle.std.proofs.Common.{◌≡◌, ◌⊎◌, inl, inr, ℕ, zero, suc, get_or, ◌+◌, ◌<◌, ◌≤◌, List, [], ◌∷◌, ◌++◌}
use Rattle.std.proofs.Common.{length, Option, Some, None, Result, Ok, Err, OnOk, OnErr, IfOk, refl, sym, ap, ◌∙◌}
use Rattle.std.proofs.Common.{subst, arith, ◌^◌, length-append, append_assoc}
use Rattle.std.specs.List.{AllByRecursion}
use Rattle.std.proofs.lemmas.List.{append-nil}
use Rattle.std.proofs.lemmas.Bool.{cases_lt}
use Rattle.std.proofs.lemmas.Nat.Bits.{bit_at_above}
use Rattle.cm_ctx.specs.Masks.{Has}
use Rattle.cm_world.specs.Over.{AreDistinct}
use Rattle.cm_forks.specs.Paths.{Path, Before, StartsWith, Begins, Covers, After, IsNext, Ends}
use Rattle.cm_forks.specs.Counts.{IsOpen, AtLeast}
use Rattle.cm_forks.specs.Faults.{TooLong}
use Rattle.cm_forks.specs.inner.Stack.{Fork, LeftAt, LeftIn, InHand, Remains, Same, AllBefore, Stacked, Live}
use Rattle.cm_forks.specs.inner.Stack.{next_of, AllAhead, Falling, UpTo, Counted, Ready, Kept}
use Rattle.cm_forks.specs.declared.fork.Pending.{Pending}
use Rattle.cm_forks.specs.inner.View.{fork, forks}
use Rattle.cm_forks.proofs.Order.{before_trans, before_self, before_more, before_at, before_fronts}

pub all_push : {X : Type 0} (A : X → Type 0) (xs : List X) (x : X) → AllByRecursion A xs → A x
    → AllByRecursion A (xs ++ x ∷ [])
all_push A [] x h k = (k, tt)
all_push A (y ∷ ys) x h k = (h.0, all_push A ys x h.1 k)

pub all_pop : {X : Type 0} (A : X → Type 0) (xs : List X) (x : X) → AllByRecursion A (xs ++ x ∷ [])
    → AllByRecursion A xs × A x
all_pop A [] x h = (tt, h.0)
all_pop A (y ∷ ys) x h = let r = all_pop A ys x h.1 in ((h.0, r.0), r.1)

pub all_map : {X : Type 0} (A B : X → Type 0) → ((x : X) → A x → B x) → (xs : List X) → AllByRecursion A xs
    → AllByRecursion B xs
all_map A B f [] h = tt
all_map A B f (x ∷ xs) h = (f x h.0, all_map A B f xs h.1)

all_zip : {X : Type 0} (A B : X → Type 0) → (xs : List X) → AllByRecursion A xs → AllByRecursion B xs
    → AllByRecursion (λ x. A x × B x) xs
all_zip A B [] h k = tt
all_zip A B (x ∷ xs) h k = ((h.0, k.0), all_zip A B xs h.1 k.1)

starts_front : (q front : Path) (d : ℕ) → StartsWith q (front ++ d ∷ []) → StartsWith q front
starts_front q front d h = (d ∷ h.0, h.1 ∙ append_assoc front (d ∷ []) h.0)

left_push : (ks : List Fork) (k : Fork) (q : Path) → LeftIn (ks ++ k ∷ []) q → LeftIn ks q ⊎ LeftAt k q
left_push [] k q (inl h) = inr h
left_push [] k q (inr h) = absurd h
left_push (j ∷ ks) k q (inl h) = inl (inl h)
left_push (j ∷ ks) k q (inr h) = elim (left_push ks k q h) [ inl w ↦ inl (inr w) | inr w ↦ inr w ]

left_below : (ks : List Fork) (k : Fork) (q : Path) → LeftIn ks q → LeftIn (ks ++ k ∷ []) q
left_below [] k q h = absurd h
left_below (j ∷ ks) k q (inl h) = inl h
left_below (j ∷ ks) k q (inr h) = inr (left_below ks k q h)

left_top : (ks : List Fork) (k : Fork) (q : Path) → LeftAt k q → LeftIn (ks ++ k ∷ []) q
left_top [] k q h = inl h
left_top (j ∷ ks) k q h = inr (left_top ks k q h)

abbrev fork_at : Path → ℕ → ℕ → Fork
fork_at front mask d = record { front = front; mask = mask; from = d }

later : (last : Option Path) (a b : Path) → After last a → Before a b → After last b
later None a b h k = tt
later (Some l) a b h k = before_trans l a b h k

pub ok_map : {T E : Type 0} (r : Result T E) (A B : Type 0) → (A → B) → OnOk r A → OnOk r B
ok_map (Ok x) A B f h = f h
ok_map (Err e) A B f h = tt

pub if_ok_map : {T E : Type 0} (r : Result T E) (A B : T → Type 0) → ((x : T) → A x → B x) → IfOk r A → IfOk r B
if_ok_map (Ok x) A B f h = f x h
if_ok_map (Err e) A B f h = tt

pub forks_push : {N : Type 0} (prefix : N → Path) (ks : List (Pending N)) (k : Pending N)
    → forks prefix (ks ++ k ∷ []) ≡ forks prefix ks ++ fork (prefix k.node) k.mask.0 k.from ∷ []
forks_push prefix [] k = refl
forks_push prefix (j ∷ ks) k = ap (λ (xs : List Fork). fork (prefix j.node) j.mask.0 j.from ∷ xs)
    (forks_push prefix ks k)

pub on_err : {T E : Type 0} (r : Result T E) (A : Type 0) → A → OnErr r A
on_err (Ok x) A h = tt
on_err (Err e) A h = h

pub ok_both : {T E : Type 0} (r : Result T E) (A B : Type 0) → OnOk r A → OnOk r B → OnOk r (A × B)
ok_both (Ok x) A B h k = (h, k)
ok_both (Err e) A B h k = tt

-- a mask of 64 bits has no outcome above
pub outcome_small : (mask d : ℕ) → mask < 2 ^ 64 → Has mask d → d < 64
outcome_small mask d small has = elim (cases_lt d 64) [
  | inl lt ↦ lt
  | inr ge ↦ absurd (let none = bit_at_above mask 64 d small ge in cc)
]

pub only : (mask d : ℕ) → ((x : ℕ) → 0 ≤ x → Has mask x → d ≤ x) → ((x : ℕ) → d + 1 ≤ x → Has mask x → ⊥) → (x : ℕ)
    → Has mask x → x ≡ d
only mask d least none x has = elim (cases_lt d x) [
  | inl lt ↦ absurd (none x (omega arith) has)
  | inr ge ↦ let le : d ≤ x = least x (omega arith) has in omega arith
]

-- what is so of all is so of each
pub all_at : (A : Path → Type 0) (xs : List Path) → AllByRecursion A xs → (i : ℕ) (d : Path) → i < length xs
    → A (get_or xs i d)
all_at A [] h i d lt = absurd (omega (arith, lt))
all_at A (x ∷ xs) h zero d lt = h.0
all_at A (x ∷ xs) h (suc i) d lt = all_at A xs h.1 i d (omega (arith, lt))

falls_at : (xs : List Path) → Falling xs → (i j : ℕ) (d : Path) → i < j → j < length xs
    → Before (get_or xs j d) (get_or xs i d)
falls_at [] h i j d lt le = absurd (omega (arith, le))
falls_at (x ∷ xs) h i zero d lt le = absurd (omega (arith, lt))
falls_at (x ∷ xs) h zero (suc j) d lt le = all_at (λ y. Before y x) xs h.0 j d (omega (arith, le))
falls_at (x ∷ xs) h (suc i) (suc j) d lt le = falls_at xs h.1 i j d (omega (arith, lt)) (omega (arith, le))

pub falling_distinct : (xs : List Path) → Falling xs → AreDistinct xs
falling_distinct xs h i j d lt le e =
    before_self (get_or xs j d) (subst (λ x. Before (get_or xs j d) x) e (falls_at xs h i j d lt le))

pub same_trans : (P A B C : Path → Type 0) → Same P A B → Same P B C → Same P A C
same_trans P A B C h k = record {
  paths = λ q pq.
      ((λ a. (k.paths q pq).0 ((h.paths q pq).0 a)), (λ c. (h.paths q pq).1 ((k.paths q pq).1 c)));
}

module _ (P : Path → Type 0) where
  stacked_push : (ks : List Fork) (k : Fork) → Stacked P ks → AllBefore P (LeftAt k) (LeftIn ks)
      → Stacked P (ks ++ k ∷ [])
  stacked_push [] k s h = ((λ p q pp pq lp lq. absurd lp), tt)
  stacked_push (j ∷ ks) k s h = (
    (λ p q pp pq lp lq. elim (left_push ks k p lp) [ inl w ↦ s.0 p q pp pq w lq | inr w ↦ h p q pp pq w (inl lq) ]),
    stacked_push ks k s.1 (λ p q pp pq lp lq. h p q pp pq lp (inr lq)),
  )

  stacked_pop : (ks : List Fork) (k : Fork) → Stacked P (ks ++ k ∷ []) → Stacked P ks
      × AllBefore P (LeftAt k) (LeftIn ks)
  stacked_pop [] k s = (tt, (λ p q pp pq lp lq. absurd lq))
  stacked_pop (j ∷ ks) k s =
      let r = stacked_pop ks k s.1 in (
        (λ p q pp pq lp lq. s.0 p q pp pq (left_below ks k p lp) lq, r.0),
        (λ p q pp pq lp lq. elim lq [ inl w ↦ s.0 p q pp pq (left_top ks k p lp) w | inr w ↦ r.1 p q pp pq lp w ]),
      )

  -- the outcome that is taken comes before what is left below
  taken_before : (k : Fork) (ks : List Fork) → Begins P (next_of k) → AllBefore P (LeftAt k) (LeftIn ks)
      → AllByRecursion (Live P) ks
      → AllByRecursion (λ j. Before (next_of k) (next_of j)) ks
  taken_before k [] b h l = tt
  taken_before k (j ∷ ks) b h l =
      let p : Path = (next_of k) ++ b.0 in
      let q : Path = (next_of j) ++ l.0.begins.0 in
      let at_p : LeftAt k p = (k.from, omega arith, (b.0, refl)) in
      let lt : Before p q = h p q b.1 l.0.begins.1 at_p (inl (j.from, omega arith, (l.0.begins.0, refl))) in
      let one : Before (next_of k) (next_of j) =
      elim (before_fronts (next_of k) (next_of j) b.0 l.0.begins.0 lt) [
        | inl w ↦ w
        | inr w ↦ absurd (before_self p (h p p b.1 b.1 at_p (inl (
          j.from,
          omega arith,
          (w.0 ++ b.0, ap (λ (x : Path). x ++ b.0) w.1 ∙ append_assoc (next_of j) w.0 b.0),
        ))))
      ] in
      (one, taken_before k ks b (λ p q pp pq lp lq. h p q pp pq lp (inr lq)) l.1)

  open_of : (k : Fork) → Live P k → IsOpen P (next_of k)
  open_of k l = record {
    before = k.front;
    last = k.from;
    other = l.other.0;
    is = refl;
    differ = l.other.1;
    begins = l.begins;
    parts = l.other.2;
  }

  -- the fork on the top, below it ks, is taken
  module _ (ks : List Fork) (k : Fork) (n : ℕ) (r : Ready P None (ks ++ k ∷ []) n) where
    abbrev here : Path
    here = next_of k

    live_k : Live P k
    live_k = (all_pop (Live P) ks k r.live).1

    live_ks : AllByRecursion (Live P) ks
    live_ks = (all_pop (Live P) ks k r.live).0

    k_before : AllBefore P (LeftAt k) (LeftIn ks)
    k_before = (stacked_pop ks k r.stacked).1

    in_hand : (p : Path) → StartsWith p here → LeftAt k p
    in_hand p h = (k.from, omega arith, h)

    ahead_of : AllByRecursion (AllAhead (here ∷ r.counted.opens)) ks
    ahead_of = all_zip (λ j. Before here (next_of j)) (AllAhead r.counted.opens) ks
        (taken_before k ks live_k.begins k_before live_ks)
        (all_pop (AllAhead r.counted.opens) ks k r.counted.ahead).0

    old_before : AllByRecursion (λ o. Before o here) r.counted.opens
    old_before = (all_pop (AllAhead r.counted.opens) ks k r.counted.ahead).1

    counted_of : (new : List Fork) → AllByRecursion (AllAhead (here ∷ r.counted.opens)) new
        → Counted P (Some here) new (n + 1)
    counted_of new ahead = record {
      opens = here ∷ r.counted.opens;
      many = omega (arith, r.counted.many);
      all = (open_of k live_k, r.counted.all);
      falling = (old_before, r.counted.falling);
      behind = (inl refl, all_map (λ o. Before o here) (λ o. UpTo o here) (λ o h. inr h) r.counted.opens old_before);
      ahead = ahead;
    }

    -- what is left at the fork begins with this outcome or with a greater one
    left_cases : (q : Path) → LeftAt k q → StartsWith q here
        ⊎ ((d : ℕ) × (k.from < d) × StartsWith q (k.front ++ d ∷ []))
    left_cases q h = split h.0 h.1 h.2
      where
        split : (d : ℕ) → k.from ≤ d → StartsWith q (k.front ++ d ∷ []) → StartsWith q here
            ⊎ ((d : ℕ) × (k.from < d) × StartsWith q (k.front ++ d ∷ []))
        split d le s = elim (cases_lt k.from d) [
          | inl lt ↦ inr (d, lt, s)
          | inr ge ↦ let e : d ≡ k.from = omega arith in inl (subst (λ x. StartsWith q (k.front ++ x ∷ [])) e s)
        ]

    has_of : (q : Path) → P q → (d : ℕ) → StartsWith q (k.front ++ d ∷ []) → Has k.mask d
    has_of q pq d h = (live_k.covers d).1 (h.0, subst P h.1 pq)

    hand_before : AllBefore P (InHand (Some here)) (LeftIn ks)
    hand_before p q pp pq lp lq = k_before p q pp pq (in_hand p lp) lq

    pub taken_last : ((d : ℕ) → k.from < d → Has k.mask d → ⊥) → Ready P (Some here) ks (n + 1)
        × Same P (Remains None (ks ++ k ∷ [])) (Remains (Some here) ks)
    taken_last none = (
      record {
        begins = live_k.begins;
        before = hand_before;
        stacked = (stacked_pop ks k r.stacked).0;
        live = live_ks;
        counted = counted_of ks ahead_of;
      },
      record { paths = λ q pq. (forth q pq, back q) },
    )
      where
        at_k : (q : Path) → P q → LeftAt k q → Remains (Some here) ks q
        at_k q pq h = elim (left_cases q h) [ inl w ↦ inl w | inr w ↦ absurd (none w.0 w.1 (has_of q pq w.0 w.2)) ]

        forth : (q : Path) → P q → Remains None (ks ++ k ∷ []) q → Remains (Some here) ks q
        forth q pq (inl h) = absurd h
        forth q pq (inr h) = elim (left_push ks k q h) [ inl w ↦ inr w | inr w ↦ at_k q pq w ]

        back : (q : Path) → Remains (Some here) ks q → Remains None (ks ++ k ∷ []) q
        back q (inl h) = inr (left_top ks k q (in_hand q h))
        back q (inr h) = inr (left_below ks k q h)

    module _ (next : ℕ) (above : k.from < next) (has : Has k.mask next) (least : (d : ℕ) → k.from < d → Has k.mask d
        → next ≤ d) where
      abbrev more : Fork
      more = record { front = k.front; mask = k.mask; from = next }

      more_at : (q : Path) → LeftAt more q → LeftAt k q
      more_at q h = (h.0, omega (arith, h.1), h.2)

      more_live : Live P more
      more_live = record {
        covers = live_k.covers;
        begins = (live_k.covers next).0 has;
        other = (k.from, (λ e. omega arith), live_k.begins);
      }

      here_before : (p q : Path) → StartsWith p here → LeftAt more q → Before p q
      here_before p q lp lq =
          rw (lp.1, lq.2.1, append_assoc k.front (k.from ∷ []) lp.0, append_assoc k.front (lq.0 ∷ []) lq.2.0)
          (before_at k.front k.from lq.0 lp.0 lq.2.0 (omega (arith, lq.1)))

      pub taken_more : Ready P (Some here) (ks ++ more ∷ []) (n + 1)
          × Same P (Remains None (ks ++ k ∷ [])) (Remains (Some here) (ks ++ more ∷ []))
      taken_more = (
        record {
          begins = live_k.begins;
          before = λ p q pp pq lp lq. elim
              (left_push ks more q lq) [ inl w ↦ hand_before p q pp pq lp w | inr w ↦ here_before p q lp w ];
          stacked = stacked_push ks more (stacked_pop ks k r.stacked).0
              (λ p q pp pq lp lq. k_before p q pp pq (more_at p lp) lq);
          live = all_push (Live P) ks more live_ks more_live;
          counted = counted_of (ks ++ more ∷ []) (all_push (AllAhead (here ∷ r.counted.opens)) ks more ahead_of (
            here_next,
            all_map (λ o. Before o here) (λ o. Before o (k.front ++ next ∷ []))
                (λ o h. before_trans o here (k.front ++ next ∷ []) h here_next) r.counted.opens old_before,
          ));
        },
        record { paths = λ q pq. (forth q pq, back q) },
      )
        where
          here_next : Before here (k.front ++ next ∷ [])
          here_next = before_at k.front k.from next [] [] above

          at_k : (q : Path) → P q → LeftAt k q → Remains (Some here) (ks ++ more ∷ []) q
          at_k q pq h = elim (left_cases q h) [
            | inl w ↦ inl w
            | inr w ↦ inr (left_top ks more q (w.0, least w.0 w.1 (has_of q pq w.0 w.2), w.2))
          ]

          forth : (q : Path) → P q → Remains None (ks ++ k ∷ []) q → Remains (Some here) (ks ++ more ∷ []) q
          forth q pq (inl h) = absurd h
          forth q pq (inr h) = elim (left_push ks k q h) [ inl w ↦ inr (left_below ks more q w) | inr w ↦ at_k q pq w ]

          back : (q : Path) → Remains (Some here) (ks ++ more ∷ []) q → Remains None (ks ++ k ∷ []) q
          back q (inl h) = inr (left_top ks k q (in_hand q h))
          back q (inr h) = elim
              (left_push ks more q h) [
                | inl w ↦ inr (left_below ks k q w)
                | inr w ↦ inr
                    (left_top ks k q (more_at q w))
              ]

  -- the outcome that stands at the fork is taken
  pub taken : (ks new : List Fork) (k : Fork) (n : ℕ) → Ready P None (ks ++ k ∷ []) n → Kept k ks new
      → Ready P (Some (next_of k)) new (n + 1) × Same P (Remains None (ks ++ k ∷ [])) (Remains (Some (next_of k)) new)
  taken ks new k n r (inl h) = rw h.1 (taken_last ks k n r h.0)
  taken ks new k n r (inr h) = rw h.4 (taken_more ks k n r h.0 h.1 h.2 h.3)

  -- a question has been asked in front, and at least two outcomes are there
  pub asked : (ks : List Fork) (front : Path) (mask d e n : ℕ) → Ready P (Some front) ks n → (P front → ⊥)
      → Covers P front mask
      → Has mask d → ((x : ℕ) → Has mask x → d ≤ x) → Has mask e → d < e
      → Ready P None (ks ++ (fork_at front mask d) ∷ []) n
      × Same P (Remains (Some front) ks) (Remains None (ks ++ (fork_at front mask d) ∷ []))
  asked ks front mask d e n r goes covers has least has_e lt = (
    record {
      begins = tt;
      before = λ p q pp pq lp lq. absurd lp;
      stacked = stacked_push ks (fork_at front mask d) r.stacked
          (λ p q pp pq lp lq. r.before p q pp pq (starts_front p front lp.0 lp.2) lq);
      live = all_push (Live P) ks (fork_at front mask d) r.live
          (record {
            covers = covers;
            begins = (covers d).0 has;
            other =
                (e, (λ same. omega arith), (covers e).0 has_e);
          });
      counted = record {
        opens = r.counted.opens;
        many = r.counted.many;
        all = r.counted.all;
        falling = r.counted.falling;
        behind = tt;
        ahead = all_push (AllAhead r.counted.opens) ks (fork_at front mask d) r.counted.ahead
            (all_map (λ o. UpTo o front) (λ o. Before o (front ++ d ∷ [])) goes_on r.counted.opens r.counted.behind);
      };
    },
    record { paths = λ q pq. (forth q pq, back q) },
  )
    where
      goes_on : (o : Path) → UpTo o front → Before o (front ++ d ∷ [])
      goes_on o (inl same) = rw same (before_more front d [])
      goes_on o (inr h) = before_trans o front (front ++ d ∷ []) h (before_more front d [])

      at_fork : (q : Path) → P q → (rest : Path) → q ≡ front ++ rest → LeftAt (fork_at front mask d) q
      at_fork q pq [] s = absurd (goes (subst P (s ∙ append-nil front) pq))
      at_fork q pq (x ∷ rest) s =
          let s' : q ≡ (front ++ x ∷ []) ++ rest = s ∙ sym (append_assoc front (x ∷ []) rest) in
          (x, least x ((covers x).1 (rest, subst P s' pq)), (rest, s'))

      forth : (q : Path) → P q → Remains (Some front) ks q → Remains None (ks ++ (fork_at front mask d) ∷ []) q
      forth q pq (inl h) = inr (left_top ks (fork_at front mask d) q (at_fork q pq h.0 h.1))
      forth q pq (inr h) = inr (left_below ks (fork_at front mask d) q h)

      back : (q : Path) → Remains None (ks ++ (fork_at front mask d) ∷ []) q → Remains (Some front) ks q
      back q (inl h) = absurd h
      back q (inr h) = elim
          (left_push ks (fork_at front mask d) q h) [ inl w ↦ inr w | inr w ↦ inl (starts_front q front w.0 w.2) ]

  -- a question has been asked in front, and one outcome is there
  pub followed : (ks : List Fork) (front : Path) (mask d n : ℕ) → Ready P (Some front) ks n → (P front → ⊥)
      → Covers P front mask
      → Has mask d → ((x : ℕ) → Has mask x → x ≡ d)
      → Ready P (Some (front ++ d ∷ [])) ks n × Same P (Remains (Some front) ks) (Remains (Some (front ++ d ∷ [])) ks)
  followed ks front mask d n r goes covers has only = (
    record {
      begins = (covers d).0 has;
      before = λ p q pp pq lp lq. r.before p q pp pq (starts_front p front d lp) lq;
      stacked = r.stacked;
      live = r.live;
      counted = record {
        opens = r.counted.opens;
        many = r.counted.many;
        all = r.counted.all;
        falling = r.counted.falling;
        behind = all_map (λ o. UpTo o front) (λ o. UpTo o (front ++ d ∷ [])) goes_on r.counted.opens r.counted.behind;
        ahead = r.counted.ahead;
      };
    },
    record { paths = λ q pq. (forth q pq, back q) },
  )
    where
      goes_on : (o : Path) → UpTo o front → UpTo o (front ++ d ∷ [])
      goes_on o (inl same) = inr (rw same (before_more front d []))
      goes_on o (inr h) = inr (before_trans o front (front ++ d ∷ []) h (before_more front d []))

      at_hand : (q : Path) → P q → (rest : Path) → q ≡ front ++ rest → StartsWith q (front ++ d ∷ [])
      at_hand q pq [] s = absurd (goes (subst P (s ∙ append-nil front) pq))
      at_hand q pq (x ∷ rest) s =
          let s' : q ≡ (front ++ x ∷ []) ++ rest = s ∙ sym (append_assoc front (x ∷ []) rest) in
          let e : x ≡ d = only x ((covers x).1 (rest, subst P s' pq)) in
          subst (λ y. StartsWith q (front ++ y ∷ [])) e (rest, s')

      forth : (q : Path) → P q → Remains (Some front) ks q → Remains (Some (front ++ d ∷ [])) ks q
      forth q pq (inl h) = inl (at_hand q pq h.0 h.1)
      forth q pq (inr h) = inr h

      back : (q : Path) → Remains (Some (front ++ d ∷ [])) ks q → Remains (Some front) ks q
      back q (inl h) = inl (starts_front q front d h)
      back q (inr h) = inr h

  -- the least outcome of several is taken at once
  pub decided : (ks new : List Fork) (front front' : Path) (mask d e n m : ℕ) → Ready P (Some front) ks n
      → (P front → ⊥) → Covers P front mask
      → Has mask d → ((x : ℕ) → Has mask x → d ≤ x) → Has mask e → d < e → Kept (fork_at front mask d) ks new
      → front' ≡ front ++ d ∷ [] → m ≡ n + 1
      → Ready P (Some front') new m × Same P (Remains (Some front) ks) (Remains (Some front') new)
  decided ks new front front' mask d e n m r goes covers has least has_e lt kept is is_n =
      let a = asked ks front mask d e n r goes covers has least has_e lt in
      let b = taken ks new (fork_at front mask d) n a.0 kept in
      rw (is, is_n) (b.0, same_trans P _ _ _ a.1 b.1)

  -- the only outcome is taken
  pub followed_to : (ks : List Fork) (front front' : Path) (mask d n : ℕ) → Ready P (Some front) ks n → (P front → ⊥)
      → Covers P front mask
      → Has mask d → ((x : ℕ) → Has mask x → x ≡ d) → front' ≡ front ++ d ∷ []
      → Ready P (Some front') ks n × Same P (Remains (Some front) ks) (Remains (Some front') ks)
  followed_to ks front front' mask d n r goes covers has only is = rw is
      (followed ks front mask d n r goes covers has only)

  -- some outcome is there
  pub outcome_there : (ks : List Fork) (front : Path) (mask n : ℕ) → Ready P (Some front) ks n → (P front → ⊥)
      → Covers P front mask
      → ((x : ℕ) → Has mask x → ⊥) → ⊥
  outcome_there ks front mask n r goes covers none = at r.begins.0 r.begins.1
    where
      at : (rest : Path) → P (front ++ rest) → ⊥
      at [] p = goes (subst P (append-nil front) p)
      at (x ∷ rest) p = none x ((covers x).1 (rest, subst P (sym (append_assoc front (x ∷ []) rest)) p))

  -- as many open prefixes as additions
  pub open_now : (hand : Option Path) (ks : List Fork) (n : ℕ) → Ready P hand ks n → AtLeast (IsOpen P) n
  open_now hand ks n r = record {
    lists = r.counted.opens;
    distinct = falling_distinct r.counted.opens r.counted.falling;
    are = λ i lt. all_at (IsOpen P) r.counted.opens r.counted.all i [] lt;
    count = r.counted.many;
  }

  -- a path is as long as what it begins with
  pub long_path : (hand : Path) (ks : List Fork) (n max : ℕ) → Ready P (Some hand) ks n → max < length hand
      → TooLong P max
  long_path hand ks n max r lt = record {
    path = hand ++ r.begins.0;
    is_path = r.begins.1;
    long = omega (arith, lt, length-append hand r.begins.0);
  }

  pub top_live : (ks : List Fork) (k : Fork) (n : ℕ) → Ready P None (ks ++ k ∷ []) n → Live P k
  top_live ks k n r = (all_pop (Live P) ks k r.live).1

  -- some path is left
  pub top_left : (ks : List Fork) (k : Fork) (n : ℕ) → Ready P None (ks ++ k ∷ []) n → (q : Path) × P q
      × Remains None (ks ++ k ∷ []) q
  top_left ks k n r =
      let l = top_live ks k n r in
      ((next_of k) ++ l.begins.0, l.begins.1, inr (left_top ks k _ (k.from, omega arith, (l.begins.0, refl))))

  pub hand_left : (front : Path) (ks : List Fork) (n : ℕ) → Ready P (Some front) ks n → (q : Path) × P q
      × Remains (Some front) ks q
  hand_left front ks n r = (front ++ r.begins.0, r.begins.1, inl (r.begins.0, refl))

  pub taken_to : (ks new : List Fork) (k : Fork) (front' : Path) (n m : ℕ) → Ready P None (ks ++ k ∷ []) n
      → Kept k ks new → front' ≡ next_of k → m ≡ n + 1
      → Ready P (Some front') new m × Same P (Remains None (ks ++ k ∷ [])) (Remains (Some front') new)
  taken_to ks new k front' n m r kept is is_n = rw (is, is_n) (taken ks new k n r kept)

  -- the path in hand is whole
  pub ended_path : (ks : List Fork) (front : Path) (n : ℕ) → Ready P (Some front) ks n → Ends P front → P front
  ended_path ks front n r ends = subst P (ends (front ++ r.begins.0) r.begins.1 (r.begins.0, refl)) r.begins.1

  pub ended_ready : (ks : List Fork) (front : Path) (n : ℕ) → Ready P (Some front) ks n → Ready P None ks n
  ended_ready ks front n r = record {
    begins = tt;
    before = λ p q pp pq lp lq. absurd lp;
    stacked = r.stacked;
    live = r.live;
    counted = record {
      opens = r.counted.opens;
      many = r.counted.many;
      all = r.counted.all;
      falling = r.counted.falling;
      behind = tt;
      ahead = r.counted.ahead;
    };
  }

  module _ (last : Option Path) (ks : List Fork) (front : Path) (n : ℕ) (r : Ready P (Some front) ks n)
      (ends : Ends P front) (left : Same P (After last) (Remains (Some front) ks)) where
    pub ended_next : IsNext P last front
    ended_next = record {
      is_path = path;
      above = (left.paths front path).1 (inl ([], sym (append-nil front)));
      least = λ q pq h. which q pq ((left.paths q pq).0 h);
    }
      where
        path : P front
        path = ended_path ks front n r ends

        which : (q : Path) → P q → Remains (Some front) ks q → (q ≡ front) ⊎ Before front q
        which q pq (inl h) = inl (ends q pq h)
        which q pq (inr h) = inr (r.before front q path pq ([], sym (append-nil front)) h)

    pub ended_left : Same P (After (Some front)) (Remains None ks)
    ended_left = record {
      paths = λ q pq. (
        (λ h. forth q pq h ((left.paths q pq).0
            (later last front q ((left.paths front path).1 (inl ([], sym (append-nil front)))) h))),
        (λ h. back q pq h),
      );
    }
      where
        path : P front
        path = ended_path ks front n r ends

        forth : (q : Path) → P q → Before front q → Remains (Some front) ks q → Remains None ks q
        forth q pq h (inl w) = absurd (before_self front (subst (λ x. Before front x) (ends q pq w) h))
        forth q pq h (inr w) = inr w

        back : (q : Path) → P q → Remains None ks q → Before front q
        back q pq (inl w) = absurd w
        back q pq (inr w) = r.before front q path pq ([], sym (append-nil front)) w
