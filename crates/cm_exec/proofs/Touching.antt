-- Touches read in two ways: with the answers so far, and as a tale.
use Rattle.std.proofs.Common.{◌≡◌, ◌<◌, ◌≤◌, length, arith, ℕ, ◌+◌, ◌==◌, Bool, true, false, List, [], ◌∷◌, ◌++◌, map}
use Rattle.std.proofs.Common.{Option, Some, None, refl}
use Rattle.std.proofs.Common.{subst, sym, ap, if◌then◌else◌}
use Rattle.std.proofs.Math.Path.{fun_ext}
use Rattle.cm_term.specs.declared.question.Question.{Question}
use Rattle.cm_term.specs.declared.question.Question.TheVariants as question
use Rattle.cm_term.specs.declared.term.Term.{Term, out-Term}
use Rattle.cm_term.specs.declared.term.Term.TheVariants as term
use Rattle.cm_term.proofs.Folds as folds
use Rattle.cm_term.proofs.Induction.{Each, term_ind}
use Rattle.cm_cells.specs.declared.search.Touched.TheVariants as touched
use Rattle.cm_cells.specs.CellTable.{CellTable, Place}
use Rattle.cm_cells.specs.Comparison.{Comparing, comparing, comparing_step, fields_compared, tags_compared, or_differ}
use Rattle.cm_cells.specs.Comparison.{elem_in, num_in, tag_in, fields_in}
use Rattle.cm_cells.specs.Touching.{keys_compared, touching, Answering, asked, next_of}
use Rattle.cm_story.specs.Tale.{Asks}
use Rattle.cm_exec.specs.Run.{Telling}
use Rattle.cm_exec.specs.Run.{asked as asked_with}
use Rattle.cm_exec.specs.Running.{Answered, asks_on, touch_after, Stands}

-- two readers that go side by side
module _ (X Y : Type 0) (R : X → Y → Type 0) (ask : Question → (ℕ → X) → X) (asks : Question → (ℕ → Y) → Y)
    (both : (q : Question) (k : ℕ → X) (l : ℕ → Y) → ((d : ℕ) → R (k d) (l d)) → R (ask q k) (asks q l)) where
  abbrev Beside : Comparing X → Comparing Y → Type 0
  Beside m n = (u : Term) (k : Bool → X) (l : Bool → Y) → ((b : Bool) → R (k b) (l b)) → R (m u k) (n u l)

  abbrev IsBeside : Term → Type 0
  IsBeside t = Beside (comparing X ask t) (comparing Y asks t)

  or_beside : {Z : Type 0} (o : Option Z) (k : Bool → X) (l : Bool → Y) (f : Z → X) (g : Z → Y)
      → ((b : Bool) → R (k b) (l b)) → ((z : Z) → R (f z) (g z)) → R (or_differ o k f) (or_differ o l g)
  or_beside (Some z) k l f g h e = e z
  or_beside None k l f g h e = h false

  if_beside : (s : Bool) (x x' : X) (y y' : Y) → R x y → R x' y'
      → R (if s then x else x') (if s then y else y')
  if_beside true x x' y y' r s = r
  if_beside false x x' y y' r s = s

  fields_beside : (ts : List Term) → Each IsBeside ts → (us : List Term) (k : Bool → X) (l : Bool → Y)
      → ((b : Bool) → R (k b) (l b))
      → R (fields_compared X (map (comparing X ask) ts) us k) (fields_compared Y (map (comparing Y asks) ts) us l)
  fields_beside [] e [] k l h = h true
  fields_beside [] e (u ∷ us) k l h = h false
  fields_beside (t ∷ ts) e [] k l h = h false
  fields_beside (t ∷ ts) e (u ∷ us) k l h =
      e.0 u (λ s. if s then fields_compared X (map (comparing X ask) ts) us k else k false)
      (λ s. if s then fields_compared Y (map (comparing Y asks) ts) us l else l false)
      (λ s. if_beside s (fields_compared X (map (comparing X ask) ts) us k) (k false)
      (fields_compared Y (map (comparing Y asks) ts) us l) (l false) (fields_beside ts e.1 us k l h) (h false))

  by_steps : (t : Term) (m : Comparing X) (n : Comparing Y) → comparing X ask t ≡ m → comparing Y asks t ≡ n
      → Beside m n → IsBeside t
  by_steps t m n e f h u k l g =
      subst (λ (c : Comparing X). R (c u k) (comparing Y asks t u l)) (sym e)
      (subst (λ (c : Comparing Y). R (m u k) (c u l)) (sym f) (h u k l g))

  pub compared_beside : (t : Term) → IsBeside t
  compared_beside = term_ind IsBeside
      (λ x. by_steps (term.Elem x) _ _ (folds.fold-elem (comparing_step X ask) x)
      (folds.fold-elem (comparing_step Y asks) x)
      (λ u k l h. or_beside (elem_in (out-Term u)) k l (λ y. ask (question.Elems x y) (λ d. k (d == 0)))
      (λ y. asks (question.Elems x y) (λ d. l (d == 0))) h
      (λ y. both (question.Elems x y) (λ d. k (d == 0)) (λ d. l (d == 0)) (λ d. h (d == 0)))))
      (λ a. by_steps (term.Num a) _ _ (folds.fold-num (comparing_step X ask) a)
      (folds.fold-num (comparing_step Y asks) a)
      (λ u k l h. or_beside (num_in (out-Term u)) k l (λ b. ask (question.Nums a b) (λ d. k (d == 1)))
      (λ b. asks (question.Nums a b) (λ d. l (d == 1))) h
      (λ b. both (question.Nums a b) (λ d. k (d == 1)) (λ d. l (d == 1)) (λ d. h (d == 1)))))
      (λ a. by_steps (term.Tag a) _ _ (folds.fold-tag (comparing_step X ask) a)
      (folds.fold-tag (comparing_step Y asks) a)
      (λ u k l h. or_beside (tag_in (out-Term u)) k l (λ b. tags_compared X ask a b k)
      (λ b. tags_compared Y asks a b l) h
      (λ b. both (question.TagOf a) (λ d. ask (question.TagOf b) (λ e. k (d == e)))
      (λ d. asks (question.TagOf b) (λ e. l (d == e)))
      (λ d. both (question.TagOf b) (λ e. k (d == e)) (λ e. l (d == e)) (λ e. h (d == e))))))
      (λ ts each. by_steps (term.Rec ts) _ _ (folds.fold-rec (comparing_step X ask) ts)
      (folds.fold-rec (comparing_step Y asks) ts)
      (λ u k l h. or_beside (fields_in (out-Term u)) k l (λ us. fields_compared X (map (comparing X ask) ts) us k)
      (λ us. fields_compared Y (map (comparing Y asks) ts) us l) h (λ us. fields_beside ts each us k l h)))
      (by_steps term.None _ _ (folds.fold-none (comparing_step X ask)) (folds.fold-none (comparing_step Y asks))
      (λ u k l h. h false))
      (λ t e. by_steps (term.Some t) _ _ (folds.fold-some (comparing_step X ask) t)
      (folds.fold-some (comparing_step Y asks) t) (λ u k l h. h false))
      (λ o. by_steps (term.Either o) _ _ (folds.fold-either (comparing_step X ask) o)
      (folds.fold-either (comparing_step Y asks) o) (λ u k l h. h false))

  keys_beside : (x y : Option Term) (k : Bool → X) (l : Bool → Y) → ((b : Bool) → R (k b) (l b))
      → R (keys_compared X ask x y k) (keys_compared Y asks x y l)
  keys_beside None None k l h = h true
  keys_beside None (Some u) k l h = h false
  keys_beside (Some t) None k l h = h false
  keys_beside (Some t) (Some u) k l h = compared_beside t u k l h

  pub touch_beside : (qs : List Place) (i : ℕ) (p : Place) (found : ℕ → X) (finds : ℕ → Y) (fresh : X) (new : Y)
      → ((n : ℕ) → R (found n) (finds n)) → R fresh new
      → R (touching X ask qs i p found fresh) (touching Y asks qs i p finds new)
  touch_beside [] i p found finds fresh new f n = n
  touch_beside (q ∷ qs) i p found finds fresh new f n =
      let later = touch_beside qs (i + 1) p found finds fresh new f n in
      if_beside (p.state == q.state) (keys_compared X ask p.key q.key on_x) (on_x false)
      (keys_compared Y asks p.key q.key on_y) (on_y false) (keys_beside p.key q.key on_x on_y (on later)) later
    where
      on_x : Bool → X
      on_x s = if s then found i else touching X ask qs (i + 1) p found fresh

      on_y : Bool → Y
      on_y s = if s then finds i else touching Y asks qs (i + 1) p finds new

      on : R (touching X ask qs (i + 1) p found fresh) (touching Y asks qs (i + 1) p finds new) → (s : Bool)
          → R (on_x s) (on_y s)
      on later s = if_beside s (found i) (touching X ask qs (i + 1) p found fresh) (finds i)
          (touching Y asks qs (i + 1) p finds new) (f i) later

-- with no answer a touch is asked from its beginning
pub touch_begins : (cs : CellTable) (p : Place) (found : ℕ → Telling) (fresh : Telling)
    → touch_after cs p [] found fresh ≡ touching Telling (λ q. Asks (asked_with q cs)) cs.places 0 p found fresh
touch_begins cs p found fresh =
    touch_beside Answered Telling (λ x y. x [] ≡ y) (asks_on cs) (λ q. Asks (asked_with q cs))
    (λ q k l e. ap (Asks (asked_with q cs)) (fun_ext (λ d. e d)))
    cs.places 0 p (λ n rest. found n) found (λ rest. fresh) fresh (λ n. refl) refl

-- where a touch stands after its answers
pub touch_stands : (cs : CellTable) (p : Place) (answers : List ℕ) (found : ℕ → Telling) (fresh : Telling)
    → Stands cs (next_of cs.places p answers) (λ more. touch_after cs p (answers ++ more) found fresh) found fresh
touch_stands cs p answers found fresh =
    touch_beside Answering Answered Fits asked (asks_on cs)
    (λ q k l e. fits q k l e) cs.places 0 p (λ n rest. touched.Cell n) (λ n rest. found n)
    (λ rest. touched.New) (λ rest. fresh) (λ n rest. refl) (λ rest. refl) answers
  where
    Fits : Answering → Answered → Type 0
    Fits x y = (front : List ℕ) → Stands cs (x front) (λ more. y (front ++ more)) found fresh

    fits : (q : Question) (k : ℕ → Answering) (l : ℕ → Answered) → ((d : ℕ) → Fits (k d) (l d))
        → Fits (asked q k) (asks_on cs q l)
    fits q k l e [] = refl
    fits q k l e (a ∷ front) = e a front

-- a found cell is one of those touched
pub found_below : (m : ℕ) (qs : List Place) (i : ℕ) (p : Place) → i + length qs ≤ m → (answers : List ℕ) (n : ℕ)
    → touching Answering asked qs i p (λ n rest. touched.Cell n) (λ rest. touched.New) answers ≡ touched.Cell n → n < m
found_below m [] i p le answers n e = absurd (cc)
found_below m (q ∷ qs) i p le answers n e =
    let later = found_below m qs (i + 1) p (omega (arith, le)) in
    if_beside Answering (Unit {0}) Below asked (λ q k. tt) (λ q k l h. steps q k h)
    (p.state == q.state) (keys_compared Answering asked p.key q.key next) (next false) tt tt
    (keys_beside Answering (Unit {0}) Below asked (λ q k. tt) (λ q k l h. steps q k h) p.key q.key next (λ s. tt)
    (on later)) later answers n e
  where
    Below : Answering → Unit {0} → Type 0
    Below x u = (front : List ℕ) (n : ℕ) → x front ≡ touched.Cell n → n < m

    steps : (q : Question) (k : ℕ → Answering) → ((d : ℕ) → Below (k d) tt) → Below (asked q k) tt
    steps q k h [] n e = absurd (cc)
    steps q k h (a ∷ front) n e = h a front n e

    next : Bool → Answering
    next s = if s then (λ rest. touched.Cell i)
        else touching Answering asked qs (i + 1) p (λ n rest. touched.Cell n) (λ rest. touched.New)

    on : Below (touching Answering asked qs (i + 1) p (λ n rest. touched.Cell n) (λ rest. touched.New)) tt → (s : Bool)
        → Below (next s) tt
    on later true = λ front n e. (let same : i ≡ n = cc in omega (arith, le, same))
    on later false = later
