-- Two readers of a touch who do alike at each question end alike.
use Rattle.std.proofs.Common.{◌≡◌, ℕ, ◌+◌, ◌==◌, Bool, true, false, List, [], ◌∷◌, map, Option, Some, None, sym, subst}
use Rattle.std.proofs.Common.{ap, ◌∙◌, if◌then◌else◌}
use Rattle.cm_model.specs.declared.variable.SortVar.{SortVar}
use Rattle.cm_term.specs.declared.atom.Num.{Num}
use Rattle.cm_term.specs.declared.atom.Tag.{Tag}
use Rattle.cm_term.specs.declared.atom.OptVar.{OptVar}
use Rattle.cm_term.specs.declared.question.Question.{Question}
use Rattle.cm_term.specs.declared.question.Question.TheVariants as question
use Rattle.cm_term.specs.declared.term.Term.{Term, out-Term}
use Rattle.cm_term.specs.declared.term.Term.TheVariants as term
use Rattle.cm_term.proofs.Folds.{fold-elem, fold-num, fold-tag, fold-rec, fold-none, fold-some, fold-either}
use Rattle.cm_term.proofs.Induction.{Each, term_ind}
use Rattle.cm_cells.specs.CellTable.{Place}
use Rattle.cm_cells.specs.Comparison.{Comparing, comparing, comparing_step, fields_compared, or_differ, elem_in, num_in}
use Rattle.cm_cells.specs.Comparison.{tag_in, fields_in}
use Rattle.cm_cells.specs.Touching.{keys_compared, places_compared, touching}

module _ (X Y : Type 0) (R : X → Y → Type 0) (ask : Question → (ℕ → X) → X) (pose : Question → (ℕ → Y) → Y)
    (asks : (q : Question) (k : ℕ → X) (l : ℕ → Y) → ((d : ℕ) → R (k d) (l d)) → R (ask q k) (pose q l)) where
  -- what is done with whether two keys are the same
  abbrev Ways : (Bool → X) → (Bool → Y) → Type 0
  Ways k l = (b : Bool) → R (k b) (l b)

  abbrev Both : Comparing X → Comparing Y → Type 0
  Both m n = (u : Term) (k : Bool → X) (l : Bool → Y) → Ways k l → R (m u k) (n u l)

  abbrev Alike : Term → Type 0
  Alike t = Both (comparing X ask t) (comparing Y pose t)

  chosen : (b : Bool) (x y : X) (z w : Y) → R x z → R y w → R (if b then x else y) (if b then z else w)
  chosen true x y z w r s = r
  chosen false x y z w r s = s

  differ_or : {Z : Type 0} (o : Option Z) (k : Bool → X) (l : Bool → Y) (f : Z → X) (g : Z → Y) → Ways k l
      → ((z : Z) → R (f z) (g z)) → R (or_differ o k f) (or_differ o l g)
  differ_or (Some z) k l f g h w = w z
  differ_or None k l f g h w = h false

  fields_alike : (ts us : List Term) → Each Alike ts → (k : Bool → X) (l : Bool → Y) → Ways k l
      → R (fields_compared X (map (comparing X ask) ts) us k) (fields_compared Y (map (comparing Y pose) ts) us l)
  fields_alike [] [] e k l h = h true
  fields_alike [] (u ∷ us) e k l h = h false
  fields_alike (t ∷ ts) [] e k l h = h false
  fields_alike (t ∷ ts) (u ∷ us) e k l h =
      e.0 u _ _ (λ b. chosen b _ _ _ _ (fields_alike ts us e.1 k l h) (h false))

  at_node : (t : Term) (m : Comparing X) (n : Comparing Y) → comparing X ask t ≡ m → comparing Y pose t ≡ n
      → Both m n → Alike t
  at_node t m n p q b = subst (λ z. Both z (comparing Y pose t)) (sym p) (subst (λ z. Both m z) (sym q) b)

  elem_alike : (x : SortVar) → Alike (term.Elem x)
  elem_alike x = at_node (term.Elem x) _ _ (fold-elem (comparing_step X ask) x) (fold-elem (comparing_step Y pose) x)
      (λ u k l h. differ_or (elem_in (out-Term u)) k l _ _ h
      (λ y. asks (question.Elems x y) (λ d. k (d == 0)) (λ d. l (d == 0)) (λ d. h (d == 0))))

  num_alike : (a : Num) → Alike (term.Num a)
  num_alike a = at_node (term.Num a) _ _ (fold-num (comparing_step X ask) a) (fold-num (comparing_step Y pose) a)
      (λ u k l h. differ_or (num_in (out-Term u)) k l _ _ h
      (λ b. asks (question.Nums a b) (λ d. k (d == 1)) (λ d. l (d == 1)) (λ d. h (d == 1))))

  tag_alike : (a : Tag) → Alike (term.Tag a)
  tag_alike a = at_node (term.Tag a) _ _ (fold-tag (comparing_step X ask) a) (fold-tag (comparing_step Y pose) a)
      (λ u k l h. differ_or (tag_in (out-Term u)) k l _ _ h
      (λ b. asks (question.TagOf a) _ _ (λ d. asks (question.TagOf b) _ _ (λ e. h (d == e)))))

  rec_alike : (ts : List Term) → Each Alike ts → Alike (term.Rec ts)
  rec_alike ts e = at_node (term.Rec ts) _ _ (fold-rec (comparing_step X ask) ts) (fold-rec (comparing_step Y pose) ts)
      (λ u k l h. differ_or (fields_in (out-Term u)) k l _ _ h (λ us. fields_alike ts us e k l h))

  none_alike : Alike term.None
  none_alike = at_node term.None _ _ (fold-none (comparing_step X ask)) (fold-none (comparing_step Y pose))
      (λ u k l h. h false)

  some_alike : (t : Term) → Alike t → Alike (term.Some t)
  some_alike t e = at_node (term.Some t) _ _ (fold-some (comparing_step X ask) t) (fold-some (comparing_step Y pose) t)
      (λ u k l h. h false)

  either_alike : (o : OptVar) → Alike (term.Either o)
  either_alike o =
      at_node (term.Either o) _ _ (fold-either (comparing_step X ask) o) (fold-either (comparing_step Y pose) o)
      (λ u k l h. h false)

  pub comparing_alike : (t u : Term) (k : Bool → X) (l : Bool → Y) → ((b : Bool) → R (k b) (l b))
      → R (comparing X ask t u k) (comparing Y pose t u l)
  comparing_alike =
      term_ind Alike elem_alike num_alike tag_alike rec_alike none_alike some_alike either_alike

  keys_alike : (o p : Option Term) (k : Bool → X) (l : Bool → Y) → Ways k l
      → R (keys_compared X ask o p k) (keys_compared Y pose o p l)
  keys_alike None None k l h = h true
  keys_alike None (Some u) k l h = h false
  keys_alike (Some t) None k l h = h false
  keys_alike (Some t) (Some u) k l h = comparing_alike t u k l h

  places_alike : (p q : Place) (k : Bool → X) (l : Bool → Y) → Ways k l
      → R (places_compared X ask p q k) (places_compared Y pose p q l)
  places_alike p q k l h = chosen (p.state == q.state) _ _ _ _ (keys_alike p.key q.key k l h) (h false)

  pub touching_alike : (ps : List Place) (i : ℕ) (p : Place) (found : ℕ → X) (fresh : X) (here : ℕ → Y) (new : Y)
      → ((n : ℕ) → R (found n) (here n)) → R fresh new
      → R (touching X ask ps i p found fresh) (touching Y pose ps i p here new)
  touching_alike [] i p found fresh here new f n = n
  touching_alike (q ∷ qs) i p found fresh here new f n =
      places_alike p q _ _ (λ b. chosen b _ _ _ _ (f i) (touching_alike qs (i + 1) p found fresh here new f n))
