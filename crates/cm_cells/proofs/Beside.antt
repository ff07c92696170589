-- A touch of terms beside the touch of their values.
use Rattle.std.proofs.Common.{◌≡◌, refl, ℕ, ◌+◌, ◌==◌, ltb, Bool, true, false, ◌&&◌, List, [], ◌∷◌, map, Option, Some}
use Rattle.std.proofs.Common.{None, IsTrue, sym, subst, ap, ◌∙◌, if◌then◌else◌}
use Rattle.std.proofs.lemmas.Bool.{and_parts}
use Rattle.std.specs.Option.{option_map}
use Rattle.cm_model.specs.declared.variable.SortVar.{SortVar}
use Rattle.cm_model.specs.Limits.{variant_limit}
use Rattle.cm_value.specs.declared.value.Value.{Value, out-Value}
use Rattle.cm_value.specs.declared.value.Value.TheVariants as value
use Rattle.cm_value.specs.declared.value.Value.TheOpen.{Value-F}
use Rattle.cm_value.proofs.Folds as values
use Rattle.cm_term.specs.declared.atom.Num.{Num}
use Rattle.cm_term.specs.declared.atom.Tag.{Tag}
use Rattle.cm_term.specs.declared.atom.OptVar.{OptVar}
use Rattle.cm_term.specs.declared.question.Question.{Question}
use Rattle.cm_term.specs.declared.question.Question.TheVariants as question
use Rattle.cm_term.specs.declared.term.Term.{Term, out-Term}
use Rattle.cm_term.specs.declared.term.Term.TheVariants as term
use Rattle.cm_term.specs.declared.term.Term.TheViews.{roll-Term, roll-out-Term}
use Rattle.cm_term.specs.declared.term.Term.TheOpen.{Term-F}
use Rattle.cm_term.specs.Valuation.{Valuation}
use Rattle.cm_term.specs.Atoms.{num_under, tag_under}
use Rattle.cm_term.specs.Questions.{outcome_under}
use Rattle.cm_term.specs.Terms.{value_of}
use Rattle.cm_term.proofs.Folds as terms
use Rattle.cm_term.proofs.Values.{value_elem, value_num, value_tag, value_rec}
use Rattle.cm_term.proofs.Induction.{Each, term_ind}
use Rattle.cm_eval.specs.Comparison as eval
use Rattle.cm_eval.specs.State.{Touched}
use Rattle.cm_eval.specs.Run.{Trace, Blocked, Logs, touch_of, cells_compared}
use Rattle.cm_eval.specs.Run as run
use Rattle.cm_eval.proofs.Examples.{out_elem, out_int, out_tag, out_rec}
use Rattle.cm_cells.specs.CellTable.{Place}
use Rattle.cm_cells.specs.Comparison.{comparing, comparing_step, fields_compared, or_differ, elem_in, num_in, tag_in}
use Rattle.cm_cells.specs.Comparison.{fields_in}
use Rattle.cm_cells.specs.Touching.{places_compared, keys_compared, touching}
use Rattle.cm_cells.specs.Alike.{cell_under, is_there, is_variant, is_variant_in, all_alike, fields_alike, alike}
use Rattle.cm_cells.specs.Alike.{alike_step, keys_alike, all_keys_alike}

pub whole : (u : Term) (y : Term-F Term) → out-Term u ≡ y → u ≡ roll-Term y
whole u y is = sym (roll-out-Term u) ∙ ap roll-Term is

small : (n : ℕ) → ltb n variant_limit ≡ true → eval.variant n ≡ Some n
small n lt = by (ltb n variant_limit) lt
  where
    by : (b : Bool) → b ≡ true → (if b then Some n else None) ≡ Some n
    by true e = refl
    by false e = absurd (cc)

module _ (v : Valuation) where
  -- the form of a key that another one is alike to, and of its value
  record ElemAt (u : Term) : Type 0 where
    var : SortVar
    of_term : elem_in (out-Term u) ≡ Some var
    of_value : eval.elem_of (value_of v u) ≡ Some (v.element var.0)

  elem_at : (u : Term) → is_there (elem_in (out-Term u)) ≡ true → ElemAt u
  elem_at u is = by (out-Term u) refl is
    where
      by : (y : Term-F Term) → out-Term u ≡ y → is_there (elem_in y) ≡ true → ElemAt u
      by (Term-F.Elem z) e h = record {
        var = z;
        of_term = ap elem_in e;
        of_value =
            ap eval.elem_of (ap (value_of v) (whole u (Term-F.Elem z) e ∙ term.rolls-Elem z) ∙ value_elem v z)
            ∙ ap eval.elem_in (out_elem (v.element z.0));
      }
      by (Term-F.Num a) e h = absurd (cc)
      by (Term-F.Tag a) e h = absurd (cc)
      by (Term-F.Rec ts) e h = absurd (cc)
      by Term-F.None e h = absurd (cc)
      by (Term-F.Some t) e h = absurd (cc)
      by (Term-F.Either o) e h = absurd (cc)

  record NumAt (u : Term) : Type 0 where
    number : Num
    of_term : num_in (out-Term u) ≡ Some number
    of_value : eval.int_of (value_of v u) ≡ Some (num_under v.number number)

  num_at : (u : Term) → is_there (num_in (out-Term u)) ≡ true → NumAt u
  num_at u is = by (out-Term u) refl is
    where
      by : (y : Term-F Term) → out-Term u ≡ y → is_there (num_in y) ≡ true → NumAt u
      by (Term-F.Num a) e h = record {
        number = a;
        of_term = ap num_in e;
        of_value =
            ap eval.int_of (ap (value_of v) (whole u (Term-F.Num a) e ∙ term.rolls-Num a) ∙ value_num v a)
            ∙ ap eval.int_in (out_int (num_under v.number a));
      }
      by (Term-F.Elem x) e h = absurd (cc)
      by (Term-F.Tag a) e h = absurd (cc)
      by (Term-F.Rec ts) e h = absurd (cc)
      by Term-F.None e h = absurd (cc)
      by (Term-F.Some t) e h = absurd (cc)
      by (Term-F.Either o) e h = absurd (cc)

  record TagAt (u : Term) : Type 0 where
    tag : Tag
    of_term : tag_in (out-Term u) ≡ Some tag
    of_value : eval.tag_of (value_of v u) ≡ Some (tag_under v.tag tag)

  tag_at : (u : Term) → is_variant_in v (tag_in (out-Term u)) ≡ true → TagAt u
  tag_at u is = by (out-Term u) refl is
    where
      by : (y : Term-F Term) → out-Term u ≡ y → is_variant_in v (tag_in y) ≡ true → TagAt u
      by (Term-F.Tag a) e h = record {
        tag = a;
        of_term = ap tag_in e;
        of_value =
            ap eval.tag_of (ap (value_of v) (whole u (Term-F.Tag a) e ∙ term.rolls-Tag a) ∙ value_tag v a)
            ∙ ap eval.tag_in (out_tag (tag_under v.tag a)) ∙ small (tag_under v.tag a) h;
      }
      by (Term-F.Elem x) e h = absurd (cc)
      by (Term-F.Num a) e h = absurd (cc)
      by (Term-F.Rec ts) e h = absurd (cc)
      by Term-F.None e h = absurd (cc)
      by (Term-F.Some t) e h = absurd (cc)
      by (Term-F.Either o) e h = absurd (cc)

  record RecAt (ms : List (Term → Bool)) (u : Term) : Type 0 where
    fields : List Term
    of_term : fields_in (out-Term u) ≡ Some fields
    of_value : eval.parts_of (value_of v u) ≡ Some (map (value_of v) fields)
    alike_ : all_alike ms fields ≡ true

  rec_at : (ms : List (Term → Bool)) (u : Term) → fields_alike ms (fields_in (out-Term u)) ≡ true → RecAt ms u
  rec_at ms u is = by (out-Term u) refl is
    where
      by : (y : Term-F Term) → out-Term u ≡ y → fields_alike ms (fields_in y) ≡ true → RecAt ms u
      by (Term-F.Rec ts) e h = record {
        fields = ts;
        of_term = ap fields_in e;
        of_value =
            ap eval.parts_of (ap (value_of v) (whole u (Term-F.Rec ts) e ∙ term.rolls-Rec ts) ∙ value_rec v ts)
            ∙ ap eval.parts_in (out_rec (map (value_of v) ts));
        alike_ = h;
      }
      by (Term-F.Elem x) e h = absurd (cc)
      by (Term-F.Num a) e h = absurd (cc)
      by (Term-F.Tag a) e h = absurd (cc)
      by Term-F.None e h = absurd (cc)
      by (Term-F.Some t) e h = absurd (cc)
      by (Term-F.Either o) e h = absurd (cc)

  module _ (X Y : Type 0) (R : X → Y → Type 0) (stop : X) (decide : ℕ → (ℕ → X) → X)
      (ask : Question → (ℕ → Y) → Y)
      (asks : (q : Question) (k : ℕ → X) (l : ℕ → Y) → R (k (outcome_under v q)) (l (outcome_under v q))
      → R (decide (outcome_under v q) k) (ask q l)) where
    abbrev on_values : Value → eval.Comparing X
    on_values = eval.comparison X stop decide

    abbrev step : Value-F (eval.Comparing X) → eval.Comparing X
    step = eval.comparison_step X stop decide

    abbrev Ways : (Bool → X) → (Bool → Y) → Type 0
    Ways k l = (b : Bool) → R (k b) (l b)

    abbrev Beside : Term → Type 0
    Beside t = (u : Term) → alike v t u ≡ true → (k : Bool → X) (l : Bool → Y) → Ways k l
        → R (on_values (value_of v t) (value_of v u) k) (comparing Y ask t u l)

    carry : {a b : X} {c d : Y} → a ≡ b → c ≡ d → R b d → R a c
    carry {a} {b} {c} {d} p q r = subst (λ z. R z c) (sym p) (subst (λ z. R b z) (sym q) r)

    elem_beside : (x : SortVar) → Beside (term.Elem x)
    elem_beside x u is k l h =
        let at = elem_at u (sym (ap (λ f. f u) (terms.fold-elem (alike_step v) x)) ∙ is) in
        carry
        (ap (λ z. on_values z (value_of v u) k) (value_elem v x)
        ∙ ap (λ (m : eval.Comparing X). m (value_of v u) k) (values.fold-elem step (v.element x.0))
        ∙ ap (λ o. eval.or_stop stop o (λ n. decide (eval.distinguished (v.element x.0) n) (λ d. k (d == 0))))
        at.of_value)
        (ap (λ m. m u l) (terms.fold-elem (comparing_step Y ask) x)
        ∙ ap (λ o. or_differ o l (λ y. ask (question.Elems x y) (λ d. l (d == 0)))) at.of_term)
        (asks (question.Elems x at.var) (λ d. k (d == 0)) (λ d. l (d == 0)) (h _))

    num_beside : (a : Num) → Beside (term.Num a)
    num_beside a u is k l h =
        let at = num_at u (sym (ap (λ f. f u) (terms.fold-num (alike_step v) a)) ∙ is) in
        carry
        (ap (λ z. on_values z (value_of v u) k) (value_num v a)
        ∙ ap (λ (m : eval.Comparing X). m (value_of v u) k) (values.fold-int step (num_under v.number a))
        ∙ ap (λ o. eval.or_stop stop o (λ n. decide (eval.ordered (num_under v.number a) n) (λ d. k (d == 1))))
        at.of_value)
        (ap (λ m. m u l) (terms.fold-num (comparing_step Y ask) a)
        ∙ ap (λ o. or_differ o l (λ b. ask (question.Nums a b) (λ d. l (d == 1)))) at.of_term)
        (asks (question.Nums a at.number) (λ d. k (d == 1)) (λ d. l (d == 1)) (h _))

    tag_beside : (a : Tag) → Beside (term.Tag a)
    tag_beside a u is k l h =
        let both = and_parts (is_variant v a) (is_variant_in v (tag_in (out-Term u)))
        (sym (ap (λ f. f u) (terms.fold-tag (alike_step v) a)) ∙ is) in
        let at = tag_at u both.1 in
        let m = tag_under v.tag a in
        carry
        (ap (λ z. on_values z (value_of v u) k) (value_tag v a)
        ∙ ap (λ (c : eval.Comparing X). c (value_of v u) k) (values.fold-tag step m)
        ∙ ap (λ o. eval.or_stop stop o (λ i. eval.or_stop stop (eval.tag_of (value_of v u))
        (λ j. decide i (λ d. decide j (λ e. k (d == e)))))) (small m both.0)
        ∙ ap (λ o. eval.or_stop stop o (λ j. decide m (λ d. decide j (λ e. k (d == e))))) at.of_value)
        (ap (λ c. c u l) (terms.fold-tag (comparing_step Y ask) a)
        ∙ ap (λ o. or_differ o l
        (λ b. ask (question.TagOf a) (λ d. ask (question.TagOf b) (λ e. l (d == e))))) at.of_term)
        (asks (question.TagOf a) _ _ (asks (question.TagOf at.tag) _ _ (h _)))

    chosen : (b : Bool) (x y : X) (z w : Y) → R x z → R y w → R (if b then x else y) (if b then z else w)
    chosen true x y z w r s = r
    chosen false x y z w r s = s

    fields_beside : (ts us : List Term) → Each Beside ts → all_alike (map (alike v) ts) us ≡ true
        → (k : Bool → X) (l : Bool → Y) → Ways k l
        → R (eval.fields_compared X stop (map on_values (map (value_of v) ts)) (map (value_of v) us) k)
        (fields_compared Y (map (comparing Y ask) ts) us l)
    fields_beside [] [] e is k l h = h true
    fields_beside [] (u ∷ us) e is k l h = absurd (cc)
    fields_beside (t ∷ ts) [] e is k l h = absurd (cc)
    fields_beside (t ∷ ts) (u ∷ us) e is k l h =
        let both = and_parts (alike v t u) (all_alike (map (alike v) ts) us) is in
        e.0 u both.0 _ _ (λ b. chosen b _ _ _ _ (fields_beside ts us e.1 both.1 k l h) (h false))

    rec_beside : (ts : List Term) → Each Beside ts → Beside (term.Rec ts)
    rec_beside ts e u is k l h =
        let at = rec_at (map (alike v) ts) u (sym (ap (λ f. f u) (terms.fold-rec (alike_step v) ts)) ∙ is) in
        carry
        (ap (λ z. on_values z (value_of v u) k) (value_rec v ts)
        ∙ ap (λ (m : eval.Comparing X). m (value_of v u) k) (values.fold-rec step (map (value_of v) ts))
        ∙ ap (λ o. eval.or_stop stop o (λ ws. eval.fields_compared X stop (map on_values (map (value_of v) ts)) ws k))
        at.of_value)
        (ap (λ m. m u l) (terms.fold-rec (comparing_step Y ask) ts)
        ∙ ap (λ o. or_differ o l (λ us. fields_compared Y (map (comparing Y ask) ts) us l)) at.of_term)
        (fields_beside ts at.fields e at.alike_ k l h)

    none_beside : Beside term.None
    none_beside u is k l h =
        absurd (let f = sym (ap (λ f. f u) (terms.fold-none (alike_step v))) ∙ is in cc)

    some_beside : (t : Term) → Beside t → Beside (term.Some t)
    some_beside t e u is k l h =
        absurd (let f = sym (ap (λ f. f u) (terms.fold-some (alike_step v) t)) ∙ is in cc)

    either_beside : (o : OptVar) → Beside (term.Either o)
    either_beside o u is k l h =
        absurd (let f = sym (ap (λ f. f u) (terms.fold-either (alike_step v) o)) ∙ is in cc)

    pub comparison_beside : (t u : Term) → alike v t u ≡ true → (k : Bool → X) (l : Bool → Y)
        → ((b : Bool) → R (k b) (l b)) → R (on_values (value_of v t) (value_of v u) k) (comparing Y ask t u l)
    comparison_beside =
        term_ind Beside elem_beside num_beside tag_beside rec_beside none_beside some_beside either_beside

module _ (v : Valuation) (Y : Type 0) (R : Trace → Y → Type 0) (t : Touched) (ask : Question → (ℕ → Y) → Y)
    (asks : (q : Question) (k : ℕ → Trace) (l : ℕ → Y) → R (k (outcome_under v q)) (l (outcome_under v q))
    → R (Logs t (outcome_under v q) (k (outcome_under v q))) (ask q l)) where
  keys_beside : (o p : Option Term) → keys_alike v o p ≡ true → (k : Bool → Trace) (l : Bool → Y)
      → ((b : Bool) → R (k b) (l b))
      → R (run.keys_compared (option_map (value_of v) o) (option_map (value_of v) p) t k) (keys_compared Y ask o p l)
  keys_beside None None is k l h = h true
  keys_beside None (Some u) is k l h = absurd (cc)
  keys_beside (Some a) None is k l h = absurd (cc)
  keys_beside (Some a) (Some b) is k l h =
      comparison_beside v Trace Y R (Blocked t) (λ d more. Logs t d (more d)) ask asks a b is k l h

  either_way : (b : Bool) (x y : Trace) (z w : Y) → R x z → R y w → R (if b then x else y) (if b then z else w)
  either_way true x y z w r s = r
  either_way false x y z w r s = s

  places_beside : (p q : Place) → (if p.state == q.state then keys_alike v p.key q.key else true) ≡ true
      → (k : Bool → Trace) (l : Bool → Y) → ((b : Bool) → R (k b) (l b))
      → R (cells_compared (cell_under v p) (cell_under v q) t k) (places_compared Y ask p q l)
  places_beside p q is k l h = by (p.state == q.state) is
    where
      by : (b : Bool) → (if b then keys_alike v p.key q.key else true) ≡ true
          → R (if b then run.keys_compared (cell_under v p).key (cell_under v q).key t k else k false)
          (if b then keys_compared Y ask p.key q.key l else l false)
      by true is = keys_beside p.key q.key is k l h
      by false is = h false

  -- a touch of terms goes as the touch of their values does
  pub touch_beside : (ps : List Place) (i : ℕ) (p : Place) → all_keys_alike v p ps ≡ true
      → (found : ℕ → Trace) (fresh : Trace) (here : ℕ → Y) (new : Y)
      → ((n : ℕ) → R (found n) (here n)) → R fresh new
      → R (touch_of (map (cell_under v) ps) i (cell_under v p) t found fresh) (touching Y ask ps i p here new)
  touch_beside [] i p is found fresh here new f n = n
  touch_beside (q ∷ qs) i p is found fresh here new f n =
      let both = and_parts (if p.state == q.state then keys_alike v p.key q.key else true) (all_keys_alike v p qs) is in
      places_beside p q both.0 _ _
      (λ b. either_way b _ _ _ _ (f i) (touch_beside qs (i + 1) p both.1 found fresh here new f n))
