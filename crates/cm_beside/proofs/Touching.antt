-- A touch on values, beside what is asked of the terms of the keys.
use Rattle.std.proofs.Common.{◌≡◌, ◌≤◌, ◌+◌, ℕ, suc, ◌==◌, ℤ, Bool, true, false, List, [], ◌∷◌, map, slice_get}
use Rattle.std.proofs.Common.{Option, Some, None, refl, sym, ap, ◌∙◌, subst, arith, if◌then◌else◌}
use Rattle.std.specs.List.{list_all}
use Rattle.std.proofs.lemmas.Bool.{and_parts, eqb-true}
use Rattle.std.proofs.lemmas.Bool.Decides.{Decides-int_eq}
use Rattle.cm_model.specs.Tables.{Tables}
use Rattle.cm_model.specs.WellTyped.{IsWellTyped}
use Rattle.cm_model.specs.declared.ty.Ty.{Ty}
use Rattle.cm_model.specs.declared.body.StateDecl.{StateDecl}
use Rattle.cm_model.specs.declared.variable.SortVar.{SortVar}
use Rattle.cm_value.specs.declared.value.Value.{Value}
use Rattle.cm_value.specs.declared.value.Value.TheVariants as value
use Rattle.cm_value.specs.Membership.{field_types}
use Rattle.cm_value.proofs.Folds as values
use Rattle.cm_value.proofs.Induction.{Each, value_ind}
use Rattle.cm_term.specs.declared.atom.Num.{Num}
use Rattle.cm_term.specs.declared.atom.Tag.{Tag}
use Rattle.cm_term.specs.declared.question.Question.{Question}
use Rattle.cm_term.specs.declared.question.Question.TheVariants as question
use Rattle.cm_term.specs.declared.term.Term.{Term, out-Term}
use Rattle.cm_term.specs.Atoms.{num_under, tag_under}
use Rattle.cm_term.specs.Questions.{outcome_under}
use Rattle.cm_term.proofs.Folds as terms
use Rattle.cm_eval.specs.declared.log.CellName.{CellName}
use Rattle.cm_eval.specs.Comparison as eval
use Rattle.cm_eval.proofs.Examples.{out_elem, out_int, out_tag, out_rec}
use Rattle.cm_story.specs.Tale.{Asks}
use Rattle.cm_story.specs.Story.{Story, blocked}
use Rattle.cm_story.specs.Story as story
use Rattle.cm_cells.specs.CellTable.{Place}
use Rattle.cm_cells.specs.Comparison.{elem_in, num_in, tag_in, fields_in, comparing, comparing_step, fields_compared}
use Rattle.cm_cells.specs.Comparison.{or_differ}
use Rattle.cm_cells.specs.Touching.{keys_compared, places_compared, touching}
use Rattle.cm_cells.specs.Alike.{is_without_options, plain_step}
use Rattle.cm_relation.specs.Relation.{AreKeys}
use Rattle.cm_beside.specs.Grounds.{Grounds}
use Rattle.cm_beside.specs.Fits.{Fitting, Fits, is_element, is_number, is_choice, all_fit}
use Rattle.cm_beside.specs.Related.{is_question}
use Rattle.cm_beside.specs.Places.{IsPlace, ArePlaces}
use Rattle.cm_beside.proofs.Layers.{fitting, sort_type, int_type, enum_type, record_type, at_sort, at_int, at_enum, at_record}
use Rattle.cm_beside.proofs.Fitting.{fit_elem, fit_int, fit_tag, fit_rec, member, decided}
use Rattle.cm_beside.proofs.Options.{elem_form, num_form, tag_form, rec_form}
use Rattle.cm_beside.proofs.Questions.{small, elements_asked, numbers_asked, variant_asked, few_variants, same_record}
use Rattle.cm_beside.proofs.Keys.{key_is_plain}

module _ (t : Tables) (typed : IsWellTyped t) (g : Grounds) where
  abbrev fit : Value → Fitting
  fit = fitting t g

  abbrev out : Question → ℕ
  out = outcome_under g.valuation

  module _ (Y : Type 0) (R : Story → Y → Type 0) (pose : Question → (ℕ → Y) → Y)
      (asks : (q : Question) → is_question t g q ≡ true → (k : ℕ → Story) (l : ℕ → Y) → R (k (out q)) (l (out q))
      → R (Asks (out q) k) (pose q l)) where
    abbrev Ways : (Bool → Story) → (Bool → Y) → Type 0
    Ways k l = (b : Bool) → R (k b) (l b)

    abbrev on_values : Value → eval.Comparing Story
    on_values = eval.comparison Story blocked Asks

    carry : {a b : Story} {c d : Y} → a ≡ b → c ≡ d → R b d → R a c
    carry {a} {b} {c} {d} p q r = subst (λ z. R z c) (sym p) (subst (λ z. R b z) (sym q) r)

    asked : (q : Question) (m : ℕ) → m ≡ out q → is_question t g q ≡ true → (k : ℕ → Story) (l : ℕ → Y)
        → R (k m) (l m) → R (Asks m k) (pose q l)
    asked q m e is k l h =
        subst (λ n. R (Asks n k) (pose q l)) (sym e) (asks q is k l (subst (λ n. R (k n) (l n)) e h))

    -- a key beside its term
    abbrev Goes : Value → Type 0
    Goes v = (u : Ty) (b : ℕ) (x : Term) → b ≤ g.options → fit v u b x ≡ true → is_without_options v ≡ true
        → (w : Value) (y : Term) → fit w u g.options y ≡ true → (k : Bool → Story) (l : Bool → Y) → Ways k l
        → R (on_values v w k) (comparing Y pose x y l)

    elem_goes : (m : ℕ) → Goes (value.Elem m)
    elem_goes m u b x bo h plain w y hw k l each = by (elem_in (out-Term x)) refl (sym (fit_elem t g m u b x) ∙ h)
      where
        by : (o : Option SortVar) → elem_in (out-Term x) ≡ o → is_element t g u m o ≡ true
            → R (on_values (value.Elem m) w k) (comparing Y pose x y l)
        by None e ka = absurd (cc)
        by (Some a) e ka =
            let s = sort_type t g u m (Some a) ka in
            let r = at_sort t g u s.0 s.1 w g.options y hw in
            carry
            (ap (λ (c : eval.Comparing Story). c w k) (values.fold-elem (eval.comparison_step Story blocked Asks) m)
            ∙ ap (λ o. eval.or_stop blocked o (λ j. Asks (eval.distinguished m j) (λ d. k (d == 0))))
            (ap eval.elem_of r.value_is ∙ ap eval.elem_in (out_elem r.n)))
            (ap (λ z. comparing Y pose z y l) (elem_form x a e)
            ∙ ap (λ c. c y l) (terms.fold-elem (comparing_step Y pose) a)
            ∙ ap (λ o. or_differ o l (λ z. pose (question.Elems a z) (λ d. l (d == 0)))) r.term_is)
            (asked (question.Elems a r.a) (eval.distinguished m r.n)
            (ap (λ i. eval.distinguished i r.n) (sym (eqb-true (g.valuation.element a.0) m (and_parts _ _ ka).0))
            ∙ ap (λ i. eval.distinguished (g.valuation.element a.0) i)
            (sym (eqb-true (g.valuation.element r.a.0) r.n (and_parts _ _ r.element).0)))
            (elements_asked t g u m r.n a r.a ka r.element) (λ d. k (d == 0)) (λ d. l (d == 0))
            (each (eval.distinguished m r.n == 0)))

    int_goes : (m : ℤ) → Goes (value.Int m)
    int_goes m u b x bo h plain w y hw k l each = by (num_in (out-Term x)) refl (sym (fit_int t g m u b x) ∙ h)
      where
        by : (o : Option Num) → num_in (out-Term x) ≡ o → is_number t g u m o ≡ true
            → R (on_values (value.Int m) w k) (comparing Y pose x y l)
        by None e ka = absurd (cc)
        by (Some a) e ka =
            let s = int_type t g u m (Some a) ka in
            let r = at_int t g u s.0 s.1 w g.options y hw in
            carry
            (ap (λ (c : eval.Comparing Story). c w k) (values.fold-int (eval.comparison_step Story blocked Asks) m)
            ∙ ap (λ o. eval.or_stop blocked o (λ j. Asks (eval.ordered m j) (λ d. k (d == 1))))
            (ap eval.int_of r.value_is ∙ ap eval.int_in (out_int r.n)))
            (ap (λ z. comparing Y pose z y l) (num_form x a e)
            ∙ ap (λ c. c y l) (terms.fold-num (comparing_step Y pose) a)
            ∙ ap (λ o. or_differ o l (λ z. pose (question.Nums a z) (λ d. l (d == 1)))) r.term_is)
            (asked (question.Nums a r.a) (eval.ordered m r.n)
            (ap (λ q. eval.ordered q r.n)
            (sym (decided (Decides-int_eq (num_under g.valuation.number a) m) (and_parts _ _ ka).0))
            ∙ ap (λ q. eval.ordered (num_under g.valuation.number a) q)
            (sym (decided (Decides-int_eq (num_under g.valuation.number r.a) r.n) (and_parts _ _ r.number).0)))
            (numbers_asked t g u u m r.n a r.a ka r.number)
            (λ d. k (d == 1)) (λ d. l (d == 1)) (each (eval.ordered m r.n == 1)))

    tag_goes : (m : ℕ) → Goes (value.Tag m)
    tag_goes m u b x bo h plain w y hw k l each = by (tag_in (out-Term x)) refl (sym (fit_tag t g m u b x) ∙ h)
      where
        by : (o : Option Tag) → tag_in (out-Term x) ≡ o → is_choice t g u m o ≡ true
            → R (on_values (value.Tag m) w k) (comparing Y pose x y l)
        by None e ka = absurd (cc)
        by (Some a) e ka =
            let s = enum_type t g u m (Some a) ka in
            let r = at_enum t g u s.0 s.1 w g.options y hw in
            let few_m = few_variants t g typed m u b x h in
            let few_r = few_variants t g typed r.n u g.options y
            (subst (λ z. fit z u g.options y ≡ true) r.value_is hw) in
            carry
            (ap (λ (c : eval.Comparing Story). c w k) (values.fold-tag (eval.comparison_step Story blocked Asks) m)
            ∙ ap (λ o. eval.or_stop blocked o (λ i. eval.or_stop blocked (eval.tag_of w)
            (λ j. Asks i (λ d. Asks j (λ e. k (d == e)))))) (small m few_m)
            ∙ ap (λ o. eval.or_stop blocked o (λ j. Asks m (λ d. Asks j (λ e. k (d == e)))))
            (ap eval.tag_of r.value_is ∙ ap eval.tag_in (out_tag r.n) ∙ small r.n few_r))
            (ap (λ z. comparing Y pose z y l) (tag_form x a e)
            ∙ ap (λ c. c y l) (terms.fold-tag (comparing_step Y pose) a)
            ∙ ap (λ o. or_differ o l (λ b. pose (question.TagOf a) (λ d. pose (question.TagOf b) (λ e. l (d == e)))))
            r.term_is)
            (asked (question.TagOf a) m (sym (eqb-true (tag_under g.valuation.tag a) m (and_parts _ _ ka).0))
            (variant_asked t g m u a ka few_m) _ _
            (asked (question.TagOf r.a) r.n
            (sym (eqb-true (tag_under g.valuation.tag r.a) r.n (and_parts _ _ r.choice).0))
            (variant_asked t g r.n u r.a r.choice few_r) _ _ (each (m == r.n))))

    chosen : (b : Bool) (x y : Story) (z w : Y) → R x z → R y w → R (if b then x else y) (if b then z else w)
    chosen true x y z w r s = r
    chosen false x y z w r s = s

    fields_go : (vs : List Value) → Each Goes vs → (us : List Ty) (b : ℕ) (xs : List Term) → b ≤ g.options
        → all_fit t g (map fit vs) us b xs ≡ true → list_all (λ b. b) (map is_without_options vs) ≡ true
        → (ws : List Value) (ys : List Term) → all_fit t g (map fit ws) us g.options ys ≡ true
        → (k : Bool → Story) (l : Bool → Y) → Ways k l
        → R (eval.fields_compared Story blocked (map on_values vs) ws k)
        (fields_compared Y (map (comparing Y pose) xs) ys l)
    fields_go [] e [] b [] bo h plain [] [] hw k l each = each true
    fields_go [] e [] b [] bo h plain [] (y ∷ ys) hw k l each = absurd (cc)
    fields_go [] e [] b [] bo h plain (w ∷ ws) ys hw k l each = absurd (cc)
    fields_go [] e [] b (x ∷ xs) bo h plain ws ys hw k l each = absurd (cc)
    fields_go [] e (u ∷ us) b xs bo h plain ws ys hw k l each = absurd (cc)
    fields_go (v ∷ vs) e [] b xs bo h plain ws ys hw k l each = absurd (cc)
    fields_go (v ∷ vs) e (u ∷ us) b [] bo h plain ws ys hw k l each = absurd (cc)
    fields_go (v ∷ vs) e (u ∷ us) b (x ∷ xs) bo h plain [] ys hw k l each = absurd (cc)
    fields_go (v ∷ vs) e (u ∷ us) b (x ∷ xs) bo h plain (w ∷ ws) [] hw k l each = absurd (cc)
    fields_go (v ∷ vs) e (u ∷ us) b (x ∷ xs) bo h plain (w ∷ ws) (y ∷ ys) hw k l each =
        let one = and_parts (fit v u b x) (all_fit t g (map fit vs) us b xs) h in
        let two = and_parts (fit w u g.options y) (all_fit t g (map fit ws) us g.options ys) hw in
        let none = and_parts (is_without_options v) (list_all (λ b. b) (map is_without_options vs)) plain in
        e.0 u b x bo one.0 none.0 w y two.0 _ _
        (λ s. chosen s _ _ _ _ (fields_go vs e.1 us b xs bo one.1 none.1 ws ys two.1 k l each) (each false))

    rec_goes : (vs : List Value) → Each Goes vs → Goes (value.Rec vs)
    rec_goes vs e u b x bo h plain w y hw k l each =
        let s = record_type t g (map fit vs) u b (fields_in (out-Term x)) (sym (fit_rec t g vs u b x) ∙ h) in
        let a = at_record t g u s.0 s.1 (value.Rec vs) b x h in
        let r = at_record t g u s.0 s.1 w g.options y hw in
        let both = same_record t g u s.0 b vs x w y a r in
        carry
        (ap (λ (c : eval.Comparing Story). c w k) (values.fold-rec (eval.comparison_step Story blocked Asks) vs)
        ∙ ap (λ o. eval.or_stop blocked o (λ ws. eval.fields_compared Story blocked (map on_values vs) ws k))
        (ap eval.parts_of r.value_is ∙ ap eval.parts_in (out_rec r.parts)))
        (ap (λ z. comparing Y pose z y l) (rec_form x a.fields a.term_is)
        ∙ ap (λ c. c y l) (terms.fold-rec (comparing_step Y pose) a.fields)
        ∙ ap (λ o. or_differ o l (λ us. fields_compared Y (map (comparing Y pose) a.fields) us l)) r.term_is)
        (fields_go vs e (field_types a.d) b a.fields bo both.0 (sym (values.fold-rec plain_step vs) ∙ plain)
        r.parts r.fields both.1 k l each)

    goes : (v : Value) → Goes v
    goes =
        value_ind Goes elem_goes int_goes tag_goes rec_goes
        (λ u b x bo h plain w y hw k l each. absurd (let f = sym (values.fold-none plain_step) ∙ plain in cc))
        (λ v e u b x bo h plain w y hw k l each. absurd (let f = sym (values.fold-some plain_step v) ∙ plain in cc))

    -- two keys of a state
    keys_go : (s : ℕ) (d : StateDecl) → slice_get t.states s ≡ Some d → (c e : Option Value) (p q : Option Term)
        → AreKeys (Fits t g) d.key c p → AreKeys (Fits t g) d.key e q → (k : Bool → Story) (l : Bool → Y) → Ways k l
        → R (story.keys_compared c e k) (keys_compared Y pose p q l)
    keys_go s d at c e p q h i k l each = by d.key refl c e p q h i
      where
        by : (ty : Option Ty) → d.key ≡ ty → (c e : Option Value) (p q : Option Term) → AreKeys (Fits t g) ty c p
            → AreKeys (Fits t g) ty e q → R (story.keys_compared c e k) (keys_compared Y pose p q l)
        by None is None None None None h i = each true
        by (Some u) is (Some v) (Some w) (Some x) (Some y) h i =
            goes v u g.options x (omega arith) h (key_is_plain t typed s d u v at is (member t g v u g.options x h))
            w y i k l each
        by None is None None (Some x) q h i = absurd h
        by None is (Some v) e p q h i = absurd h
        by None is None (Some w) None q h i = absurd i
        by None is None None None (Some y) h i = absurd i
        by None is None (Some w) (Some x) q h i = absurd h
        by (Some u) is None e p q h i = absurd h
        by (Some u) is (Some v) e None q h i = absurd h
        by (Some u) is (Some v) None (Some x) q h i = absurd i
        by (Some u) is (Some v) (Some w) (Some x) None h i = absurd i

    -- two cells
    places_go : (c e : CellName) (p q : Place) → IsPlace t g c p → IsPlace t g e q → (k : Bool → Story) (l : Bool → Y)
        → ((s : Bool) → (s ≡ true → q.state ≡ p.state) → R (k s) (l s))
        → R (story.cells_compared c e k) (places_compared Y pose p q l)
    places_go c e p q is at k l each =
        subst (λ r. R (if r == e.state then story.keys_compared c.key e.key k else k false)
        (if p.state == q.state then keys_compared Y pose p.key q.key l else l false)) (sym is.0)
        (subst (λ r. R (if p.state == r then story.keys_compared c.key e.key k else k false)
        (if p.state == q.state then keys_compared Y pose p.key q.key l else l false)) (sym at.0)
        (by (p.state == q.state) refl))
      where
        some_same : (d f : StateDecl) → Some d ≡ Some f → d ≡ f
        some_same d f h = cc

        by : (b : Bool) → (p.state == q.state) ≡ b
            → R (if b then story.keys_compared c.key e.key k else k false)
            (if b then keys_compared Y pose p.key q.key l else l false)
        by true same =
            let one : q.state ≡ p.state = sym (eqb-true p.state q.state same) in
            let decl : at.1 ≡ is.1 = some_same at.1 is.1 (sym at.2 ∙ ap (slice_get t.states) one ∙ is.2) in
            keys_go p.state is.1 is.2 c.key e.key p.key q.key is.3
            (subst (λ d. AreKeys (Fits t g) d.key e.key q.key) decl at.3) k l (λ s. each s (λ h. one))
        by false same = each false (λ h. absurd (cc))

    -- what is done with a cell that is found is only asked of cells of the same state
    abbrev Found : List Place → Place → (ℕ → Story) → ℕ → (ℕ → Y) → Type 0
    Found ps p found i here =
        (j : ℕ) (q : Place) → slice_get ps j ≡ Some q → q.state ≡ p.state → R (found (i + j)) (here (i + j))

    -- a touch: the cell is found among these, with the same number, or it is new
    pub touch_goes : (cs : List CellName) (ps : List Place) → ArePlaces t g cs ps → (i : ℕ) (c : CellName) (p : Place)
        → IsPlace t g c p → (found : ℕ → Story) (fresh : Story) (here : ℕ → Y) (new : Y)
        → Found ps p found i here → R fresh new
        → R (story.searched cs i c found fresh) (touching Y pose ps i p here new)
    touch_goes [] [] are i c p is found fresh here new f n = n
    touch_goes (e ∷ cs) (q ∷ ps) are i c p is found fresh here new f n =
        places_go c e p q is are.0 (λ s. if s then found i else story.searched cs (i + 1) c found fresh)
        (λ s. if s then here i else touching Y pose ps (i + 1) p here new)
        (by (touch_goes cs ps are.1 (i + 1) c p is found fresh here new
        (λ j r at same. (let e : i + suc j ≡ i + 1 + j = omega arith in
        subst (λ m. R (found m) (here m)) e (f (suc j) r at same))) n))
      where
        by : R (story.searched cs (i + 1) c found fresh) (touching Y pose ps (i + 1) p here new)
            → (s : Bool) → (s ≡ true → q.state ≡ p.state)
            → R (if s then found i else story.searched cs (i + 1) c found fresh)
            (if s then here i else touching Y pose ps (i + 1) p here new)
        by more true same =
            let e : i + 0 ≡ i = omega arith in subst (λ m. R (found m) (here m)) e (f 0 q refl (same refl))
        by more false same = more
    touch_goes [] (q ∷ ps) are i c p is found fresh here new f n = absurd are
    touch_goes (e ∷ cs) [] are i c p is found fresh here new f n = absurd are
