-- Two values compared, beside what is asked of their terms.
use Rattle.std.proofs.Common.{◌≡◌, ◌<◌, ◌≤◌, ℕ, ◌==◌, ℤ, Bool, true, false, List, [], ◌∷◌, map, slice_get}
use Rattle.std.proofs.Common.{Option, Some, None, refl, sym, ap, ◌∙◌, subst, arith, if◌then◌else◌}
use Rattle.std.proofs.lemmas.Bool.{and_parts, eqb-true, ltb-true}
use Rattle.std.proofs.lemmas.Bool.Decides.{Decides-int_eq}
use Rattle.cm_model.specs.Tables.{Tables}
use Rattle.cm_model.specs.WellTyped.{IsWellTyped}
use Rattle.cm_model.specs.declared.ty.Ty.{Ty, out-Ty}
use Rattle.cm_model.specs.declared.ty.Ty.TheOpen.{Ty-F}
use Rattle.cm_model.specs.declared.variable.SortVar.{SortVar}
use Rattle.cm_value.specs.declared.value.Value.{Value}
use Rattle.cm_value.specs.declared.value.Value.TheVariants as value
use Rattle.cm_value.specs.Membership.{field_types}
use Rattle.cm_value.proofs.Folds as values
use Rattle.cm_value.proofs.Induction.{Each, value_ind}
use Rattle.cm_term.specs.declared.atom.Num.{Num}
use Rattle.cm_term.specs.declared.atom.Tag.{Tag}
use Rattle.cm_term.specs.declared.atom.Opt.{Opt}
use Rattle.cm_term.specs.declared.atom.Opt.TheVariants as opt
use Rattle.cm_term.specs.declared.term.Term.TheOpen.{Term-F}
use Rattle.cm_term.specs.declared.question.Question.{Question}
use Rattle.cm_term.specs.declared.question.Question.TheVariants as question
use Rattle.cm_term.specs.declared.question.Equal.TheVariants as equal
use Rattle.cm_term.specs.declared.term.Term.{Term, out-Term}
use Rattle.cm_term.specs.declared.term.Term.TheVariants as term
use Rattle.cm_term.specs.Atoms.{num_under, tag_under, opt_under}
use Rattle.cm_term.specs.Questions.{outcome_under}
use Rattle.cm_term.proofs.Folds as terms
use Rattle.cm_eval.specs.Script.{Blocks, Decides}
use Rattle.cm_eval.specs.Evaluation.{Doing}
use Rattle.cm_eval.specs.Comparison as eval
use Rattle.cm_eval.proofs.Examples.{out_elem, out_int, out_tag, out_rec}
use Rattle.cm_term.proofs.Values.{out_none, out_some}
use Rattle.cm_cells.specs.Comparison.{elem_in, num_in, tag_in, fields_in}
use Rattle.cm_exec.specs.Asking.{Asking, Stops, Says, Inspects, Meets, bound, Asker, or_stops, opt_of, payload_of}
use Rattle.cm_exec.specs.Asking.{tags_asked, fields_asked, options_asked, opened_asked, option_step, asks_step}
use Rattle.cm_exec.specs.Asking.{askers_below, asks_below}
use Rattle.cm_exec.specs.Comparing.{IsBelow}
use Rattle.cm_exec.specs.Terms.{Plan, played, question_of, said_equal}
use Rattle.cm_exec.proofs.Payloads.{payload_asked}
use Rattle.cm_beside.specs.Grounds.{Grounds}
use Rattle.cm_beside.specs.Fits.{Fitting, is_element, is_number, is_choice, is_none, is_some}
use Rattle.cm_beside.specs.Fits.{is_nothing, is_something, is_option, all_fit, payload_fits}
use Rattle.cm_beside.specs.Related.{Related, is_question, is_opt}
use Rattle.cm_beside.proofs.Layers.{fitting, sort_type, int_type, enum_type, record_type, none_type, some_type, at_sort}
use Rattle.cm_beside.proofs.Layers.{at_int, at_enum, at_record}
use Rattle.cm_beside.proofs.Fitting.{fit_elem, fit_int, fit_tag, fit_rec, fit_none, fit_some, decided, option_grows}
use Rattle.cm_beside.proofs.Options.{elem_form, num_form, tag_form, rec_form, OptionAt, IsNone, IsSome, option_at}
use Rattle.cm_beside.proofs.Options.{whole, option_parts}
use Rattle.cm_beside.proofs.Questions.{small, elements_asked, numbers_asked, variant_asked, same_record, few_variants}

-- options below a number, if there is one, are those below another
abbrev pub AtMost : ℕ → Option ℕ → Type 0
AtMost b (Some n) = b ≤ n
AtMost b None = Unit {0}

pub below : (o b : ℕ) (n : Option ℕ) → o < b → AtMost b n → IsBelow o n
below o b (Some n) lt le = omega (arith, lt, le)
below o b None lt le = tt

module _ (t : Tables) (typed : IsWellTyped t) (g : Grounds) (Q : Value → Term → Type 0) where
  abbrev Rel : Doing → Plan → Type 0
  Rel = Related t g Q

  abbrev fit : Value → Fitting
  fit = fitting t g

  abbrev out : Question → ℕ
  out = outcome_under g.valuation

  abbrev Ways : (Bool → Doing) → (Bool → Plan) → Type 0
  Ways k l = (b : Bool) → Rel (k b) (l b)

  abbrev on_values : Value → eval.Comparing Doing
  on_values = eval.comparison Doing Blocks Decides

  abbrev asks : Option ℕ → Term → Asker
  asks = asks_below g.payloads

  carry : {a b : Doing} {c d : Plan} → a ≡ b → c ≡ d → Rel b d → Rel a c
  carry {a} {b} {c} {d} p q r = subst (λ z. Rel z c) (sym p) (subst (λ z. Rel b z) (sym q) r)

  pub decides : (q : Question) (m : ℕ) → m ≡ out q → is_question t g q ≡ true → (k : ℕ → Doing) (f : ℕ → Plan)
      → Rel (k m) (f m) → Rel (Decides m k) (Decides q f)
  decides q m e is k f h = (k, ap (λ n. Decides n k) e, is, subst (λ n. Rel (k n) (f n)) e h)

  -- two decisions, one after the other
  pub both_decided : (p q : Question) (m n : ℕ) → m ≡ out p → n ≡ out q → is_question t g p ≡ true
      → is_question t g q ≡ true → (k : ℕ → ℕ → Doing) (f : ℕ → ℕ → Plan) → Rel (k m n) (f m n)
      → Rel (Decides m (λ d. Decides n (λ e. k d e))) (Decides p (λ d. Decides q (λ e. f d e)))
  both_decided p q m n em en ip iq k f h =
      decides p m em ip (λ d. Decides n (λ e. k d e)) (λ d. Decides q (λ e. f d e))
      (decides q n en iq (λ e. k m e) (λ e. f m e) h)

  -- a comparison behind another one
  pub bound_related : (a : Asking) (f : Bool → Asking) (l : Bool → Plan) (c : Doing)
      → Rel c (played a (λ s. played (f s) l)) → Rel c (played (bound a f) l)
  bound_related Stops f l c h = h
  bound_related (Says b) f l c h = h
  bound_related (Inspects q k) f l c h = (h.0, h.1, h.2, bound_related (k (out q)) f l (h.0 (out q)) h.3)
  bound_related (Meets e k) f l c h =
      (h.0, h.1, h.2, bound_related (k (said_equal e (out (question_of e)))) f l (h.0 (out (question_of e))) h.3)

  -- the comparison of a value with another one, beside what is asked of their terms
  abbrev Goes : Value → Type 0
  Goes v = (u : Ty) (b : ℕ) (x : Term) → b ≤ g.options → fit v u b x ≡ true → (n : Option ℕ) → AtMost b n
      → (w : Value) (y : Term) → fit w u g.options y ≡ true → (k : Bool → Doing) (l : Bool → Plan) → Ways k l
      → Rel (on_values v w k) (played (asks n x y) l)

  elem_goes : (m : ℕ) → Goes (value.Elem m)
  elem_goes m u b x bo h n le w y hw k l each = by (elem_in (out-Term x)) refl (sym (fit_elem t g m u b x) ∙ h)
    where
      by : (o : Option SortVar) → elem_in (out-Term x) ≡ o → is_element t g u m o ≡ true
          → Rel (on_values (value.Elem m) w k) (played (asks n x y) l)
      by None e ka = absurd (cc)
      by (Some a) e ka =
          let s = sort_type t g u m (Some a) ka in
          let r = at_sort t g u s.0 s.1 w g.options y hw in
          carry
          (ap (λ (c : eval.Comparing Doing). c w k) (values.fold-elem (eval.comparison_step Doing Blocks Decides) m)
          ∙ ap (λ o. eval.or_stop Blocks o (λ j. Decides (eval.distinguished m j) (λ d. k (d == 0))))
          (ap eval.elem_of r.value_is ∙ ap eval.elem_in (out_elem r.n)))
          (ap (λ z. played (asks n z y) l) (elem_form x a e)
          ∙ ap (λ (c : Asker). played (c y) l)
          (terms.fold-elem (asks_step g.payloads (askers_below g.payloads n)) a)
          ∙ ap (λ o. played (or_stops o (λ z. Meets (equal.Elems a z) Says)) l) r.term_is)
          (decides (question.Elems a r.a) (eval.distinguished m r.n)
          (ap (λ i. eval.distinguished i r.n) (sym (eqb-true (g.valuation.element a.0) m (and_parts _ _ ka).0))
          ∙ ap (λ i. eval.distinguished (g.valuation.element a.0) i)
          (sym (eqb-true (g.valuation.element r.a.0) r.n (and_parts _ _ r.element).0)))
          (elements_asked t g u m r.n a r.a ka r.element) (λ d. k (d == 0)) (λ d. l (d == 0)) (each (eval.distinguished m r.n == 0)))

  numbers_go : (m : ℤ) (u : Ty) (b : ℕ) (x : Term) → fit (value.Int m) u b x ≡ true → (n : Option ℕ)
      → (z : Ty) (i : ℕ) → out-Ty z ≡ Ty-F.Int i → (w : Value) (y : Term) → fit w z g.options y ≡ true
      → (k : Bool → Doing) (l : Bool → Plan) → Ways k l → Rel (on_values (value.Int m) w k) (played (asks n x y) l)
  numbers_go m u b x h n z i of w y hw k l each = by (num_in (out-Term x)) refl (sym (fit_int t g m u b x) ∙ h)
    where
      by : (o : Option Num) → num_in (out-Term x) ≡ o → is_number t g u m o ≡ true
          → Rel (on_values (value.Int m) w k) (played (asks n x y) l)
      by None e ka = absurd (cc)
      by (Some a) e ka =
          let r = at_int t g z i of w g.options y hw in
          carry
          (ap (λ (c : eval.Comparing Doing). c w k) (values.fold-int (eval.comparison_step Doing Blocks Decides) m)
          ∙ ap (λ o. eval.or_stop Blocks o (λ j. Decides (eval.ordered m j) (λ d. k (d == 1))))
          (ap eval.int_of r.value_is ∙ ap eval.int_in (out_int r.n)))
          (ap (λ q. played (asks n q y) l) (num_form x a e)
          ∙ ap (λ (c : Asker). played (c y) l)
          (terms.fold-num (asks_step g.payloads (askers_below g.payloads n)) a)
          ∙ ap (λ o. played (or_stops o (λ q. Meets (equal.Nums a q) Says)) l) r.term_is)
          (decides (question.Nums a r.a) (eval.ordered m r.n)
          (ap (λ q. eval.ordered q r.n)
          (sym (decided (Decides-int_eq (num_under g.valuation.number a) m) (and_parts _ _ ka).0))
          ∙ ap (λ q. eval.ordered (num_under g.valuation.number a) q)
          (sym (decided (Decides-int_eq (num_under g.valuation.number r.a) r.n) (and_parts _ _ r.number).0)))
          (numbers_asked t g u z m r.n a r.a ka r.number)
          (λ d. k (d == 1)) (λ d. l (d == 1)) (each (eval.ordered m r.n == 1)))

  int_goes : (m : ℤ) → Goes (value.Int m)
  int_goes m u b x bo h n le w y hw k l each =
      let a = int_type t g u m (num_in (out-Term x)) (sym (fit_int t g m u b x) ∙ h) in
      numbers_go m u b x h n u a.0 a.1 w y hw k l each

  tag_goes : (m : ℕ) → Goes (value.Tag m)
  tag_goes m u b x bo h n le w y hw k l each = by (tag_in (out-Term x)) refl (sym (fit_tag t g m u b x) ∙ h)
    where
      by : (o : Option Tag) → tag_in (out-Term x) ≡ o → is_choice t g u m o ≡ true
          → Rel (on_values (value.Tag m) w k) (played (asks n x y) l)
      by None e ka = absurd (cc)
      by (Some a) e ka =
          let s = enum_type t g u m (Some a) ka in
          let r = at_enum t g u s.0 s.1 w g.options y hw in
          let few_m = few_variants t g typed m u b x h in
          let few_r = few_variants t g typed r.n u g.options y (subst (λ z. fit z u g.options y ≡ true) r.value_is hw) in
          carry
          (ap (λ (c : eval.Comparing Doing). c w k) (values.fold-tag (eval.comparison_step Doing Blocks Decides) m)
          ∙ ap (λ o. eval.or_stop Blocks o (λ i. eval.or_stop Blocks (eval.tag_of w)
          (λ j. Decides i (λ d. Decides j (λ e. k (d == e)))))) (small m few_m)
          ∙ ap (λ o. eval.or_stop Blocks o (λ j. Decides m (λ d. Decides j (λ e. k (d == e)))))
          (ap eval.tag_of r.value_is ∙ ap eval.tag_in (out_tag r.n) ∙ small r.n few_r))
          (ap (λ z. played (asks n z y) l) (tag_form x a e)
          ∙ ap (λ (c : Asker). played (c y) l)
          (terms.fold-tag (asks_step g.payloads (askers_below g.payloads n)) a)
          ∙ ap (λ o. played (or_stops o (tags_asked a)) l) r.term_is)
          (both_decided (question.TagOf a) (question.TagOf r.a) m r.n
          (sym (eqb-true (tag_under g.valuation.tag a) m (and_parts _ _ ka).0))
          (sym (eqb-true (tag_under g.valuation.tag r.a) r.n (and_parts _ _ r.choice).0))
          (variant_asked t g m u a ka few_m) (variant_asked t g r.n u r.a r.choice few_r)
          (λ d e. k (d == e)) (λ d e. l (d == e)) (each (m == r.n)))

  chosen : (b : Bool) (x y : Doing) (z w : Plan) → Rel x z → Rel y w → Rel (if b then x else y) (if b then z else w)
  chosen true x y z w r s = r
  chosen false x y z w r s = s

  said_otherwise : (b : Bool) (a : Asking) (l : Bool → Plan)
      → played (if b then a else Says false) l ≡ (if b then played a l else l false)
  said_otherwise true a l = refl
  said_otherwise false a l = refl

  fields_go : (vs : List Value) → Each Goes vs → (us : List Ty) (b : ℕ) (xs : List Term)
      → b ≤ g.options → all_fit t g (map fit vs) us b xs ≡ true → (n : Option ℕ) → AtMost b n → (ws : List Value)
      (ys : List Term)
      → all_fit t g (map fit ws) us g.options ys ≡ true → (k : Bool → Doing) (l : Bool → Plan) → Ways k l
      → Rel (eval.fields_compared Doing Blocks (map on_values vs) ws k) (played (fields_asked (map (asks n) xs) ys) l)
  fields_go [] e [] b [] bo h n le [] [] hw k l each = each true
  fields_go [] e [] b [] bo h n le [] (y ∷ ys) hw k l each = absurd (cc)
  fields_go [] e [] b [] bo h n le (w ∷ ws) ys hw k l each = absurd (cc)
  fields_go [] e [] b (x ∷ xs) bo h n le ws ys hw k l each = absurd (cc)
  fields_go [] e (u ∷ us) b xs bo h n le ws ys hw k l each = absurd (cc)
  fields_go (v ∷ vs) e [] b xs bo h n le ws ys hw k l each = absurd (cc)
  fields_go (v ∷ vs) e (u ∷ us) b [] bo h n le ws ys hw k l each = absurd (cc)
  fields_go (v ∷ vs) e (u ∷ us) b (x ∷ xs) bo h n le [] ys hw k l each = absurd (cc)
  fields_go (v ∷ vs) e (u ∷ us) b (x ∷ xs) bo h n le (w ∷ ws) [] hw k l each = absurd (cc)
  fields_go (v ∷ vs) e (u ∷ us) b (x ∷ xs) bo h n le (w ∷ ws) (y ∷ ys) hw k l each =
      let one = and_parts (fit v u b x) (all_fit t g (map fit vs) us b xs) h in
      let two = and_parts (fit w u g.options y) (all_fit t g (map fit ws) us g.options ys) hw in
      bound_related (asks n x y) (λ s. if s then fields_asked (map (asks n) xs) ys else Says false) l _
      (e.0 u b x bo one.0 n le w y two.0 _ _ (λ s. subst (Rel (if s then eval.fields_compared Doing Blocks (map on_values vs) ws k else k false))
      (sym (said_otherwise s (fields_asked (map (asks n) xs) ys) l))
      (chosen s _ _ _ _ (fields_go vs e.1 us b xs bo one.1 n le ws ys two.1 k l each) (each false))))

  rec_goes : (vs : List Value) → Each Goes vs → Goes (value.Rec vs)
  rec_goes vs e u b x bo h n le w y hw k l each =
      let s = record_type t g (map fit vs) u b (fields_in (out-Term x)) (sym (fit_rec t g vs u b x) ∙ h) in
      let a = at_record t g u s.0 s.1 (value.Rec vs) b x h in
      let r = at_record t g u s.0 s.1 w g.options y hw in
      let both = same_record t g u s.0 b vs x w y a r in
      carry
      (ap (λ (c : eval.Comparing Doing). c w k) (values.fold-rec (eval.comparison_step Doing Blocks Decides) vs)
      ∙ ap (λ o. eval.or_stop Blocks o (λ ws. eval.fields_compared Doing Blocks (map on_values vs) ws k))
      (ap eval.parts_of r.value_is ∙ ap eval.parts_in (out_rec r.parts)))
      (ap (λ z. played (asks n z y) l) (rec_form x a.fields a.term_is)
      ∙ ap (λ (c : Asker). played (c y) l)
      (terms.fold-rec (asks_step g.payloads (askers_below g.payloads n)) a.fields)
      ∙ ap (λ o. played (or_stops o (fields_asked (map (asks n) a.fields))) l) r.term_is)
      (fields_go vs e (field_types a.d) b a.fields bo
      both.0 n le r.parts r.fields both.1 k l each)

  -- options
  to_played : (l : Opt) (m : Option Asker) (y : Term) (r : Opt) (p : Option Term) → opt_of y ≡ Some r
      → payload_of g.payloads y ≡ p → (f : Bool → Plan)
      → played (option_step g.payloads l m y) f
      ≡ Decides (question.OptOf l) (λ d. Decides (question.OptOf r) (λ e. played (opened_asked d e m p) f))
  to_played l m y r p is there f =
      ap (λ o. played (or_stops o (λ r. options_asked l r m (payload_of g.payloads y))) f) is
      ∙ ap (λ q. played (options_asked l r m q) f) there

  none_beside : (l : Opt) (m : Option Asker) → is_opt t g l ≡ true → opt_under g.valuation.present l ≡ 0 → (w : Value)
      → (ty : Ty) (y : Term) → OptionAt t g ty w y → (k : Bool → Doing) (f : Bool → Plan) → Ways k f
      → Rel (on_values value.None w k) (played (option_step g.payloads l m y) f)
  none_beside l m ok is w ty y (IsNone r e o okr isr) k f each =
      carry
      (ap (λ (c : eval.Comparing Doing). c w k) (values.fold-none (eval.comparison_step Doing Blocks Decides))
      ∙ ap (λ q. eval.or_stop Blocks q (λ q. Decides 0 (λ d. Decides (eval.presence q) (λ e. k (d == e)))))
      (ap eval.option_of e ∙ ap eval.option_in out_none))
      (to_played l m y r (payload_of g.payloads y) o refl f)
      (both_decided (question.OptOf l) (question.OptOf r) 0 0 (sym is) (sym isr) ok okr (λ d e. k (d == e))
      (λ d e. played (opened_asked d e m (payload_of g.payloads y)) f) (each true))
  none_beside l m ok is w ty y (IsSome v r p e o okr isr there fits) k f each =
      carry
      (ap (λ (c : eval.Comparing Doing). c w k) (values.fold-none (eval.comparison_step Doing Blocks Decides))
      ∙ ap (λ q. eval.or_stop Blocks q (λ q. Decides 0 (λ d. Decides (eval.presence q) (λ e. k (d == e)))))
      (ap eval.option_of e ∙ ap eval.option_in (out_some v)))
      (to_played l m y r (Some p) o there f)
      (both_decided (question.OptOf l) (question.OptOf r) 0 1 (sym is) (sym isr) ok okr (λ d e. k (d == e))
      (λ d e. played (opened_asked d e m (Some p)) f) (each false))

  -- the left payload beside its term
  abbrev PayloadGoes : Value → Ty → Asker → Type 0
  PayloadGoes v ty a = (w : Value) (y : Term) → fit w ty g.options y ≡ true → (k : Bool → Doing) (f : Bool → Plan)
      → Ways k f → Rel (on_values v w k) (played (a y) f)

  some_beside : (v : Value) (ty : Ty) (a : Asker) → PayloadGoes v ty a → (l : Opt) → is_opt t g l ≡ true
      → opt_under g.valuation.present l ≡ 1 → (w : Value) (y : Term) → OptionAt t g ty w y
      → (k : Bool → Doing) (f : Bool → Plan) → Ways k f
      → Rel (on_values (value.Some v) w k) (played (option_step g.payloads l (Some a) y) f)
  some_beside v ty a goes l ok is w y (IsNone r e o okr isr) k f each =
      carry
      (ap (λ (c : eval.Comparing Doing). c w k) (values.fold-some (eval.comparison_step Doing Blocks Decides) v)
      ∙ ap (λ q. eval.or_stop Blocks q (λ q. Decides 1 (λ d. Decides (eval.presence q)
      (λ e. eval.payload_compared Doing (on_values v) q k)))) (ap eval.option_of e ∙ ap eval.option_in out_none))
      (to_played l (Some a) y r (payload_of g.payloads y) o refl f)
      (both_decided (question.OptOf l) (question.OptOf r) 1 0 (sym is) (sym isr) ok okr
      (λ d e. eval.payload_compared Doing (on_values v) None k)
      (λ d e. played (opened_asked d e (Some a) (payload_of g.payloads y)) f) (each false))
  some_beside v ty a goes l ok is w y (IsSome z r p e o okr isr there fits) k f each =
      carry
      (ap (λ (c : eval.Comparing Doing). c w k) (values.fold-some (eval.comparison_step Doing Blocks Decides) v)
      ∙ ap (λ q. eval.or_stop Blocks q (λ q. Decides 1 (λ d. Decides (eval.presence q)
      (λ e. eval.payload_compared Doing (on_values v) q k)))) (ap eval.option_of e ∙ ap eval.option_in (out_some z)))
      (to_played l (Some a) y r (Some p) o there f)
      (both_decided (question.OptOf l) (question.OptOf r) 1 1 (sym is) (sym isr) ok okr
      (λ d e. eval.payload_compared Doing (on_values v) (Some z) k)
      (λ d e. played (opened_asked d e (Some a) (Some p)) f) (goes z p fits k f each))

  none_goes : Goes value.None
  none_goes u b x bo h n le w y hw k l each = typed_
    where
      s : (ty : Ty) × (out-Ty u ≡ Ty-F.Option ty)
      s = none_type t g u b (out-Term x) (sym (fit_none t g u b x) ∙ h)

      right : OptionAt t g s.0 w y
      right = option_at t g u s.0 s.1 w y hw

      here : (z : Term-F Term) → out-Term x ≡ z → is_nothing t g b z ≡ true
          → Rel (on_values value.None w k) (played (asks n x y) l)
      here Term-F.None e q =
          carry refl
          (ap (λ z. played (asks n z y) l) (whole x Term-F.None e ∙ term.rolls-None)
          ∙ ap (λ (c : Asker). played (c y) l) (terms.fold-none (asks_step g.payloads (askers_below g.payloads n))))
          (none_beside opt.None None refl refl w s.0 y right k l each)
      here (Term-F.Either o) e q =
          let parts = option_parts t g o.0 0 (option_grows t g b g.options o.0 0 bo q) in
          carry refl
          (ap (λ z. played (asks n z y) l) (whole x (Term-F.Either o) e ∙ term.rolls-Either o)
          ∙ ap (λ (c : Asker). played (c y) l) (terms.fold-either (asks_step g.payloads (askers_below g.payloads n)) o))
          (none_beside (opt.Var o) (slice_get (askers_below g.payloads n) o.0) parts.2 parts.1 w s.0 y right k l each)
      here (Term-F.Elem z) e q = absurd (cc)
      here (Term-F.Num z) e q = absurd (cc)
      here (Term-F.Tag z) e q = absurd (cc)
      here (Term-F.Rec z) e q = absurd (cc)
      here (Term-F.Some z) e q = absurd (cc)

      typed_ : Rel (on_values value.None w k) (played (asks n x y) l)
      typed_ = here (out-Term x) refl
          (sym (ap (λ z. is_none t g z b (out-Term x)) s.1) ∙ sym (fit_none t g u b x) ∙ h)

  some_goes : (v : Value) → Goes v → Goes (value.Some v)
  some_goes v goes u b x bo h n le w y hw k l each = typed_
    where
      s : (ty : Ty) × (out-Ty u ≡ Ty-F.Option ty)
      s = some_type t g (fit v) u b (out-Term x) (sym (fit_some t g v u b x) ∙ h)

      right : OptionAt t g s.0 w y
      right = option_at t g u s.0 s.1 w y hw

      payload : (o : ℕ) → o < b → (p : Option Term) → slice_get g.payloads o ≡ p → payload_fits t g (fit v) s.0 o p ≡ true
          → (a : Asker) × (slice_get (askers_below g.payloads n) o ≡ Some a) × PayloadGoes v s.0 a
      payload o lt (Some p) at q = (
        asks (Some o) p,
        payload_asked g.payloads n o p (below o b n lt le) at,
        λ w y hw k f each. goes s.0 o p (omega (arith, lt, bo)) q (Some o) (omega arith) w y hw k f each,
      )
      payload o lt None at q = absurd (cc)

      here : (z : Term-F Term) → out-Term x ≡ z → is_something t g (fit v) s.0 b z ≡ true
          → Rel (on_values (value.Some v) w k) (played (asks n x y) l)
      here (Term-F.Some p) e q =
          carry refl
          (ap (λ z. played (asks n z y) l) (whole x (Term-F.Some p) e ∙ term.rolls-Some p)
          ∙ ap (λ (c : Asker). played (c y) l) (terms.fold-some (asks_step g.payloads (askers_below g.payloads n)) p))
          (some_beside v s.0 (asks n p) (λ w y hw k f each. goes s.0 b p bo q n le w y hw k f each) opt.Some refl refl
          w y right k l each)
      here (Term-F.Either o) e q =
          let both = and_parts (is_option t g b o.0 1) _ q in
          let parts = option_parts t g o.0 1 (option_grows t g b g.options o.0 1 bo both.0) in
          let lt : o.0 < b = ltb-true o.0 b (and_parts _ _ (and_parts _ _ both.0).0).0 in
          let a = payload o.0 lt (slice_get g.payloads o.0) refl both.1 in
          carry refl
          (ap (λ z. played (asks n z y) l) (whole x (Term-F.Either o) e ∙ term.rolls-Either o)
          ∙ ap (λ (c : Asker). played (c y) l) (terms.fold-either (asks_step g.payloads (askers_below g.payloads n)) o)
          ∙ ap (λ m. played (option_step g.payloads (opt.Var o) m y) l) a.1)
          (some_beside v s.0 a.0 a.2 (opt.Var o) parts.2 parts.1 w y right k l each)
      here (Term-F.Elem z) e q = absurd (cc)
      here (Term-F.Num z) e q = absurd (cc)
      here (Term-F.Tag z) e q = absurd (cc)
      here (Term-F.Rec z) e q = absurd (cc)
      here Term-F.None e q = absurd (cc)

      typed_ : Rel (on_values (value.Some v) w k) (played (asks n x y) l)
      typed_ = here (out-Term x) refl
          (sym (ap (λ z. is_some t g (fit v) z b (out-Term x)) s.1) ∙ sym (fit_some t g v u b x) ∙ h)

  goes : (v : Value) → Goes v
  goes = value_ind Goes elem_goes int_goes tag_goes rec_goes none_goes some_goes

  -- two values of one type
  pub compared : (v : Value) (u : Ty) (x : Term) → fit v u g.options x ≡ true → (w : Value) (y : Term)
      → fit w u g.options y ≡ true → (k : Bool → Doing) (l : Bool → Plan) → Ways k l
      → Rel (on_values v w k) (played (asks None x y) l)
  compared v u x h w y hw k l each = goes v u g.options x (omega arith) h None tt w y hw k l each

  -- two integers
  pub numbers_compared : (u : Ty) (i : ℕ) → out-Ty u ≡ Ty-F.Int i → (z : Ty) (j : ℕ) → out-Ty z ≡ Ty-F.Int j
      → (v : Value) (x : Term) → fit v u g.options x ≡ true → (w : Value) (y : Term) → fit w z g.options y ≡ true
      → (k : Bool → Doing) (l : Bool → Plan) → Ways k l → Rel (on_values v w k) (played (asks None x y) l)
  numbers_compared u i e z j f v x h w y hw k l each =
      let a = at_int t g u i e v g.options x h in
      subst (λ q. Rel (on_values q w k) (played (asks None x y) l)) (sym a.value_is)
      (numbers_go a.n u g.options x (subst (λ q. fit q u g.options x ≡ true) a.value_is h) None z j f w y hw k l each)
