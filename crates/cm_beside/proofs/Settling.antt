-- The last comparison of values, beside that of the terms.
use Rattle.std.proofs.Common.{◌≡◌, ◌<◌, ◌≤◌, ℕ, ◌==◌, ℤ, Bool, true, false, List, [], ◌∷◌, ◌++◌, map}
use Rattle.std.proofs.Common.{slice_get, Option, Some, None, IsTrue, ◌↔◌, refl, sym, ap, ◌∙◌, subst, arith, if◌then◌else◌}
use Rattle.std.specs.List.{AllByRecursion}
use Rattle.std.proofs.lemmas.Bool.{and_parts, and_from, eqb-true, ltb-true}
use Rattle.std.proofs.lemmas.Bool.Decides.{Decides-int_eq}
use Rattle.cm_model.specs.Tables.{Tables}
use Rattle.cm_model.specs.WellTyped.{IsWellTyped}
use Rattle.cm_model.specs.declared.ty.Ty.{Ty, out-Ty}
use Rattle.cm_model.specs.declared.ty.Ty.TheOpen.{Ty-F}
use Rattle.cm_model.specs.declared.variable.SortVar.{SortVar}
use Rattle.cm_value.specs.declared.value.Value.{Value}
use Rattle.cm_value.specs.declared.value.Value.TheVariants as value
use Rattle.cm_value.specs.Membership.{field_types}
use Rattle.cm_value.proofs.Folds as values
use Rattle.cm_value.proofs.Induction.{Each, value_ind}
use Rattle.cm_term.specs.declared.atom.Num.{Num}
use Rattle.cm_term.specs.declared.atom.Tag.{Tag}
use Rattle.cm_term.specs.declared.atom.Opt.{Opt}
use Rattle.cm_term.specs.declared.atom.Opt.TheVariants as opt
use Rattle.cm_term.specs.declared.question.Question.{Question}
use Rattle.cm_term.specs.declared.question.Question.TheVariants as question
use Rattle.cm_term.specs.declared.question.Equal.{Equal}
use Rattle.cm_term.specs.declared.question.Equal.TheVariants as equal
use Rattle.cm_term.specs.declared.term.Term.{Term, out-Term}
use Rattle.cm_term.specs.declared.term.Term.TheVariants as term
use Rattle.cm_term.specs.declared.term.Term.TheOpen.{Term-F}
use Rattle.cm_term.specs.Atoms.{num_under, tag_under, opt_under}
use Rattle.cm_term.specs.Questions.{outcome_under, AreEqual}
use Rattle.cm_term.proofs.Folds as terms
use Rattle.cm_term.proofs.Values.{out_none, out_some}
use Rattle.cm_eval.specs.Comparison as eval
use Rattle.cm_eval.specs.State.{same_value}
use Rattle.cm_eval.proofs.Same.{same_equal, same_self}
use Rattle.cm_eval.proofs.Examples.{out_elem, out_int, out_tag, out_rec}
use Rattle.cm_world.specs.Path.{Inspecting, inspecting, inspecting_step, both_inspected, variants_inspected}
use Rattle.cm_world.specs.Path.{fields_inspected, record_inspected, none_inspected, some_inspected, payload_inspected}
use Rattle.cm_cells.specs.CellTable.{CellTable}
use Rattle.cm_cells.specs.Comparison.{elem_in, num_in, tag_in, fields_in}
use Rattle.cm_story.specs.Tale.{Asks, Ends}
use Rattle.cm_exec.specs.Asking.{Asking, Stops, Says, Inspects, Meets, bound, Asker, or_stops, opt_of, payload_of}
use Rattle.cm_exec.specs.Asking.{tags_asked, fields_asked, options_asked, opened_asked, option_step, asks_step}
use Rattle.cm_exec.specs.Asking.{askers_below, asks_below}
use Rattle.cm_exec.specs.Settling.{Settling, Needs, needing, settling_from, settling_of}
use Rattle.cm_exec.specs.Settling as settling
use Rattle.cm_exec.specs.declared.comparison.Sides.{Sides}
use Rattle.cm_exec.proofs.Payloads.{payload_asked}
use Rattle.cm_story.specs.Story.{Story, blocked}
use Rattle.cm_story.specs.Story as story
use Rattle.cm_beside.specs.Grounds.{Grounds}
use Rattle.cm_beside.specs.Fits.{Fitting, Fits, is_element, is_number, is_choice, is_option, all_fit, payload_fits}
use Rattle.cm_beside.specs.Fits.{is_nothing, is_something, is_none, is_some}
use Rattle.cm_beside.specs.Related.{is_question, is_opt}
use Rattle.cm_beside.specs.Beside.{settles, Beside, IsGood}
use Rattle.cm_beside.proofs.Layers.{fitting, sort_type, int_type, enum_type, record_type, none_type, some_type, at_sort}
use Rattle.cm_beside.proofs.Layers.{at_int, at_enum, at_record}
use Rattle.cm_beside.proofs.Fitting.{fit_elem, fit_int, fit_tag, fit_rec, fit_none, fit_some, decided, option_grows}
use Rattle.cm_beside.proofs.Options.{elem_form, num_form, tag_form, rec_form, OptionAt, IsNone, IsSome, option_at}
use Rattle.cm_beside.proofs.Options.{whole, option_parts}
use Rattle.cm_beside.proofs.Questions.{small, elements_asked, numbers_asked, variant_asked, few_variants, same_record}
use Rattle.cm_beside.proofs.Comparing.{AtMost, below}

some_same : {X : Type 0} (x y : X) → Some x ≡ Some y → x ≡ y
some_same x y h = cc

module _ (t : Tables) (g : Grounds) where
  -- pairs of one type each
  abbrev pub AllSides : List story.Both → List Sides → Type 0
  AllSides [] [] = Unit {0}
  AllSides (p ∷ ps) (s ∷ ss) = ((u : Ty) × Fits t g u p.0 s.left × Fits t g u p.1 s.right) × AllSides ps ss
  AllSides [] (s ∷ ss) = ⊥
  AllSides (p ∷ ps) [] = ⊥

module _ (t : Tables) (typed : IsWellTyped t) (g : Grounds) (cs : CellTable) where
  abbrev fit : Value → Fitting
  fit = fitting t g

  abbrev out : Question → ℕ
  out = outcome_under g.valuation

  abbrev asks : Option ℕ → Term → Asker
  asks = asks_below g.payloads

  abbrev Ends_ : Settling → Story → Type 0
  Ends_ z s = Beside t g (settles cs z) s

  abbrev AllSo : List Equal → Type 0
  AllSo = AllByRecursion (AreEqual g.valuation)

  abbrev AllGood : List Equal → Type 0
  AllGood = AllByRecursion (IsGood t g)

  abbrev inspected : Value → Inspecting Story
  inspected = inspecting Story blocked Asks

  all_more : (P : Equal → Type 0) (es : List Equal) (e : Equal) → AllByRecursion P es → P e
      → AllByRecursion P (es ++ e ∷ [])
  all_more P [] e h p = (p, tt)
  all_more P (f ∷ es) e h p = (h.0, all_more P es e h.1 p)

  all_less : (P : Equal → Type 0) (es : List Equal) (e : Equal) → AllByRecursion P (es ++ e ∷ [])
      → AllByRecursion P es × P e
  all_less P [] e h = (tt, h.0)
  all_less P (f ∷ es) e h = let more = all_less P es e h.1 in ((h.0, more.0), more.1)

  -- what comes after two values that are equal exactly where the further equalities are so
  abbrev After : List Equal → Type 0 → (List Equal → Settling) → Story → Type 0
  After es P k rest =
      (fs : List Equal) → AllGood fs → (AllSo fs ↔ (AllSo es × P)) → Ends_ (k fs) rest

  unequal : Ends_ settling.Unequal blocked
  unequal = (false, refl, refl)

  -- an inspection on both sides
  inspects : (p q : Question) (m n : ℕ) → m ≡ out p → n ≡ out q → is_question t g p ≡ true → is_question t g q ≡ true
      → (es : List Equal) (a : ℕ → ℕ → Asking) (k : List Equal → Settling) (rest : Story)
      → ((b : Bool) → (m == n) ≡ b → Ends_ (needing es (a m n) k) (if b then rest else blocked))
      → Ends_ (needing es (Inspects p (λ d. Inspects q (λ e. a d e))) k) (both_inspected Story blocked Asks m n rest)
  inspects p q m n em en ip iq es a k rest h = (
    (λ d. Asks n (λ e. if d == e then rest else blocked)),
    ap (λ z. Asks z (λ d. Asks n (λ e. if d == e then rest else blocked))) em,
    ip,
    (
      (λ e. if out p == e then rest else blocked),
      ap (λ z. Asks z (λ e. if out p == e then rest else blocked)) en,
      iq,
      subst (λ d. Ends_ (needing es (a d (out q)) k) (if d == out q then rest else blocked)) em
          (subst (λ e. Ends_ (needing es (a m e) k) (if m == e then rest else blocked)) en (h (m == n) refl)),
    ),
  )

  -- of a value
  abbrev Settles : Value → Type 0
  Settles v = (u : Ty) (b : ℕ) (x : Term) → b ≤ g.options → fit v u b x ≡ true → (n : Option ℕ) → AtMost b n
      → (w : Value) (y : Term) → fit w u g.options y ≡ true → (es : List Equal) → AllGood es
      → (k : List Equal → Settling) (rest : Story) → After es (v ≡ w) k rest
      → Ends_ (needing es (asks n x y) k) (inspected v w rest)

  carry : {a b : Settling} {c d : Story} → a ≡ b → c ≡ d → Ends_ b d → Ends_ a c
  carry {a} {b} {c} {d} p q r = subst (λ z. Ends_ z c) (sym p) (subst (λ z. Ends_ b z) (sym q) r)

  elem_settles : (m : ℕ) → Settles (value.Elem m)
  elem_settles m u b x bo h n le w y hw es good k rest after =
      by (elem_in (out-Term x)) refl (sym (fit_elem t g m u b x) ∙ h)
    where
      by : (o : Option SortVar) → elem_in (out-Term x) ≡ o → is_element t g u m o ≡ true
          → Ends_ (needing es (asks n x y) k) (inspected (value.Elem m) w rest)
      by None e ka = absurd (cc)
      by (Some a) e ka =
          let s = sort_type t g u m (Some a) ka in
          let r = at_sort t g u s.0 s.1 w g.options y hw in
          let ma : g.valuation.element a.0 ≡ m = eqb-true (g.valuation.element a.0) m (and_parts _ _ ka).0 in
          let mr : g.valuation.element r.a.0 ≡ r.n = eqb-true (g.valuation.element r.a.0) r.n (and_parts _ _ r.element).0 in
          carry
          (ap (λ z. needing es (asks n z y) k) (elem_form x a e)
          ∙ ap (λ (c : Asker). needing es (c y) k)
          (terms.fold-elem (asks_step g.payloads (askers_below g.payloads n)) a)
          ∙ ap (λ o. needing es (or_stops o (λ z. Meets (equal.Elems a z) Says)) k) r.term_is)
          (ap (λ (c : Inspecting Story). c w rest) (values.fold-elem (inspecting_step Story blocked Asks) m))
          (after (es ++ equal.Elems a r.a ∷ [])
          (all_more (IsGood t g) es (equal.Elems a r.a) good (elements_asked t g u m r.n a r.a ka r.element)) (
            (λ all. let both = all_less (AreEqual g.valuation) es (equal.Elems a r.a) all in
                (both.0, ap value.Elem (sym ma ∙ both.1 ∙ mr) ∙ sym r.value_is)),
            (λ both. all_more (AreEqual g.valuation) es (equal.Elems a r.a) both.0
                (ma ∙ elem_same m r.n (both.1 ∙ r.value_is) ∙ sym mr)),
          ))
        where
          elem_same : (m n : ℕ) → value.Elem m ≡ value.Elem n → m ≡ n
          elem_same m n p = some_same m n
              (sym (ap eval.elem_in (out_elem m)) ∙ ap eval.elem_of p ∙ ap eval.elem_in (out_elem n))

  int_settles : (m : ℤ) → Settles (value.Int m)
  int_settles m u b x bo h n le w y hw es good k rest after =
      by (num_in (out-Term x)) refl (sym (fit_int t g m u b x) ∙ h)
    where
      by : (o : Option Num) → num_in (out-Term x) ≡ o → is_number t g u m o ≡ true
          → Ends_ (needing es (asks n x y) k) (inspected (value.Int m) w rest)
      by None e ka = absurd (cc)
      by (Some a) e ka =
          let s = int_type t g u m (Some a) ka in
          let r = at_int t g u s.0 s.1 w g.options y hw in
          let ma : num_under g.valuation.number a ≡ m =
          decided (Decides-int_eq (num_under g.valuation.number a) m) (and_parts _ _ ka).0 in
          let mr : num_under g.valuation.number r.a ≡ r.n =
          decided (Decides-int_eq (num_under g.valuation.number r.a) r.n) (and_parts _ _ r.number).0 in
          carry
          (ap (λ z. needing es (asks n z y) k) (num_form x a e)
          ∙ ap (λ (c : Asker). needing es (c y) k)
          (terms.fold-num (asks_step g.payloads (askers_below g.payloads n)) a)
          ∙ ap (λ o. needing es (or_stops o (λ z. Meets (equal.Nums a z) Says)) k) r.term_is)
          (ap (λ (c : Inspecting Story). c w rest) (values.fold-int (inspecting_step Story blocked Asks) m))
          (after (es ++ equal.Nums a r.a ∷ [])
          (all_more (IsGood t g) es (equal.Nums a r.a) good (numbers_asked t g u u m r.n a r.a ka r.number)) (
            (λ all. let both = all_less (AreEqual g.valuation) es (equal.Nums a r.a) all in
                (both.0, ap value.Int (sym ma ∙ both.1 ∙ mr) ∙ sym r.value_is)),
            (λ both. all_more (AreEqual g.valuation) es (equal.Nums a r.a) both.0
                (ma ∙ int_same m r.n (both.1 ∙ r.value_is) ∙ sym mr)),
          ))
        where
          int_same : (m n : ℤ) → value.Int m ≡ value.Int n → m ≡ n
          int_same m n p = some_same m n
              (sym (ap eval.int_in (out_int m)) ∙ ap eval.int_of p ∙ ap eval.int_in (out_int n))

  -- nothing is needed where the two are equal as they stand
  stays : (es : List Equal) (v w : Value) → AllGood es → v ≡ w → (k : List Equal → Settling) (rest : Story)
      → After es (v ≡ w) k rest → Ends_ (k es) rest
  stays es v w good is k rest after = after es good ((λ all. (all, is)), (λ both. both.0))

  tag_settles : (m : ℕ) → Settles (value.Tag m)
  tag_settles m u b x bo h n le w y hw es good k rest after =
      by (tag_in (out-Term x)) refl (sym (fit_tag t g m u b x) ∙ h)
    where
      by : (o : Option Tag) → tag_in (out-Term x) ≡ o → is_choice t g u m o ≡ true
          → Ends_ (needing es (asks n x y) k) (inspected (value.Tag m) w rest)
      by None e ka = absurd (cc)
      by (Some a) e ka =
          let s = enum_type t g u m (Some a) ka in
          let r = at_enum t g u s.0 s.1 w g.options y hw in
          let few_m = few_variants t g typed m u b x h in
          let few_r = few_variants t g typed r.n u g.options y (subst (λ z. fit z u g.options y ≡ true) r.value_is hw) in
          carry
          (ap (λ z. needing es (asks n z y) k) (tag_form x a e)
          ∙ ap (λ (c : Asker). needing es (c y) k)
          (terms.fold-tag (asks_step g.payloads (askers_below g.payloads n)) a)
          ∙ ap (λ o. needing es (or_stops o (tags_asked a)) k) r.term_is)
          (ap (λ (c : Inspecting Story). c w rest) (values.fold-tag (inspecting_step Story blocked Asks) m)
          ∙ ap (λ o. variants_inspected Story blocked Asks o (eval.tag_of w) rest) (small m few_m)
          ∙ ap (λ o. variants_inspected Story blocked Asks (Some m) o rest)
          (ap eval.tag_of r.value_is ∙ ap eval.tag_in (out_tag r.n) ∙ small r.n few_r))
          (inspects (question.TagOf a) (question.TagOf r.a) m r.n
          (sym (eqb-true (tag_under g.valuation.tag a) m (and_parts _ _ ka).0))
          (sym (eqb-true (tag_under g.valuation.tag r.a) r.n (and_parts _ _ r.choice).0))
          (variant_asked t g m u a ka few_m) (variant_asked t g r.n u r.a r.choice few_r) es (λ d e. Says (d == e)) k rest
          (ends r.n r.value_is))
        where
          ends : (j : ℕ) → w ≡ value.Tag j → (c : Bool) → (m == j) ≡ c
              → Ends_ (needing es (Says (m == j)) k) (if c then rest else blocked)
          ends j is true same =
              subst (λ c. Ends_ (needing es (Says c) k) rest) (sym same)
              (stays es (value.Tag m) w good (ap value.Tag (eqb-true m j same) ∙ sym is) k rest after)
          ends j is false same = subst (λ c. Ends_ (needing es (Says c) k) blocked) (sym same) unequal

  -- a comparison behind another one
  bound_settles : (a : Asking) (f : Bool → Asking) → f false ≡ Says false → (es : List Equal) (k : List Equal → Settling)
      (s : Story) → Ends_ (needing es a (λ fs. needing fs (f true) k)) s → Ends_ (needing es (bound a f) k) s
  bound_settles Stops f no_ es k s h = h
  bound_settles (Says true) f no_ es k s h = h
  bound_settles (Says false) f no_ es k s h = subst (λ a. Ends_ (needing es a k) s) (sym no_) h
  bound_settles (Inspects q l) f no_ es k s h =
      (h.0, h.1, h.2, bound_settles (l (out q)) f no_ es k (h.0 (out q)) h.3)
  bound_settles (Meets e l) f no_ es k s h = bound_settles (l true) f no_ (es ++ e ∷ []) k s h

  fields_settle : (vs : List Value) → Each Settles vs → (us : List Ty) (b : ℕ) (xs : List Term) → b ≤ g.options
      → all_fit t g (map fit vs) us b xs ≡ true → (n : Option ℕ) → AtMost b n → (ws : List Value) (ys : List Term)
      → all_fit t g (map fit ws) us g.options ys ≡ true → (es : List Equal) → AllGood es
      → (k : List Equal → Settling) (rest : Story) → After es (vs ≡ ws) k rest
      → Ends_ (needing es (fields_asked (map (asks n) xs) ys) k)
      (fields_inspected Story blocked Asks (map inspected vs) ws rest)
  fields_settle [] e [] b [] bo h n le [] [] hw es good k rest after =
      after es good ((λ all. (all, refl)), (λ both. both.0))
  fields_settle [] e [] b [] bo h n le [] (y ∷ ys) hw es good k rest after = absurd (cc)
  fields_settle [] e [] b [] bo h n le (w ∷ ws) ys hw es good k rest after = absurd (cc)
  fields_settle [] e [] b (x ∷ xs) bo h n le ws ys hw es good k rest after = absurd (cc)
  fields_settle [] e (u ∷ us) b xs bo h n le ws ys hw es good k rest after = absurd (cc)
  fields_settle (v ∷ vs) e [] b xs bo h n le ws ys hw es good k rest after = absurd (cc)
  fields_settle (v ∷ vs) e (u ∷ us) b [] bo h n le ws ys hw es good k rest after = absurd (cc)
  fields_settle (v ∷ vs) e (u ∷ us) b (x ∷ xs) bo h n le [] ys hw es good k rest after = absurd (cc)
  fields_settle (v ∷ vs) e (u ∷ us) b (x ∷ xs) bo h n le (w ∷ ws) [] hw es good k rest after = absurd (cc)
  fields_settle (v ∷ vs) e (u ∷ us) b (x ∷ xs) bo h n le (w ∷ ws) (y ∷ ys) hw es good k rest after =
      let one = and_parts (fit v u b x) (all_fit t g (map fit vs) us b xs) h in
      let two = and_parts (fit w u g.options y) (all_fit t g (map fit ws) us g.options ys) hw in
      bound_settles (asks n x y) (λ s. if s then fields_asked (map (asks n) xs) ys else Says false) refl es k _
      (e.0 u b x bo one.0 n le w y two.0 es good (λ fs. needing fs (fields_asked (map (asks n) xs) ys) k)
      (fields_inspected Story blocked Asks (map inspected vs) ws rest)
      (λ fs fine both. fields_settle vs e.1 us b xs bo one.1 n le ws ys two.1 fs fine k rest
      (λ hs sound all. after hs sound (
        (λ a. let c = all.0 a in let d = both.0 c.0 in
            (d.0, ap (λ z. z ∷ vs) d.1 ∙ ap (λ zs. w ∷ zs) c.1)),
        (λ a. all.1 (both.1 (a.0, (head_same v w vs ws a.1).0), (head_same v w vs ws a.1).1)),
      ))))
    where
      head_same : (v w : Value) (vs ws : List Value) → (v ∷ vs) ≡ (w ∷ ws) → (v ≡ w) × (vs ≡ ws)
      head_same v w vs ws h = (let s : v ≡ w = cc in s, let s : vs ≡ ws = cc in s)

  rec_settles : (vs : List Value) → Each Settles vs → Settles (value.Rec vs)
  rec_settles vs e u b x bo h n le w y hw es good k rest after =
      let s = record_type t g (map fit vs) u b (fields_in (out-Term x)) (sym (fit_rec t g vs u b x) ∙ h) in
      let a = at_record t g u s.0 s.1 (value.Rec vs) b x h in
      let r = at_record t g u s.0 s.1 w g.options y hw in
      let both = same_record t g u s.0 b vs x w y a r in
      carry
      (ap (λ z. needing es (asks n z y) k) (rec_form x a.fields a.term_is)
      ∙ ap (λ (c : Asker). needing es (c y) k)
      (terms.fold-rec (asks_step g.payloads (askers_below g.payloads n)) a.fields)
      ∙ ap (λ o. needing es (or_stops o (fields_asked (map (asks n) a.fields))) k) r.term_is)
      (ap (λ (c : Inspecting Story). c w rest) (values.fold-rec (inspecting_step Story blocked Asks) vs)
      ∙ ap (λ o. record_inspected Story blocked Asks (map inspected vs) o rest)
      (ap eval.parts_of r.value_is ∙ ap eval.parts_in (out_rec r.parts)))
      (fields_settle vs e (field_types a.d) b a.fields bo both.0 n le r.parts r.fields both.1 es good k rest
      (λ fs fine all. after fs fine (
        (λ z. let c = all.0 z in (c.0, ap value.Rec c.1 ∙ sym r.value_is)),
        (λ z. all.1 (z.0, rec_same vs r.parts (z.1 ∙ r.value_is))),
      )))
    where
      rec_same : (xs ys : List Value) → value.Rec xs ≡ value.Rec ys → xs ≡ ys
      rec_same xs ys p = some_same xs ys
          (sym (ap eval.parts_in (out_rec xs)) ∙ ap eval.parts_of p ∙ ap eval.parts_in (out_rec ys))

  -- options
  to_needing : (es : List Equal) (k : List Equal → Settling) (l : Opt) (m : Option Asker) (y : Term) (r : Opt)
      (p : Option Term) → opt_of y ≡ Some r → payload_of g.payloads y ≡ p
      → needing es (option_step g.payloads l m y) k
      ≡ needing es (Inspects (question.OptOf l) (λ d. Inspects (question.OptOf r) (λ e. opened_asked d e m p))) k
  to_needing es k l m y r p is there =
      ap (λ o. needing es (or_stops o (λ r. options_asked l r m (payload_of g.payloads y))) k) is
      ∙ ap (λ q. needing es (options_asked l r m q) k) there

  none_beside : (l : Opt) (m : Option Asker) → is_opt t g l ≡ true → opt_under g.valuation.present l ≡ 0 → (w : Value)
      → (ty : Ty) (y : Term) → OptionAt t g ty w y → (es : List Equal) → AllGood es → (k : List Equal → Settling)
      (rest : Story) → After es (value.None ≡ w) k rest
      → Ends_ (needing es (option_step g.payloads l m y) k) (inspected value.None w rest)
  none_beside l m ok is w ty y (IsNone r e o okr isr) es good k rest after =
      carry (to_needing es k l m y r (payload_of g.payloads y) o refl)
      (ap (λ (c : Inspecting Story). c w rest) (values.fold-none (inspecting_step Story blocked Asks))
      ∙ ap (λ o. none_inspected Story blocked Asks o rest) (ap eval.option_of e ∙ ap eval.option_in out_none))
      (inspects (question.OptOf l) (question.OptOf r) 0 0 (sym is) (sym isr) ok okr es
      (λ d e. opened_asked d e m (payload_of g.payloads y)) k rest by)
    where
      by : (b : Bool) → (0 == 0) ≡ b
          → Ends_ (needing es (opened_asked 0 0 m (payload_of g.payloads y)) k) (if b then rest else blocked)
      by true f = stays es value.None w good (sym e) k rest after
      by false f = absurd (cc)
  none_beside l m ok is w ty y (IsSome v r p e o okr isr there fits) es good k rest after =
      carry (to_needing es k l m y r (Some p) o there)
      (ap (λ (c : Inspecting Story). c w rest) (values.fold-none (inspecting_step Story blocked Asks))
      ∙ ap (λ o. none_inspected Story blocked Asks o rest) (ap eval.option_of e ∙ ap eval.option_in (out_some v)))
      (inspects (question.OptOf l) (question.OptOf r) 0 1 (sym is) (sym isr) ok okr es (λ d e. opened_asked d e m (Some p))
      k rest by)
    where
      by : (b : Bool) → (0 == 1) ≡ b → Ends_ (needing es (opened_asked 0 1 m (Some p)) k) (if b then rest else blocked)
      by true f = absurd (cc)
      by false f = unequal

  -- the left payload beside its term
  abbrev PayloadSettles : Value → Ty → Asker → Type 0
  PayloadSettles v ty a = (w : Value) (y : Term) → fit w ty g.options y ≡ true → (es : List Equal) → AllGood es
      → (k : List Equal → Settling) (rest : Story) → After es (v ≡ w) k rest
      → Ends_ (needing es (a y) k) (inspected v w rest)

  some_beside : (v : Value) (ty : Ty) (a : Asker) → PayloadSettles v ty a → (l : Opt) → is_opt t g l ≡ true
      → opt_under g.valuation.present l ≡ 1 → (w : Value) (y : Term) → OptionAt t g ty w y
      → (es : List Equal) → AllGood es → (k : List Equal → Settling) (rest : Story) → After es (value.Some v ≡ w) k rest
      → Ends_ (needing es (option_step g.payloads l (Some a) y) k) (inspected (value.Some v) w rest)
  some_beside v ty a goes l ok is w y (IsNone r e o okr isr) es good k rest after =
      carry (to_needing es k l (Some a) y r (payload_of g.payloads y) o refl)
      (ap (λ (c : Inspecting Story). c w rest) (values.fold-some (inspecting_step Story blocked Asks) v)
      ∙ ap (λ o. some_inspected Story blocked Asks (inspected v) o rest)
      (ap eval.option_of e ∙ ap eval.option_in out_none))
      (inspects (question.OptOf l) (question.OptOf r) 1 0 (sym is) (sym isr) ok okr es
      (λ d e. opened_asked d e (Some a) (payload_of g.payloads y)) k (payload_inspected Story blocked Asks (inspected v) None rest) by)
    where
      by : (b : Bool) → (1 == 0) ≡ b
          → Ends_ (needing es (opened_asked 1 0 (Some a) (payload_of g.payloads y)) k) (if b then rest else blocked)
      by true f = absurd (cc)
      by false f = unequal
  some_beside v ty a goes l ok is w y (IsSome z r p e o okr isr there fits) es good k rest after =
      carry (to_needing es k l (Some a) y r (Some p) o there)
      (ap (λ (c : Inspecting Story). c w rest) (values.fold-some (inspecting_step Story blocked Asks) v)
      ∙ ap (λ o. some_inspected Story blocked Asks (inspected v) o rest)
      (ap eval.option_of e ∙ ap eval.option_in (out_some z)))
      (inspects (question.OptOf l) (question.OptOf r) 1 1 (sym is) (sym isr) ok okr es
      (λ d e. opened_asked d e (Some a) (Some p)) k (payload_inspected Story blocked Asks (inspected v) (Some z) rest) by)
    where
      payload_same : (v z : Value) → value.Some v ≡ value.Some z → v ≡ z
      payload_same v z q = some_same v z (some_same (Some v) (Some z)
          (sym (ap eval.option_in (out_some v)) ∙ ap eval.option_of q ∙ ap eval.option_in (out_some z)))

      by : (b : Bool) → (1 == 1) ≡ b
          → Ends_ (needing es (opened_asked 1 1 (Some a) (Some p)) k) (if b then inspected v z rest else blocked)
      by true f = goes z p fits es good k rest (λ fs fine all. after fs fine (
        (λ q. let c = all.0 q in (c.0, ap value.Some c.1 ∙ sym e)),
        (λ q. all.1 (q.0, payload_same v z (q.1 ∙ e))),
      ))
      by false f = absurd (cc)

  none_settles : Settles value.None
  none_settles u b x bo h n le w y hw es good k rest after = here_ (out-Term x) refl
      (sym (ap (λ z. is_none t g z b (out-Term x)) s.1) ∙ sym (fit_none t g u b x) ∙ h)
    where
      s : (ty : Ty) × (out-Ty u ≡ Ty-F.Option ty)
      s = none_type t g u b (out-Term x) (sym (fit_none t g u b x) ∙ h)

      here_ : (z : Term-F Term) → out-Term x ≡ z → is_nothing t g b z ≡ true
          → Ends_ (needing es (asks n x y) k) (inspected value.None w rest)
      here_ Term-F.None e q =
          carry
          (ap (λ z. needing es (asks n z y) k) (whole x Term-F.None e ∙ term.rolls-None)
          ∙ ap (λ (c : Asker). needing es (c y) k) (terms.fold-none (asks_step g.payloads (askers_below g.payloads n))))
          refl
          (none_beside opt.None None refl refl w s.0 y (option_at t g u s.0 s.1 w y hw) es good k rest after)
      here_ (Term-F.Either o) e q =
          let parts = option_parts t g o.0 0 (option_grows t g b g.options o.0 0 bo q) in
          carry
          (ap (λ z. needing es (asks n z y) k) (whole x (Term-F.Either o) e ∙ term.rolls-Either o)
          ∙ ap (λ (c : Asker). needing es (c y) k)
          (terms.fold-either (asks_step g.payloads (askers_below g.payloads n)) o))
          refl
          (none_beside (opt.Var o) (slice_get (askers_below g.payloads n) o.0) parts.2 parts.1 w s.0 y
          (option_at t g u s.0 s.1 w y hw) es good k rest after)
      here_ (Term-F.Elem z) e q = absurd (cc)
      here_ (Term-F.Num z) e q = absurd (cc)
      here_ (Term-F.Tag z) e q = absurd (cc)
      here_ (Term-F.Rec z) e q = absurd (cc)
      here_ (Term-F.Some z) e q = absurd (cc)

  some_settles : (v : Value) → Settles v → Settles (value.Some v)
  some_settles v goes u b x bo h n le w y hw es good k rest after = here_ (out-Term x) refl
      (sym (ap (λ z. is_some t g (fit v) z b (out-Term x)) s.1) ∙ sym (fit_some t g v u b x) ∙ h)
    where
      s : (ty : Ty) × (out-Ty u ≡ Ty-F.Option ty)
      s = some_type t g (fit v) u b (out-Term x) (sym (fit_some t g v u b x) ∙ h)

      payload : (o : ℕ) → o < b → (p : Option Term) → slice_get g.payloads o ≡ p → payload_fits t g (fit v) s.0 o p ≡ true
          → (a : Asker) × (slice_get (askers_below g.payloads n) o ≡ Some a) × PayloadSettles v s.0 a
      payload o lt (Some p) at q = (
        asks (Some o) p,
        payload_asked g.payloads n o p (below o b n lt le) at,
        λ w y hw es good k rest after. goes s.0 o p (omega (arith, lt, bo)) q (Some o) (omega arith) w y hw es good k
            rest after,
      )
      payload o lt None at q = absurd (cc)

      here_ : (z : Term-F Term) → out-Term x ≡ z → is_something t g (fit v) s.0 b z ≡ true
          → Ends_ (needing es (asks n x y) k) (inspected (value.Some v) w rest)
      here_ (Term-F.Some p) e q =
          carry
          (ap (λ z. needing es (asks n z y) k) (whole x (Term-F.Some p) e ∙ term.rolls-Some p)
          ∙ ap (λ (c : Asker). needing es (c y) k) (terms.fold-some (asks_step g.payloads (askers_below g.payloads n)) p))
          refl
          (some_beside v s.0 (asks n p)
          (λ w y hw es good k rest after. goes s.0 b p bo q n le w y hw es good k rest after) opt.Some refl refl
          w y (option_at t g u s.0 s.1 w y hw) es good k rest after)
      here_ (Term-F.Either o) e q =
          let both = and_parts (is_option t g b o.0 1) _ q in
          let parts = option_parts t g o.0 1 (option_grows t g b g.options o.0 1 bo both.0) in
          let lt : o.0 < b = ltb-true o.0 b (and_parts _ _ (and_parts _ _ both.0).0).0 in
          let a = payload o.0 lt (slice_get g.payloads o.0) refl both.1 in
          carry
          (ap (λ z. needing es (asks n z y) k) (whole x (Term-F.Either o) e ∙ term.rolls-Either o)
          ∙ ap (λ (c : Asker). needing es (c y) k)
          (terms.fold-either (asks_step g.payloads (askers_below g.payloads n)) o)
          ∙ ap (λ m. needing es (option_step g.payloads (opt.Var o) m y) k) a.1)
          refl
          (some_beside v s.0 a.0 a.2 (opt.Var o) parts.2 parts.1 w y (option_at t g u s.0 s.1 w y hw) es good k rest after)
      here_ (Term-F.Elem z) e q = absurd (cc)
      here_ (Term-F.Num z) e q = absurd (cc)
      here_ (Term-F.Tag z) e q = absurd (cc)
      here_ (Term-F.Rec z) e q = absurd (cc)
      here_ Term-F.None e q = absurd (cc)

  settled : (v : Value) → Settles v
  settled = value_ind Settles elem_settles int_settles tag_settles rec_settles none_settles some_settles

  are_same_more : (p : story.Both) (ps : List story.Both) → IsTrue (story.are_same (p ∷ ps))
      ↔ ((p.0 ≡ p.1) × IsTrue (story.are_same ps))
  are_same_more p ps = (
    (λ h. let both = and_parts (same_value p.0 p.1) (story.are_same ps) h in (same_equal p.0 p.1 both.0, both.1)),
    (λ both. and_from (same_value p.0 p.1) (story.are_same ps)
        (subst (λ z. same_value p.0 z ≡ true) both.0 (same_self p.0)) both.1),
  )

  all_settle : (ps : List story.Both) (ss : List Sides) → AllSides t g ps ss → (es : List Equal) → AllGood es → (b : Bool)
      → (IsTrue b ↔ (AllSo es × IsTrue (story.are_same ps)))
      → Ends_ (settling_from g.payloads es ss) (story.pairs_inspected ps (Ends b))
  all_settle [] [] h es good b same =
      (b, refl, (((λ is. (same.0 is).0), (λ all. same.1 (all, refl))), good))
  all_settle (p ∷ ps) (s ∷ ss) h es good b same =
      settled p.0 h.0.0 g.options s.left (omega arith) h.0.1 None tt p.1 s.right h.0.2 es good
      (λ fs. settling_from g.payloads fs ss) (story.pairs_inspected ps (Ends b))
      (λ fs fine all. all_settle ps ss h.1 fs fine b (
        (λ is. let c = same.0 is in let d = (are_same_more p ps).0 c.1 in (all.1 (c.0, d.0), d.1)),
        (λ both. let c = all.0 both.0 in same.1 (c.0, (are_same_more p ps).1 (c.1, both.1))),
      ))
  all_settle [] (s ∷ ss) h es good b same = absurd h
  all_settle (p ∷ ps) [] h es good b same = absurd h

  -- the whole last comparison
  pub last_beside : (ps : List story.Both) (ss : List Sides) → AllSides t g ps ss
      → Beside t g (settles cs (settling_of g.payloads ss)) (story.last_comparison ps)
  last_beside ps ss h =
      all_settle ps ss h [] tt (story.are_same ps) ((λ is. (tt, is)), (λ both. both.1))
