-- The value of a term and the outcome of a question depend on their variables alone.
use Rattle.std.proofs.Common.{◌≡◌, refl, ap, sym, subst, ◌∙◌, ℕ, ℤ, ◌+ℤ◌, ◌==◌, List, [], ◌∷◌, ◌++◌, map, if◌then◌else◌}
use Rattle.std.specs.List.{flat_map, AllByRecursion}
use Rattle.cm_model.specs.declared.variable.SortVar.{SortVar}
use Rattle.cm_value.specs.declared.value.Value.{Value}
use Rattle.cm_value.specs.declared.value.Value.TheVariants as value
use Rattle.cm_term.specs.declared.atom.Num.{Num}
use Rattle.cm_term.specs.declared.atom.Num.TheVariants as num
use Rattle.cm_term.specs.declared.atom.Tag.{Tag}
use Rattle.cm_term.specs.declared.atom.Tag.TheVariants as tag
use Rattle.cm_term.specs.declared.atom.Opt.{Opt}
use Rattle.cm_term.specs.declared.atom.Opt.TheVariants as opt
use Rattle.cm_term.specs.declared.atom.OptVar.{OptVar}
use Rattle.cm_term.specs.declared.question.Question.{Question}
use Rattle.cm_term.specs.declared.question.Question.TheVariants as question
use Rattle.cm_term.specs.declared.term.Term.{Term}
use Rattle.cm_term.specs.declared.term.Term.TheVariants as term
use Rattle.cm_term.specs.declared.term.Term.TheOpen.{Term-F}
use Rattle.cm_term.specs.Valuation.{Valuation, Var, Agree, AgreeOn}
use Rattle.cm_term.specs.Atoms.{num_under, tag_under, opt_under, vars_of_num, vars_of_tag, vars_of_opt}
use Rattle.cm_term.specs.Questions.{outcome_under, vars_asked, elements_outcome, order_of, place_in}
use Rattle.cm_term.specs.Terms.{value_of, value_step, vars_of, vars_step}
use Rattle.cm_term.proofs.Folds.{fold-elem, fold-num, fold-tag, fold-rec, fold-none, fold-some, fold-either}
use Rattle.cm_term.proofs.Induction.{Each, term_ind}

module _ (v w : Valuation) where
  both_parts : (xs ys : List Var) → AgreeOn v w (xs ++ ys) → AgreeOn v w xs × AgreeOn v w ys
  both_parts [] ys h = (tt, h)
  both_parts (x ∷ xs) ys h = let more = both_parts xs ys h.1 in ((h.0, more.0), more.1)

  num_agrees : (a : Num) → AgreeOn v w (vars_of_num a) → num_under v.number a ≡ num_under w.number a
  num_agrees (num.Const k) h = refl
  num_agrees (num.Plus x k) h = ap (λ n. n +ℤ k) h.0

  tag_agrees : (a : Tag) → AgreeOn v w (vars_of_tag a) → tag_under v.tag a ≡ tag_under w.tag a
  tag_agrees (tag.Const ty index) h = refl
  tag_agrees (tag.Var x) h = h.0

  opt_agrees : (a : Opt) → AgreeOn v w (vars_of_opt a) → opt_under v.present a ≡ opt_under w.present a
  opt_agrees opt.None h = refl
  opt_agrees opt.Some h = refl
  opt_agrees (opt.Var o) h = h.0.0

  abbrev Depends : Term → Type 0
  Depends t = AgreeOn v w (vars_of t) → value_of v t ≡ value_of w t

  all_agree : (ts : List Term) → Each Depends ts → AgreeOn v w (flat_map (λ vars. vars) (map vars_of ts))
      → map (value_of v) ts ≡ map (value_of w) ts
  all_agree [] e h = refl
  all_agree (t ∷ ts) e h =
      let parts = both_parts (vars_of t) (flat_map (λ vars. vars) (map vars_of ts)) h in
      ap (λ x. x ∷ map (value_of v) ts) (e.0 parts.0)
      ∙ ap (λ xs. value_of w t ∷ xs) (all_agree ts e.1 parts.1)

  option_agrees : (m n : ℕ) (x y : Value) → m ≡ n → x ≡ y
      → (if m == 1 then value.Some x else value.None) ≡ (if n == 1 then value.Some y else value.None)
  option_agrees m n x y p q =
      ap (λ k. if k == 1 then value.Some x else value.None) p
      ∙ ap (λ z. if n == 1 then value.Some z else value.None) q

  -- by the fold of the variables and those of the values at a node
  at_node : (t : Term) (xs : List Var) (x y : Value) → vars_of t ≡ xs → value_of v t ≡ x → value_of w t ≡ y
      → (AgreeOn v w xs → x ≡ y) → Depends t
  at_node t xs x y p q r f h = q ∙ f (subst (AgreeOn v w) p h) ∙ sym r

  elem_depends : (x : SortVar) → Depends (term.Elem x)
  elem_depends x =
      at_node (term.Elem x) _ _ _ (fold-elem vars_step x) (fold-elem (value_step v) x) (fold-elem (value_step w) x)
      (λ h. ap value.Elem h.0)

  num_depends : (a : Num) → Depends (term.Num a)
  num_depends a =
      at_node (term.Num a) _ _ _ (fold-num vars_step a) (fold-num (value_step v) a) (fold-num (value_step w) a)
      (λ h. ap value.Int (num_agrees a h))

  tag_depends : (a : Tag) → Depends (term.Tag a)
  tag_depends a =
      at_node (term.Tag a) _ _ _ (fold-tag vars_step a) (fold-tag (value_step v) a) (fold-tag (value_step w) a)
      (λ h. ap value.Tag (tag_agrees a h))

  rec_depends : (ts : List Term) → Each Depends ts → Depends (term.Rec ts)
  rec_depends ts e =
      at_node (term.Rec ts) _ _ _ (fold-rec vars_step ts) (fold-rec (value_step v) ts) (fold-rec (value_step w) ts)
      (λ h. ap value.Rec (all_agree ts e h))

  none_depends : Depends term.None
  none_depends =
      at_node term.None _ _ _ (fold-none vars_step) (fold-none (value_step v)) (fold-none (value_step w)) (λ h. refl)

  some_depends : (t : Term) → Depends t → Depends (term.Some t)
  some_depends t e =
      at_node (term.Some t) _ _ _ (fold-some vars_step t) (fold-some (value_step v) t) (fold-some (value_step w) t)
      (λ h. ap value.Some (e h))

  either_depends : (o : OptVar) → Depends (term.Either o)
  either_depends o =
      at_node (term.Either o) _ _ _
      (fold-either vars_step o) (fold-either (value_step v) o) (fold-either (value_step w) o)
      (λ h. option_agrees _ _ _ _ h.0.0 h.0.1)

  pub term_depends : (t : Term) → AgreeOn v w (vars_of t) → value_of v t ≡ value_of w t
  term_depends =
      term_ind Depends elem_depends num_depends tag_depends rec_depends none_depends some_depends either_depends

  pub question_depends : (q : Question) → AgreeOn v w (vars_asked q) → outcome_under v q ≡ outcome_under w q
  question_depends (question.Elems x y) h =
      ap (λ m. if m == v.element y.0 then 0 else 1) h.0 ∙ ap (λ n. if w.element x.0 == n then 0 else 1) h.1.0
  question_depends (question.Nums a b) h =
      let parts = both_parts (vars_of_num a) (vars_of_num b) h in
      ap (λ m. order_of m (num_under v.number b)) (num_agrees a parts.0)
      ∙ ap (λ n. order_of (num_under w.number a) n) (num_agrees b parts.1)
  question_depends (question.Range a lo hi) h = ap (place_in lo hi) (num_agrees a h)
  question_depends (question.TagOf a) h = tag_agrees a h
  question_depends (question.OptOf a) h = opt_agrees a h
