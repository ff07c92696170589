-- A question of a pair's tale can be asked of the context.
use Rattle.std.proofs.Common.{◌≡◌, ◌<◌, ℕ, ℤ, pos, neg_ℤ, true, false, List, length, slice_get, slice_index, arith}
use Rattle.std.proofs.Common.{Option, Some, None, IsTrue, refl, sym, ◌∙◌, subst, ltb, int_le, ◌≤◌, zero, suc, [], ◌∷◌}
use Rattle.std.proofs.lemmas.Bool.{and_parts, eqb-true, ltb-true}
use Rattle.std.proofs.lemmas.Option.{get_or_from_slice_get}
use Rattle.cm_model.specs.Limits.{number_limit}
use Rattle.cm_model.specs.Tables.{Tables}
use Rattle.cm_term.specs.declared.atom.Num.{Num}
use Rattle.cm_term.specs.declared.atom.Opt.TheVariants as opt
use Rattle.cm_term.specs.declared.atom.Opt.{Opt}
use Rattle.cm_term.specs.declared.atom.Tag.TheVariants as tag
use Rattle.cm_term.specs.declared.atom.Tag.{Tag}
use Rattle.cm_term.specs.declared.question.Question.{Question}
use Rattle.cm_term.specs.declared.question.Question.TheVariants as question
use Rattle.cm_term.specs.Atoms.{var_of, offset_of}
use Rattle.cm_ctx.specs.Contexts.{Context, IsSmall, IsNum, IsTag, IsOpt, IsQuestion, question_limit}
use Rattle.cm_beside.specs.Grounds.{Grounds}
use Rattle.cm_beside.specs.Fits.{is_near, is_num, is_tag, has_number}
use Rattle.cm_beside.proofs.Near.{at_most, nearer}
use Rattle.cm_beside.specs.Related.{asked_limit, are_one_sort, is_opt, is_variant, is_question}

within : {X : Type 0} (xs : List X) (i : ℕ) (x : X) → slice_get xs i ≡ Some x → i < length xs
within [] i x at = absurd (cc)
within (y ∷ xs) zero x at = omega arith
within (y ∷ xs) (suc i) x at = let lt = within xs i x at in omega (arith, lt)

one_sort : (xs : List ℕ) (i j : ℕ) → are_one_sort (slice_get xs i) (slice_get xs j) ≡ true
    → (i < length xs) × (j < length xs) × (slice_index xs i ≡ slice_index xs j)
one_sort xs i j h = by (slice_get xs i) (slice_get xs j) refl refl h
  where
    by : (a b : Option ℕ) → slice_get xs i ≡ a → slice_get xs j ≡ b → are_one_sort a b ≡ true
        → (i < length xs) × (j < length xs) × (slice_index xs i ≡ slice_index xs j)
    by (Some s) (Some r) e f g = (
      within xs i s e,
      within xs j r f,
      get_or_from_slice_get xs i s _ e ∙ eqb-true s r g ∙ sym (get_or_from_slice_get xs j r _ f),
    )
    by (Some s) None e f g = absurd (let n : false ≡ true = g in cc)
    by None b e f g = absurd (let n : false ≡ true = g in cc)

small : (m : ℕ) (k : ℤ) → m ≤ question_limit → is_near m k ≡ true → IsSmall k
small m k le h =
    let parts = and_parts (int_le (neg_ℤ (pos question_limit)) k) _ (nearer m question_limit k le h) in
    (at_most _ k parts.0, at_most k _ parts.1)

module _ (t : Tables) (g : Grounds) where
  num_there : (a : Num) → is_num t g asked_limit a ≡ true → IsNum g.numbers a
  num_there a h =
      let outer = and_parts _ (has_number t g a) h in
      let inner = and_parts (ltb (var_of a) g.numbers) (is_near asked_limit (offset_of a)) outer.0 in
      (ltb-true _ _ inner.0, small asked_limit (offset_of a) (omega arith) inner.1)

  tag_there : (a : Tag) → is_tag t g a ≡ true → is_variant t g a ≡ true → IsTag g.tags a
  tag_there (tag.Const e i) h k = ltb-true _ _ k
  tag_there (tag.Var x) h k = ltb-true _ _ (and_parts _ _ h).0

  opt_there : (a : Opt) → is_opt t g a ≡ true → IsOpt g.options a
  opt_there opt.None h = tt
  opt_there opt.Some h = tt
  opt_there (opt.Var o) h = ltb-true _ _ (and_parts _ _ h).0

  -- of a context with as many variables, those of elements of the same sorts
  pub can_be_asked : (c : Context) → c.classes.sorts ≡ g.sorts → length c.bounds ≡ g.numbers → length c.tags ≡ g.tags
      → length c.options ≡ g.options → (q : Question) → IsTrue (is_question t g q) → IsQuestion c q
  can_be_asked c ss ns ts os (question.Elems x y) h =
      let e = (and_parts (are_one_sort (slice_get g.sorts x.0) (slice_get g.sorts y.0)) _ h).0 in
      one_sort c.classes.sorts x.0 y.0
      (subst (λ xs. are_one_sort (slice_get xs x.0) (slice_get xs y.0) ≡ true) (sym ss) e)
  can_be_asked c ss ns ts os (question.Nums a b) h =
      let e = and_parts (is_num t g asked_limit a) _ h in
      (subst (λ n. IsNum n a) (sym ns) (num_there a e.0), subst (λ n. IsNum n b) (sym ns) (num_there b e.1))
  can_be_asked c ss ns ts os (question.Range a lo hi) h =
      let e = and_parts (is_num t g asked_limit a) _ h in
      let f = and_parts (is_near number_limit lo) _ e.1 in
      let k = and_parts (is_near number_limit hi) _ f.1 in (
        subst (λ n. IsNum n a) (sym ns) (num_there a e.0),
        small number_limit lo (omega arith) f.0,
        small number_limit hi (omega arith) k.0,
        at_most lo hi (and_parts (int_le lo hi) _ k.1).0,
      )
  can_be_asked c ss ns ts os (question.TagOf a) h =
      let e = and_parts (is_tag t g a) _ h in
      subst (λ n. IsTag n a) (sym ts) (tag_there a e.0 e.1)
  can_be_asked c ss ns ts os (question.OptOf a) h = subst (λ n. IsOpt n a) (sym os) (opt_there a h)
