-- The variables of a question that can be asked have values; and one literal where the symbols are the same.
use Rattle.std.proofs.Common.{◌≡◌, ℕ, true, List, [], ◌∷◌, ◌++◌, slice_get, refl}
use Rattle.std.proofs.Common.{ap, ◌∙◌}
use Rattle.std.specs.List.{AllByRecursion}
use Rattle.std.specs.Option.{option_map}
use Rattle.std.proofs.lemmas.Bool.{and_parts}
use Rattle.cm_model.specs.Tables.{Tables}
use Rattle.cm_term.specs.declared.atom.Num.{Num}
use Rattle.cm_term.specs.declared.atom.Num.TheVariants as num
use Rattle.cm_term.specs.declared.atom.Tag.TheVariants as tag
use Rattle.cm_term.specs.declared.atom.Opt.TheVariants as opt
use Rattle.cm_term.specs.declared.question.Question.{Question}
use Rattle.cm_term.specs.declared.question.Question.TheVariants as question
use Rattle.cm_term.specs.Atoms.{vars_of_num}
use Rattle.cm_term.specs.Valuation.{Var, OfElement, OfNumber}
use Rattle.cm_term.specs.Questions.{vars_asked}
use Rattle.cm_ctx.specs.declared.piece.Piece.{Piece}
use Rattle.cm_cond.specs.declared.literal.Literal.TheVariants as literal
use Rattle.cm_beside.specs.Grounds.{Grounds}
use Rattle.cm_beside.specs.Fits.{is_num, is_tag}
use Rattle.cm_beside.specs.Related.{is_question, are_one_sort, asked_limit, is_variant}
use Rattle.cm_beside.specs.Seen.{symbol_at}
use Rattle.cm_name.specs.Naming.{of_two, elements_literal, order_said, turned, less_by, numbers_literal, place_literal}
use Rattle.cm_name.specs.Naming.{presence_literal, said_of}

module _ (t : Tables) (g : Grounds) where
  abbrev Have : List Var → Type 0
  Have = AllByRecursion (λ x. g.has x ≡ true)

  both_have : (xs ys : List Var) → Have xs → Have ys → Have (xs ++ ys)
  both_have [] ys h k = k
  both_have (x ∷ xs) ys h k = (h.0, both_have xs ys h.1 k)

  num_has : (limit : ℕ) (a : Num) → is_num t g limit a ≡ true → Have (vars_of_num a)
  num_has limit (num.Const k) h = tt
  num_has limit (num.Plus x k) h = ((and_parts _ _ h).1, tt)

  pub asked_has : (q : Question) → is_question t g q ≡ true → Have (vars_asked q)
  asked_has (question.Elems x y) h =
      let both = and_parts (g.has (OfElement x.0)) _
      (and_parts (are_one_sort (slice_get g.sorts x.0) (slice_get g.sorts y.0)) _ h).1 in
      (both.0, (both.1, tt))
  asked_has (question.Nums a b) h =
      let both = and_parts (is_num t g asked_limit a) _ h in
      both_have (vars_of_num a) (vars_of_num b) (num_has asked_limit a both.0) (num_has asked_limit b both.1)
  asked_has (question.Range a lo hi) h = num_has asked_limit a (and_parts (is_num t g asked_limit a) _ h).0
  asked_has (question.TagOf (tag.Const e i)) h = tt
  asked_has (question.TagOf (tag.Var x)) h =
      ((and_parts _ _ (and_parts (is_tag t g (tag.Var x)) (is_variant t g (tag.Var x)) h).0).1, tt)
  asked_has (question.OptOf opt.None) h = tt
  asked_has (question.OptOf opt.Some) h = tt
  asked_has (question.OptOf (opt.Var o)) h = ((and_parts _ _ h).1, tt)

-- a variable has one symbol in both
abbrev pub IsOneSymbol : List Piece → List Piece → Var → Type 0
IsOneSymbol ps qs x = symbol_at ps x ≡ symbol_at qs x

pub said_same : (ps qs : List Piece) (q : Question) (d : ℕ) → AllByRecursion (IsOneSymbol ps qs) (vars_asked q)
    → said_of ps q d ≡ said_of qs q d
said_same ps qs (question.Elems x y) d h =
    ap (λ o. of_two (elements_literal d) o (symbol_at ps (OfElement y.0))) h.0
    ∙ ap (of_two (elements_literal d) (symbol_at qs (OfElement x.0))) h.1.0
said_same ps qs (question.Nums (num.Plus x k) (num.Plus y l)) d h =
    ap (λ o. of_two (numbers_literal (order_said d) k l) o (symbol_at ps (OfNumber y.0))) h.0
    ∙ ap (of_two (numbers_literal (order_said d) k l) (symbol_at qs (OfNumber x.0))) h.1.0
said_same ps qs (question.Nums (num.Plus x k) (num.Const n)) d h =
    ap (option_map (λ s. literal.Against s (order_said d) (less_by n k))) h.0
said_same ps qs (question.Nums (num.Const n) (num.Plus y l)) d h =
    ap (option_map (λ s. literal.Against s (turned (order_said d)) (less_by n l))) h.0
said_same ps qs (question.Nums (num.Const m) (num.Const n)) d h = refl
said_same ps qs (question.Range (num.Plus x k) lo hi) d h = ap (option_map (place_literal k lo hi d)) h.0
said_same ps qs (question.Range (num.Const n) lo hi) d h = refl
said_same ps qs (question.TagOf (tag.Var x)) d h = ap (option_map (λ s. literal.Tag s d)) h.0
said_same ps qs (question.TagOf (tag.Const e i)) d h = refl
said_same ps qs (question.OptOf (opt.Var o)) d h = ap (option_map (presence_literal d)) h.0
said_same ps qs (question.OptOf opt.None) d h = refl
said_same ps qs (question.OptOf opt.Some) d h = refl
