-- What an expression writes is taken, and the value is the expression with the places where it is written.
use Rattle.std.proofs.Common.{◌≡◌, ℕ, ◌<◌, Bool, true, List, [], ◌∷◌, map, Option, Some, None, refl, sym, ap, ◌∙◌}
use Rattle.std.proofs.Common.{subst, arith, lit<}
use Rattle.cm_model.specs.declared.place.Place.{Place}
use Rattle.cm_tokens.specs.declared.token.Token.{Token}
use Rattle.cm_tokens.specs.declared.token.Token.TheVariants as token
use Rattle.cm_syntax.specs.declared.mark.Mark.TheVariants as mark
use Rattle.cm_syntax.specs.declared.tree.Tree.{Tree}
use Rattle.cm_syntax.specs.declared.tree.Num.{Num}
use Rattle.cm_syntax.specs.declared.tree.Num.TheVariants.{Digits, Negative}
use Rattle.cm_syntax.specs.declared.tree.Part.{Part}
use Rattle.cm_syntax.specs.declared.tree.«Type».{«Type» as TypeTree}
use Rattle.cm_syntax.specs.declared.tree.«Type».TheVariants as type
use Rattle.cm_syntax.specs.declared.tree.«Type».TheOpen as type_layer
use Rattle.cm_syntax.specs.declared.tree.«Type».TheViews.{roll-Type}
use Rattle.cm_syntax.specs.declared.tree.«Type».TheFolds.{ind-Type, map-Type, fold-roll-Type}
use Rattle.cm_syntax.specs.declared.tree.Block.{Block}
use Rattle.cm_syntax.specs.declared.tree.Expr.{Expr}
use Rattle.cm_syntax.specs.declared.tree.Expr.TheVariants as expr
use Rattle.cm_syntax.specs.declared.tree.Cmp.{Cmp}
use Rattle.cm_syntax.specs.declared.tree.Cmp.TheVariants as cmp
use Rattle.cm_syntax.specs.declared.tree.Cmp.TheOpen as layer
use Rattle.cm_syntax.specs.declared.tree.Cmp.TheViews.{roll-Cmp, roll-Expr, roll-Primary, roll-Sum, roll-Unary}
use Rattle.cm_syntax.specs.declared.tree.Cmp.TheViews.{roll-Post, roll-Set}
use Rattle.cm_syntax.specs.declared.tree.Cmp.TheFolds.{ind-Expr, map-Cmp, map-Expr, map-Primary, map-Sum, map-Unary}
use Rattle.cm_syntax.specs.declared.tree.Cmp.TheFolds.{map-Post, map-Set, fold-roll-Cmp, fold-roll-Expr}
use Rattle.cm_syntax.specs.declared.tree.Cmp.TheFolds.{fold-roll-Primary, fold-roll-Sum, fold-roll-Unary}
use Rattle.cm_syntax.specs.declared.tree.Cmp.TheFolds.{fold-roll-Post, fold-roll-Set}
use Rattle.cm_syntax.specs.declared.tree.Relation.{Relation}
use Rattle.cm_syntax.specs.declared.tree.Relation.TheVariants as relation
use Rattle.cm_syntax.specs.declared.tree.Sum.{Sum}
use Rattle.cm_syntax.specs.declared.tree.Sum.TheVariants as sum
use Rattle.cm_syntax.specs.declared.tree.Unary.{Unary}
use Rattle.cm_syntax.specs.declared.tree.Unary.TheVariants as unary
use Rattle.cm_syntax.specs.declared.tree.Post.{Post}
use Rattle.cm_syntax.specs.declared.tree.Set.{Set}
use Rattle.cm_syntax.specs.declared.tree.Primary.{Primary}
use Rattle.cm_syntax.specs.declared.tree.Primary.TheVariants as prim
use Rattle.cm_syntax.specs.declared.tails.AfterName.TheVariants as after
use Rattle.cm_syntax.specs.declared.tails.Offset.TheVariants as offset
use Rattle.cm_syntax.specs.declared.tails.RightSide.TheVariants as right
use Rattle.cm_syntax.specs.declared.tails.Joined.TheVariants as joined
use Rattle.cm_syntax.specs.Form.{Places, Form, nothing, written, word, part, node, each_after}
use Rattle.cm_syntax.specs.Spelling.{names_after, listed, each, num_form, type_form, part_form, set_of, post_of}
use Rattle.cm_syntax.specs.Spelling.{relation_token, sets_form, type_step, cmp_step, expr_step, prim_step, sum_step}
use Rattle.cm_syntax.specs.Spelling.{unary_step, post_step, set_step, cmp_form, expr_form, prim_form, sum_form}
use Rattle.cm_syntax.specs.Spelling.{unary_form, post_form, set_form, internal_form}
use Rattle.cm_syntax.specs.Text.{place_of}
use Rattle.cm_syntax.specs.inner.Machine as m
use Rattle.cm_syntax.specs.inner.Machine.{Symbol, Exactly, ANum, AType, APart, MoreParts, Params, Internals, MoreNames}
use Rattle.cm_syntax.specs.inner.Machine.{Key, Where, ABlock, Index, Else, AnExpr, MoreCmps, Ands, Ors, ACmp, Right}
use Rattle.cm_syntax.specs.inner.Machine.{ASum, AnOffset, AUnary, APost, Fields, With, MoreSets, ASet, APrim}
use Rattle.cm_syntax.specs.inner.Machine.{BehindName, Args, MoreArgs, ValueOf, Stack, Values, mapped, shift, running}
use Rattle.cm_syntax.specs.inner.Machine.{head, part_of, after_name, sum_of, cmp_of, expr_of, no_not}
use Rattle.cm_syntax.proofs.NextToken as test
use Rattle.cm_syntax.proofs.Skips as skips
use Rattle.cm_syntax.proofs.Ranks.{commas_high, sets_high, Always, Each, same_run, first, set_places, rank, begins}
use Rattle.cm_syntax.proofs.Ranks.{begins_post, post_begins, post_no_not, high_bracket, high_dot, high_with, high_sign}
use Rattle.cm_syntax.proofs.Ranks.{high_relation, high_joint, high_and, high_or, relation_high, Above}

module _ (at : Places) (nowhere : at [] ≡ place_of []) where
  pub first_place : (ts : List Token) → place_of (set_places at ts) ≡ at ts
  first_place [] = sym nowhere
  first_place (t ∷ ts) = refl

  pub head_is : (ts : List Token) → first ts ≡ head (set_places at ts)
  head_is [] = refl
  head_is (t ∷ ts) = refl

  -- the form is read as the symbol, and gives the value with its places
  abbrev pub Taken : (s : Symbol) → (Option Token → Type 0) → Form (ValueOf s) → Type 0
  Taken s ok f = (st : Stack) (k : Values (s ∷ st) → Tree) (ts : List Token) → ok (first ts)
      → running (s ∷ st) k (set_places at (f.writes ts)) ≡ running st (λ v. k (f.placed at ts, v)) (set_places at ts)

  pub record Good (s : Symbol) (ok : Option Token → Type 0) (start : Option Token → Bool) (f : Form (ValueOf s)) : Type
      0 where
    pub taken : Taken s ok f
    pub starts : (ts : List Token) → start (first (f.writes ts)) ≡ true

  pub record GoodBlock (f : Form Block) : Type 0 where
    pub taken : Taken ABlock Always f
    pub opened : (ts : List Token) → first (f.writes ts) ≡ Some token.OpenCurly

  skip_more_parts : (st : Stack) (k : Values (MoreParts ∷ st) → Tree) (ts : List Token)
      → test.no_comma (first ts) ≡ true → running (MoreParts ∷ st) k (set_places at ts) ≡ running st
      (λ v. k ([], v)) (set_places at ts)
  skip_more_parts st k ts h = same_run st (MoreParts ∷ st) (λ v. ([], v)) k (set_places at ts)
      (skips.skip_more_parts_at (head (set_places at ts)) st (shift st (head (set_places at ts))
      (place_of (set_places at ts))) (subst (λ o. test.no_comma o ≡ true) (head_is ts) h))

  skip_params : (st : Stack) (k : Values (Params ∷ st) → Tree) (ts : List Token) → m.no_name (first ts) ≡ true
      → running (Params ∷ st) k (set_places at ts) ≡ running st (λ v. k ([], v)) (set_places at ts)
  skip_params st k ts h = same_run st (Params ∷ st) (λ v. ([], v)) k (set_places at ts)
      (skips.skip_params_at (head (set_places at ts)) (place_of (set_places at ts)) st
      (shift st (head (set_places at ts)) (place_of (set_places at ts))) (subst (λ o. m.no_name o ≡ true)
      (head_is ts) h))

  skip_internals : (st : Stack) (k : Values (Internals ∷ st) → Tree) (ts : List Token)
      → test.no_semicolon (first ts) ≡ true → running (Internals ∷ st) k (set_places at ts) ≡ running
      st (λ v. k ([], v)) (set_places at ts)
  skip_internals st k ts h = same_run st (Internals ∷ st) (λ v. ([], v)) k (set_places at ts)
      (skips.skip_internals_at (head (set_places at ts)) st (shift st (head (set_places at ts))
      (place_of (set_places at ts))) (subst (λ o. test.no_semicolon o ≡ true) (head_is ts) h))

  skip_more_names : (st : Stack) (k : Values (MoreNames ∷ st) → Tree) (ts : List Token)
      → test.no_comma (first ts) ≡ true → running (MoreNames ∷ st) k (set_places at ts) ≡ running st
      (λ v. k ([], v)) (set_places at ts)
  skip_more_names st k ts h = same_run st (MoreNames ∷ st) (λ v. ([], v)) k (set_places at ts)
      (skips.skip_more_names_at (head (set_places at ts)) st (shift st (head (set_places at ts))
      (place_of (set_places at ts))) (subst (λ o. test.no_comma o ≡ true) (head_is ts) h))

  pub skip_key : (st : Stack) (k : Values (Key ∷ st) → Tree) (ts : List Token) → test.no_map (first ts) ≡ true
      → running (Key ∷ st) k (set_places at ts) ≡ running st (λ v. k (None, v)) (set_places at ts)
  skip_key st k ts h = same_run st (Key ∷ st) (λ v. (None, v)) k (set_places at ts)
      (skips.skip_key_at (head (set_places at ts)) st (shift st (head (set_places at ts)) (place_of (set_places at ts)))
      (subst (λ o. test.no_map o ≡ true) (head_is ts) h))

  pub skip_where : (st : Stack) (k : Values (Where ∷ st) → Tree) (ts : List Token) → test.no_where (first ts) ≡ true
      → running (Where ∷ st) k (set_places at ts) ≡ running st (λ v. k (None, v)) (set_places at ts)
  skip_where st k ts h = same_run st (Where ∷ st) (λ v. (None, v)) k (set_places at ts)
      (skips.skip_where_at (head (set_places at ts)) st (shift st (head (set_places at ts))
      (place_of (set_places at ts))) (subst (λ o. test.no_where o ≡ true) (head_is ts) h))

  pub skip_index : (st : Stack) (k : Values (Index ∷ st) → Tree) (ts : List Token)
      → test.no_open_square (first ts) ≡ true → running (Index ∷ st) k (set_places at ts) ≡ running st
      (λ v. k (None, v)) (set_places at ts)
  skip_index st k ts h = same_run st (Index ∷ st) (λ v. (None, v)) k (set_places at ts)
      (skips.skip_index_at (head (set_places at ts)) st (shift st (head (set_places at ts))
      (place_of (set_places at ts))) (subst (λ o. test.no_open_square o ≡ true) (head_is ts) h))

  pub skip_else : (st : Stack) (k : Values (Else ∷ st) → Tree) (ts : List Token) → test.no_else (first ts) ≡ true
      → running (Else ∷ st) k (set_places at ts) ≡ running st (λ v. k (None, v)) (set_places at ts)
  skip_else st k ts h = same_run st (Else ∷ st) (λ v. (None, v)) k (set_places at ts)
      (skips.skip_else_at (head (set_places at ts)) st (shift st (head (set_places at ts))
      (place_of (set_places at ts))) (subst (λ o. test.no_else o ≡ true) (head_is ts) h))

  skip_more_cmps : (st : Stack) (k : Values (MoreCmps ∷ st) → Tree) (ts : List Token) → test.no_joint (first ts) ≡ true
      → running (MoreCmps ∷ st) k (set_places at ts) ≡ running st (λ v. k (joined.Nothing, v)) (set_places at ts)
  skip_more_cmps st k ts h = same_run st (MoreCmps ∷ st) (λ v. (joined.Nothing, v)) k (set_places at ts)
      (skips.skip_more_cmps_at (head (set_places at ts)) st (shift st (head (set_places at ts))
      (place_of (set_places at ts))) (subst (λ o. test.no_joint o ≡ true) (head_is ts) h))

  skip_ands : (st : Stack) (k : Values (Ands ∷ st) → Tree) (ts : List Token) → test.no_and (first ts) ≡ true
      → running (Ands ∷ st) k (set_places at ts) ≡ running st (λ v. k ([], v)) (set_places at ts)
  skip_ands st k ts h = same_run st (Ands ∷ st) (λ v. ([], v)) k (set_places at ts)
      (skips.skip_ands_at (head (set_places at ts)) st (shift st (head (set_places at ts))
      (place_of (set_places at ts))) (subst (λ o. test.no_and o ≡ true) (head_is ts) h))

  skip_ors : (st : Stack) (k : Values (Ors ∷ st) → Tree) (ts : List Token) → test.no_or (first ts) ≡ true
      → running (Ors ∷ st) k (set_places at ts) ≡ running st (λ v. k ([], v)) (set_places at ts)
  skip_ors st k ts h = same_run st (Ors ∷ st) (λ v. ([], v)) k (set_places at ts)
      (skips.skip_ors_at (head (set_places at ts)) st (shift st (head (set_places at ts)) (place_of (set_places at ts)))
      (subst (λ o. test.no_or o ≡ true) (head_is ts) h))

  skip_right : (st : Stack) (k : Values (Right ∷ st) → Tree) (ts : List Token) → m.no_relation (first ts) ≡ true
      → running (Right ∷ st) k (set_places at ts) ≡ running st (λ v. k (right.Nothing, v)) (set_places at ts)
  skip_right st k ts h = same_run st (Right ∷ st) (λ v. (right.Nothing, v)) k (set_places at ts)
      (skips.skip_right_at (head (set_places at ts)) st (shift st (head (set_places at ts))
      (place_of (set_places at ts))) (subst (λ o. m.no_relation o ≡ true) (head_is ts) h))

  skip_an_offset : (st : Stack) (k : Values (AnOffset ∷ st) → Tree) (ts : List Token) → test.no_sign (first ts) ≡ true
      → running (AnOffset ∷ st) k (set_places at ts) ≡ running st (λ v. k (offset.Nothing, v)) (set_places at ts)
  skip_an_offset st k ts h = same_run st (AnOffset ∷ st) (λ v. (offset.Nothing, v)) k (set_places at ts)
      (skips.skip_an_offset_at (head (set_places at ts)) st (shift st (head (set_places at ts))
      (place_of (set_places at ts))) (subst (λ o. test.no_sign o ≡ true) (head_is ts) h))

  skip_fields : (st : Stack) (k : Values (Fields ∷ st) → Tree) (ts : List Token) → test.no_dot (first ts) ≡ true
      → running (Fields ∷ st) k (set_places at ts) ≡ running st (λ v. k ([], v)) (set_places at ts)
  skip_fields st k ts h = same_run st (Fields ∷ st) (λ v. ([], v)) k (set_places at ts)
      (skips.skip_fields_at (head (set_places at ts)) st (shift st (head (set_places at ts))
      (place_of (set_places at ts))) (subst (λ o. test.no_dot o ≡ true) (head_is ts) h))

  skip_with : (st : Stack) (k : Values (With ∷ st) → Tree) (ts : List Token) → test.no_with (first ts) ≡ true
      → running (With ∷ st) k (set_places at ts) ≡ running st (λ v. k ([], v)) (set_places at ts)
  skip_with st k ts h = same_run st (With ∷ st) (λ v. ([], v)) k (set_places at ts)
      (skips.skip_with_at (head (set_places at ts)) st (shift st (head (set_places at ts))
      (place_of (set_places at ts))) (subst (λ o. test.no_with o ≡ true) (head_is ts) h))

  skip_more_sets : (st : Stack) (k : Values (MoreSets ∷ st) → Tree) (ts : List Token) → test.no_comma (first ts) ≡ true
      → running (MoreSets ∷ st) k (set_places at ts) ≡ running st (λ v. k ([], v)) (set_places at ts)
  skip_more_sets st k ts h = same_run st (MoreSets ∷ st) (λ v. ([], v)) k (set_places at ts)
      (skips.skip_more_sets_at (head (set_places at ts)) st (shift st (head (set_places at ts))
      (place_of (set_places at ts))) (subst (λ o. test.no_comma o ≡ true) (head_is ts) h))

  skip_behind_name : (st : Stack) (k : Values (BehindName ∷ st) → Tree) (ts : List Token)
      → test.no_bracket (first ts) ≡ true → running (BehindName ∷ st) k (set_places at ts) ≡ running
      st (λ v. k (after.Nothing, v)) (set_places at ts)
  skip_behind_name st k ts h = same_run st (BehindName ∷ st) (λ v. (after.Nothing, v)) k (set_places at ts)
      (skips.skip_behind_name_at (head (set_places at ts)) st (shift st (head (set_places at ts))
      (place_of (set_places at ts))) (subst (λ o. test.no_bracket o ≡ true) (head_is ts) h))

  skip_more_args : (st : Stack) (k : Values (MoreArgs ∷ st) → Tree) (ts : List Token) → test.no_comma (first ts) ≡ true
      → running (MoreArgs ∷ st) k (set_places at ts) ≡ running st (λ v. k ([], v)) (set_places at ts)
  skip_more_args st k ts h = same_run st (MoreArgs ∷ st) (λ v. ([], v)) k (set_places at ts)
      (skips.skip_more_args_at (head (set_places at ts)) st (shift st (head (set_places at ts))
      (place_of (set_places at ts))) (subst (λ o. test.no_comma o ≡ true) (head_is ts) h))

  -- Types and parts

  pub num_taken : (n : Num) → Taken ANum Always (num_form n)
  num_taken (Digits p x) = λ st k ts ok. refl
  num_taken (Negative p x) = λ st k ts ok. refl

  optional_taken : (f : Form TypeTree) → Taken AType Always f
      → Taken AType Always (node (λ a y. type.Optional a y.0)
      (word token.Option (word token.OpenRound (part f (word token.CloseRound nothing)))))
  optional_taken f h = λ st k ts ok.
      h (Exactly mark.CloseRound ∷ st)
      (λ v. k (type.Optional (at (token.Option ∷ token.OpenRound ∷ f.writes (token.CloseRound ∷ ts))) v.0, v.1.1))
      (token.CloseRound ∷ ts) tt

  abbrev GType : Type 0
  GType = (t : TypeTree) × Taken AType Always (type_form t)

  type_keeps : (y : type_layer.Type-F GType)
      → Taken AType Always (type_step (map-Type TypeTree (Form TypeTree) type_form
      (map-Type GType TypeTree (λ x. x.0) y)))
  type_keeps (type_layer.Bool p) = λ st k ts ok. refl
  type_keeps (type_layer.Named p n) = λ st k ts ok. refl
  type_keeps (type_layer.Optional p t) = optional_taken (type_form t.0) t.1

  type_case : (y : type_layer.Type-F GType)
      → Taken AType Always (type_form (roll-Type (map-Type GType TypeTree (λ x. x.0) y)))
  type_case y = subst (Taken AType Always)
      (sym (fold-roll-Type (Form TypeTree) type_step (map-Type GType TypeTree (λ x. x.0) y))) (type_keeps y)

  pub type_taken : (t : TypeTree) → Taken AType Always (type_form t)
  type_taken = ind-Type (λ t. Taken AType Always (type_form t))
      (λ x y e. subst (λ z. Taken AType Always (type_form (roll-Type z))) e (type_case y))

  pub part_taken : (p : Part) → Taken APart Always (part_form p)
  part_taken p = λ st k ts ok. type_taken p.value st
      (λ v. k (part_of (at (token.Name p.name ∷ token.Colon ∷ (type_form p.value).writes ts)) p.name v.0, v.1)) ts tt

  pub more_parts_taken : (ps : List Part) (st : Stack) (k : Values (MoreParts ∷ st) → Tree) (ts : List Token)
      → test.no_comma (first ts) ≡ true
      → running (MoreParts ∷ st) k (set_places at ((each_after token.Comma (map part_form ps)).writes ts))
      ≡ running st (λ v. k ((each_after token.Comma (map part_form ps)).placed at ts, v)) (set_places at ts)
  more_parts_taken [] st k ts h = skip_more_parts st k ts h
  more_parts_taken (p ∷ ps) st k ts h =
      part_taken p (MoreParts ∷ st) (λ v. k (v.0 ∷ v.1.0, v.1.1)) ((each_after token.Comma (map part_form ps)).writes
      ts) tt
      ∙ more_parts_taken ps st
      (λ v. k ((part_form p).placed at ((each_after token.Comma (map part_form ps)).writes ts) ∷ v.0, v.1)) ts h

  pub params_taken : (ps : List Part) (st : Stack) (k : Values (Params ∷ st) → Tree) (ts : List Token)
      → test.no_comma (first ts) ≡ true → m.no_name (first ts) ≡ true
      → running (Params ∷ st) k (set_places at ((listed (map part_form ps)).writes ts)) ≡ running st
      (λ v. k ((listed (map part_form ps)).placed at ts, v)) (set_places at ts)
  params_taken [] st k ts h i = skip_params st k ts i
  params_taken (p ∷ ps) st k ts h i =
      part_taken p (MoreParts ∷ st) (λ v. k (v.0 ∷ v.1.0, v.1.1)) ((each_after token.Comma (map part_form ps)).writes
      ts) tt
      ∙ more_parts_taken ps st
      (λ v. k ((part_form p).placed at ((each_after token.Comma (map part_form ps)).writes ts) ∷ v.0, v.1)) ts h

  pub internals_taken : (ps : List Part) (st : Stack) (k : Values (Internals ∷ st) → Tree) (ts : List Token)
      → running (Internals ∷ st) k (set_places at ((internal_form ps).writes (token.CloseRound ∷ ts)))
      ≡ running st (λ v. k ((internal_form ps).placed at (token.CloseRound ∷ ts), v))
      (set_places at (token.CloseRound ∷ ts))
  internals_taken [] st k ts = skip_internals st k (token.CloseRound ∷ ts) refl
  internals_taken (p ∷ ps) st k ts =
      part_taken p (MoreParts ∷ st) (λ v. k (v.0 ∷ v.1.0, v.1.1)) ((each_after token.Comma (map part_form ps)).writes
      (token.CloseRound ∷ ts)) tt
      ∙ more_parts_taken ps st
      (λ v. k (
        (part_form p).placed at ((each_after token.Comma (map part_form ps)).writes (token.CloseRound ∷ ts))
            ∷ v.0,
        v.1,
      )) (token.CloseRound ∷ ts) refl

  pub names_taken : (ns : List (List ℕ)) (st : Stack) (k : Values (MoreNames ∷ st) → Tree) (ts : List Token)
      → test.no_comma (first ts) ≡ true → running (MoreNames ∷ st) k (set_places at (names_after token.Comma ns ts))
      ≡ running st (λ v. k (ns, v)) (set_places at ts)
  names_taken [] st k ts h = skip_more_names st k ts h
  names_taken (n ∷ ns) st k ts h = names_taken ns st (λ v. k (n ∷ v.0, v.1)) ts h

  fields_taken : (ns : List (List ℕ)) (st : Stack) (k : Values (Fields ∷ st) → Tree) (ts : List Token)
      → test.no_dot (first ts) ≡ true → running (Fields ∷ st) k (set_places at (names_after token.Dot ns ts))
      ≡ running st (λ v. k (ns, v)) (set_places at ts)
  fields_taken [] st k ts h = skip_fields st k ts h
  fields_taken (n ∷ ns) st k ts h = fields_taken ns st (λ v. k (n ∷ v.0, v.1)) ts h

  -- Expressions

  abbrev pub GoodExpr : Form Expr → Type 0
  GoodExpr = Good AnExpr (Above 6) begins

  abbrev GoodCmp : Form Cmp → Type 0
  GoodCmp = Good ACmp (Above 5) begins

  abbrev GoodSum : Form Sum → Type 0
  GoodSum = Good ASum (Above 4) begins

  abbrev GoodUnary : Form Unary → Type 0
  GoodUnary = Good AUnary (Above 3) begins

  abbrev GoodPost : Form Post → Type 0
  GoodPost = Good APost (Above 3) begins_post

  abbrev GoodPrim : Form Primary → Type 0
  GoodPrim = Good APrim (Above 1) begins_post

  abbrev GoodSet : Form Set → Type 0
  GoodSet = Taken ASet (Above 6)

  open_args : (st : Stack) (k : Values (Args ∷ st) → Tree) (ts : List Token) → begins (first ts) ≡ true
      → running (Args ∷ st) k (set_places at ts) ≡ running (AnExpr ∷ MoreArgs ∷ Exactly mark.CloseRound ∷ st)
      (λ v. k (v.0 ∷ v.1.0, v.1.1.1)) (set_places at ts)
  open_args st k ts h = same_run (AnExpr ∷ MoreArgs ∷ Exactly mark.CloseRound ∷ st) (Args ∷ st)
      (λ v. (v.0 ∷ v.1.0, v.1.1.1)) k (set_places at ts) (args_at_some (head (set_places at ts))
      (place_of (set_places at ts)) st (subst (λ o. begins o ≡ true) (head_is ts) h))
    where
      args_at_some : (o : Option Token) (p : Place) (st : Stack) → begins o ≡ true
          → m.args_at o p st ≡ mapped (λ v. (v.0 ∷ v.1.0, v.1.1.1))
          (m.expr_at o p (MoreArgs ∷ Exactly mark.CloseRound ∷ st))
      args_at_some (Some token.CloseRound) p st h = cc
      args_at_some o p st h = refl

  more_args_taken : (fs : List (Form Expr)) → Each GoodExpr fs → (st : Stack) (k : Values (MoreArgs ∷ st)
      → Tree) (ts : List Token) → running (MoreArgs ∷ st) k
      (set_places at ((each_after token.Comma fs).writes (token.CloseRound ∷ ts))) ≡ running st
      (λ v. k ((each_after token.Comma fs).placed at (token.CloseRound ∷ ts), v))
      (set_places at (token.CloseRound ∷ ts))
  more_args_taken [] each st k ts = skip_more_args st k (token.CloseRound ∷ ts) refl
  more_args_taken (f ∷ fs) each st k ts =
      each.0.taken (MoreArgs ∷ st) (λ v. k (v.0 ∷ v.1.0, v.1.1)) ((each_after token.Comma fs).writes
      (token.CloseRound ∷ ts)) (commas_high fs (token.CloseRound ∷ ts) (lit< tt))
      ∙ more_args_taken fs each.1 st
      (λ v. k (f.placed at ((each_after token.Comma fs).writes (token.CloseRound ∷ ts)) ∷ v.0, v.1)) ts

  args_taken : (fs : List (Form Expr)) → Each GoodExpr fs → (st : Stack) (k : Values (Args ∷ st)
      → Tree) (ts : List Token) → running (Args ∷ st) k (set_places at ((listed fs).writes (token.CloseRound ∷ ts)))
      ≡ running st (λ v. k ((listed fs).placed at (token.CloseRound ∷ ts), v)) (set_places at ts)
  args_taken [] each st k ts = refl
  args_taken (f ∷ fs) each st k ts =
      open_args st k (f.writes ((each_after token.Comma fs).writes (token.CloseRound ∷ ts)))
      (each.0.starts ((each_after token.Comma fs).writes (token.CloseRound ∷ ts)))
      ∙ each.0.taken (MoreArgs ∷ Exactly mark.CloseRound ∷ st) (λ v. k (v.0 ∷ v.1.0, v.1.1.1))
      ((each_after token.Comma fs).writes (token.CloseRound ∷ ts)) (commas_high fs (token.CloseRound ∷ ts)
      (lit< tt))
      ∙ more_args_taken fs each.1 (Exactly mark.CloseRound ∷ st)
      (λ v. k (f.placed at ((each_after token.Comma fs).writes (token.CloseRound ∷ ts)) ∷ v.0, v.1.1)) ts

  more_sets_taken : (fs : List (Form Set)) → Each GoodSet fs → (st : Stack) (k : Values (MoreSets ∷ st)
      → Tree) (ts : List Token) → running (MoreSets ∷ st) k
      (set_places at ((each_after token.Comma fs).writes (token.CloseCurly ∷ ts))) ≡ running st
      (λ v. k ((each_after token.Comma fs).placed at (token.CloseCurly ∷ ts), v))
      (set_places at (token.CloseCurly ∷ ts))
  more_sets_taken [] each st k ts = skip_more_sets st k (token.CloseCurly ∷ ts) refl
  more_sets_taken (f ∷ fs) each st k ts =
      each.0 (MoreSets ∷ st) (λ v. k (v.0 ∷ v.1.0, v.1.1)) ((each_after token.Comma fs).writes (token.CloseCurly ∷ ts))
      (commas_high fs (token.CloseCurly ∷ ts) (lit< tt))
      ∙ more_sets_taken fs each.1 st
      (λ v. k (f.placed at ((each_after token.Comma fs).writes (token.CloseCurly ∷ ts)) ∷ v.0, v.1)) ts

  with_taken : (fs : List (Form Set)) → Each GoodSet fs → (st : Stack) (k : Values (With ∷ st) → Tree) (ts : List Token)
      → 3 < rank (first ts) → running (With ∷ st) k (set_places at ((sets_form fs).writes ts))
      ≡ running st (λ v. k ((sets_form fs).placed at ts, v)) (set_places at ts)
  with_taken [] each st k ts h = skip_with st k ts (high_with (first ts) h)
  with_taken (f ∷ fs) each st k ts h =
      each.0 (MoreSets ∷ Exactly mark.CloseCurly ∷ st) (λ v. k (v.0 ∷ v.1.0, v.1.1.1))
      ((each_after token.Comma fs).writes (token.CloseCurly ∷ ts)) (commas_high fs (token.CloseCurly ∷ ts)
      (lit< tt))
      ∙ more_sets_taken fs each.1 (Exactly mark.CloseCurly ∷ st)
      (λ v. k (f.placed at ((each_after token.Comma fs).writes (token.CloseCurly ∷ ts)) ∷ v.0, v.1.1)) ts

  prim_number : (n : Num) → GoodPrim (node (λ a y. prim.Number a y.0) (part (num_form n) nothing))
  prim_number (Digits p x) = record { taken = λ st k ts ok. refl; starts = λ ts. refl }
  prim_number (Negative p x) = record { taken = λ st k ts ok. refl; starts = λ ts. refl }

  prim_entry : (n : List ℕ) (f : Form Expr) → GoodExpr f
      → GoodPrim (node (λ a y. prim.Entry a n y.0)
      (word (token.Name n) (word token.OpenSquare (part f (word token.CloseSquare nothing)))))
  prim_entry n f h = record {
    taken = λ st k ts ok. h.taken (Exactly mark.CloseSquare ∷ st)
        (λ v. k (prim.Entry (at (token.Name n ∷ token.OpenSquare ∷ f.writes (token.CloseSquare ∷ ts))) n v.0, v.1.1))
        (token.CloseSquare ∷ ts) (lit< tt);
    starts = λ ts. refl;
  }

  prim_apply : (n : List ℕ) (fs : List (Form Expr)) → Each GoodExpr fs
      → GoodPrim (node (λ a y. prim.Apply a n y.0)
      (word (token.Name n) (word token.OpenRound (part (listed fs) (word token.CloseRound nothing)))))
  prim_apply n fs each = record {
    taken = λ st k ts ok. args_taken fs each st
        (λ v. k (
          prim.Apply (at (token.Name n ∷ token.OpenRound ∷ (listed fs).writes (token.CloseRound ∷ ts)))
              n v.0,
          v.1,
        )) ts;
    starts = λ ts. refl;
  }

  prim_none : (f : Form TypeTree) → Taken AType Always f
      → GoodPrim (node (λ a y. prim.NoneOf a y.0)
      (word token.Nothing (word token.OpenRound (part f (word token.CloseRound nothing)))))
  prim_none f h = record {
    taken = λ st k ts ok. h (Exactly mark.CloseRound ∷ st)
        (λ v. k (prim.NoneOf (at (token.Nothing ∷ token.OpenRound ∷ f.writes (token.CloseRound ∷ ts))) v.0, v.1.1))
        (token.CloseRound ∷ ts) tt;
    starts = λ ts. refl;
  }

  prim_some : (f : Form Expr) → GoodExpr f
      → GoodPrim (node (λ a y. prim.SomeOf a y.0)
      (word token.Something (word token.OpenRound (part f (word token.CloseRound nothing)))))
  prim_some f h = record {
    taken = λ st k ts ok. h.taken (Exactly mark.CloseRound ∷ st)
        (λ v. k (prim.SomeOf (at (token.Something ∷ token.OpenRound ∷ f.writes (token.CloseRound ∷ ts))) v.0, v.1.1))
        (token.CloseRound ∷ ts) (lit< tt);
    starts = λ ts. refl;
  }

  prim_group : (f : Form Expr) → GoodExpr f
      → GoodPrim (node (λ a y. prim.Group a y.0) (word token.OpenRound (part f (word token.CloseRound nothing))))
  prim_group f h = record {
    taken = λ st k ts ok. h.taken (Exactly mark.CloseRound ∷ st)
        (λ v. k (prim.Group (at (token.OpenRound ∷ f.writes (token.CloseRound ∷ ts))) v.0, v.1.1))
        (token.CloseRound ∷ ts) (lit< tt);
    starts = λ ts. refl;
  }

  set_good : (n : List ℕ) (f : Form Expr) → GoodExpr f
      → GoodSet (node (λ a y. set_of a n y.0) (word (token.Name n) (word token.Colon (part f nothing))))
  set_good n f h = λ st k ts ok. h.taken st (λ v. k (set_of (at (token.Name n ∷ token.Colon ∷ f.writes ts)) n v.0, v.1))
      ts ok

  fields_high : (ns : List (List ℕ)) (ts : List Token) → 2 < rank (first ts)
      → 1 < rank (first (names_after token.Dot ns ts))
  fields_high [] ts h = omega arith
  fields_high (n ∷ ns) ts h = lit< tt

  post_good : (f : Form Primary) (ns : List (List ℕ)) (fs : List (Form Set)) → GoodPrim f → Each GoodSet fs
      → GoodPost (node (λ a y. post_of a y.0 ns y.1.0)
      (part f (written (names_after token.Dot ns) (part (sets_form fs) nothing))))
  post_good f ns fs h each = record {
    taken = λ st k ts ok.
        let us : List Token = (sets_form fs).writes ts in
        let ws : List Token = names_after token.Dot ns us in
        let all : List Token = f.writes ws in
        let a : Place = place_of (set_places at all) in
        same_run (APrim ∷ Fields ∷ With ∷ st) (APost ∷ st) (λ v. (post_of a v.0 v.1.0 v.1.1.0, v.1.1.1))
        k (set_places at all) refl
        ∙ h.taken (Fields ∷ With ∷ st) (λ v. k (post_of a v.0 v.1.0 v.1.1.0, v.1.1.1)) ws
        (fields_high ns us (sets_high fs ts ok))
        ∙ fields_taken ns (With ∷ st) (λ v. k (post_of a (f.placed at ws) v.0 v.1.0, v.1.1)) us
        (high_dot (first us) (sets_high fs ts ok))
        ∙ with_taken fs each st (λ v. k (post_of a (f.placed at ws) ns v.0, v.1)) ts ok
        ∙ ap (λ x. running st (λ v. k (post_of x (f.placed at ws) ns ((sets_form fs).placed at ts), v))
        (set_places at ts)) (first_place all);
    starts = λ ts. h.starts (names_after token.Dot ns ((sets_form fs).writes ts));
  }

  no_not_at : (o : Option Token) (p : Place) (st : Stack) → no_not o ≡ true
      → m.unary_at o p st ≡ mapped (λ v. (unary.Bare p v.0, v.1)) (m.post_at o p st)
  no_not_at (Some token.Not) p st h = cc
  no_not_at o p st h = refl

  bare_good : (f : Form Post) → GoodPost f → GoodUnary (node (λ a y. unary.Bare a y.0) (part f nothing))
  bare_good f h = record {
    taken = λ st k ts ok.
        let all : List Token = f.writes ts in
        let a : Place = place_of (set_places at all) in
        same_run (APost ∷ st) (AUnary ∷ st) (λ v. (unary.Bare a v.0, v.1)) k (set_places at all)
        (no_not_at (head (set_places at all)) a st (subst (λ o. no_not o ≡ true) (head_is all)
        (post_no_not (first all) (h.starts ts))))
        ∙ h.taken st (λ v. k (unary.Bare a v.0, v.1)) ts ok
        ∙ ap (λ x. running st (λ v. k (unary.Bare x (f.placed at ts), v)) (set_places at ts)) (first_place all);
    starts = λ ts. post_begins (first (f.writes ts)) (h.starts ts);
  }

  not_good : (f : Form Post) → GoodPost f → GoodUnary (node (λ a y. unary.Not a y.0) (word token.Not (part f nothing)))
  not_good f h = record {
    taken = λ st k ts ok. h.taken st (λ v. k (unary.Not (at (token.Not ∷ f.writes ts)) v.0, v.1)) ts ok;
    starts = λ ts. refl;
  }

  term_good : (f : Form Unary) → GoodUnary f → GoodSum (node (λ a y. sum.Term a y.0) (part f nothing))
  term_good f h = record {
    taken = λ st k ts ok.
        let all : List Token = f.writes ts in
        let a : Place = place_of (set_places at all) in
        same_run (AUnary ∷ AnOffset ∷ st) (ASum ∷ st) (λ v. (sum_of a v.0 v.1.0, v.1.1)) k (set_places at all) refl
        ∙ h.taken (AnOffset ∷ st) (λ v. k (sum_of a v.0 v.1.0, v.1.1)) ts (omega arith)
        ∙ skip_an_offset st (λ v. k (sum_of a (f.placed at ts) v.0, v.1)) ts (high_sign (first ts) ok)
        ∙ ap (λ x. running st (λ v. k (sum.Term x (f.placed at ts), v)) (set_places at ts)) (first_place all);
    starts = h.starts;
  }

  plus_good : (f : Form Unary) (n : ℕ) → GoodUnary f
      → GoodSum (node (λ a y. sum.Plus a y.0 n) (part f (word token.Plus (word (token.Number n) nothing))))
  plus_good f n h = record {
    taken = λ st k ts ok.
        let us : List Token = token.Plus ∷ token.Number n ∷ ts in
        let all : List Token = f.writes us in
        let a : Place = place_of (set_places at all) in
        same_run (AUnary ∷ AnOffset ∷ st) (ASum ∷ st) (λ v. (sum_of a v.0 v.1.0, v.1.1)) k (set_places at all) refl
        ∙ h.taken (AnOffset ∷ st) (λ v. k (sum_of a v.0 v.1.0, v.1.1)) us (lit< tt)
        ∙ ap (λ x. running st (λ v. k (sum.Plus x (f.placed at us) n, v)) (set_places at ts)) (first_place all);
    starts = λ ts. h.starts (token.Plus ∷ token.Number n ∷ ts);
  }

  minus_good : (f : Form Unary) (n : ℕ) → GoodUnary f
      → GoodSum (node (λ a y. sum.Minus a y.0 n) (part f (word token.Minus (word (token.Number n) nothing))))
  minus_good f n h = record {
    taken = λ st k ts ok.
        let us : List Token = token.Minus ∷ token.Number n ∷ ts in
        let all : List Token = f.writes us in
        let a : Place = place_of (set_places at all) in
        same_run (AUnary ∷ AnOffset ∷ st) (ASum ∷ st) (λ v. (sum_of a v.0 v.1.0, v.1.1)) k (set_places at all) refl
        ∙ h.taken (AnOffset ∷ st) (λ v. k (sum_of a v.0 v.1.0, v.1.1)) us (lit< tt)
        ∙ ap (λ x. running st (λ v. k (sum.Minus x (f.placed at us) n, v)) (set_places at ts)) (first_place all);
    starts = λ ts. h.starts (token.Minus ∷ token.Number n ∷ ts);
  }

  side_good : (f : Form Sum) → GoodSum f → GoodCmp (node (λ a y. cmp.Side a y.0) (part f nothing))
  side_good f h = record {
    taken = λ st k ts ok.
        let all : List Token = f.writes ts in
        let a : Place = place_of (set_places at all) in
        same_run (ASum ∷ Right ∷ st) (ACmp ∷ st) (λ v. (cmp_of a v.0 v.1.0, v.1.1)) k (set_places at all) refl
        ∙ h.taken (Right ∷ st) (λ v. k (cmp_of a v.0 v.1.0, v.1.1)) ts (omega arith)
        ∙ skip_right st (λ v. k (cmp_of a (f.placed at ts) v.0, v.1)) ts (high_relation (first ts) ok)
        ∙ ap (λ x. running st (λ v. k (cmp.Side x (f.placed at ts), v)) (set_places at ts)) (first_place all);
    starts = h.starts;
  }

  right_taken : (r : Relation) (st : Stack) (k : Values (Right ∷ st) → Tree) (ts : List Token)
      → running (Right ∷ st) k (set_places at (relation_token r ∷ ts)) ≡ running (ASum ∷ st)
      (λ v. k (right.Related r v.0, v.1)) (set_places at ts)
  right_taken relation.Equal st k ts = refl
  right_taken relation.NotEqual st k ts = refl
  right_taken relation.Less st k ts = refl
  right_taken relation.AtMost st k ts = refl
  right_taken relation.Greater st k ts = refl
  right_taken relation.AtLeast st k ts = refl

  compared_good : (f : Form Sum) (r : Relation) (g : Form Sum) → GoodSum f → GoodSum g
      → GoodCmp (node (λ a y. cmp.Compared a y.0 r y.1.0) (part f (word (relation_token r) (part g nothing))))
  compared_good f r g h i = record {
    taken = λ st k ts ok.
        let us : List Token = relation_token r ∷ g.writes ts in
        let all : List Token = f.writes us in
        let a : Place = place_of (set_places at all) in
        same_run (ASum ∷ Right ∷ st) (ACmp ∷ st) (λ v. (cmp_of a v.0 v.1.0, v.1.1)) k (set_places at all) refl
        ∙ h.taken (Right ∷ st) (λ v. k (cmp_of a v.0 v.1.0, v.1.1)) us (relation_high r)
        ∙ right_taken r st (λ v. k (cmp_of a (f.placed at us) v.0, v.1)) (g.writes ts)
        ∙ i.taken st (λ v. k (cmp.Compared a (f.placed at us) r v.0, v.1)) ts (omega arith)
        ∙ ap (λ x. running st (λ v. k (cmp.Compared x (f.placed at us) r (g.placed at ts), v)) (set_places at ts))
        (first_place all);
    starts = λ ts. h.starts (relation_token r ∷ g.writes ts);
  }

  single_good : (f : Form Cmp) → GoodCmp f → GoodExpr (node (λ a y. expr.Single a y.0) (part f nothing))
  single_good f h = record {
    taken = λ st k ts ok.
        let all : List Token = f.writes ts in
        let a : Place = place_of (set_places at all) in
        same_run (ACmp ∷ MoreCmps ∷ st) (AnExpr ∷ st) (λ v. (expr_of a v.0 v.1.0, v.1.1)) k (set_places at all) refl
        ∙ h.taken (MoreCmps ∷ st) (λ v. k (expr_of a v.0 v.1.0, v.1.1)) ts (omega arith)
        ∙ skip_more_cmps st (λ v. k (expr_of a (f.placed at ts) v.0, v.1)) ts (high_joint (first ts) ok)
        ∙ ap (λ x. running st (λ v. k (expr.Single x (f.placed at ts), v)) (set_places at ts)) (first_place all);
    starts = h.starts;
  }

  ands_high : (fs : List (Form Cmp)) (ts : List Token) → 6 < rank (first ts)
      → 5 < rank (first ((each_after token.And fs).writes ts))
  ands_high [] ts h = omega arith
  ands_high (f ∷ fs) ts h = lit< tt

  ands_taken : (fs : List (Form Cmp)) → Each GoodCmp fs → (st : Stack) (k : Values (Ands ∷ st) → Tree) (ts : List Token)
      → 6 < rank (first ts) → running (Ands ∷ st) k (set_places at ((each_after token.And fs).writes ts))
      ≡ running st (λ v. k ((each_after token.And fs).placed at ts, v)) (set_places at ts)
  ands_taken [] each st k ts h = skip_ands st k ts (high_and (first ts) h)
  ands_taken (f ∷ fs) each st k ts h =
      each.0.taken (Ands ∷ st) (λ v. k (v.0 ∷ v.1.0, v.1.1)) ((each_after token.And fs).writes ts) (ands_high fs ts h)
      ∙ ands_taken fs each.1 st (λ v. k (f.placed at ((each_after token.And fs).writes ts) ∷ v.0, v.1)) ts h

  all_good : (f g : Form Cmp) (fs : List (Form Cmp)) → GoodCmp f → GoodCmp g → Each GoodCmp fs
      → GoodExpr (node (λ a y. expr.All a y.0 y.1.0 y.1.1.0)
      (part f (word token.And (part g (part (each_after token.And fs) nothing)))))
  all_good f g fs h i each = record {
    taken = λ st k ts ok.
        let us : List Token = (each_after token.And fs).writes ts in
        let ws : List Token = token.And ∷ g.writes us in
        let all : List Token = f.writes ws in
        let a : Place = place_of (set_places at all) in
        same_run (ACmp ∷ MoreCmps ∷ st) (AnExpr ∷ st) (λ v. (expr_of a v.0 v.1.0, v.1.1)) k (set_places at all) refl
        ∙ h.taken (MoreCmps ∷ st) (λ v. k (expr_of a v.0 v.1.0, v.1.1)) ws (lit< tt)
        ∙ i.taken (Ands ∷ st) (λ v. k (expr.All a (f.placed at ws) v.0 v.1.0, v.1.1)) us (ands_high fs ts ok)
        ∙ ands_taken fs each st (λ v. k (expr.All a (f.placed at ws) (g.placed at us) v.0, v.1)) ts ok
        ∙ ap (λ x. running st
        (λ v. k (expr.All x (f.placed at ws) (g.placed at us) ((each_after token.And fs).placed at ts), v))
        (set_places at ts)) (first_place all);
    starts = λ ts. h.starts (token.And ∷ g.writes ((each_after token.And fs).writes ts));
  }

  ors_high : (fs : List (Form Cmp)) (ts : List Token) → 6 < rank (first ts)
      → 5 < rank (first ((each_after token.Or fs).writes ts))
  ors_high [] ts h = omega arith
  ors_high (f ∷ fs) ts h = lit< tt

  ors_taken : (fs : List (Form Cmp)) → Each GoodCmp fs → (st : Stack) (k : Values (Ors ∷ st) → Tree) (ts : List Token)
      → 6 < rank (first ts) → running (Ors ∷ st) k (set_places at ((each_after token.Or fs).writes ts))
      ≡ running st (λ v. k ((each_after token.Or fs).placed at ts, v)) (set_places at ts)
  ors_taken [] each st k ts h = skip_ors st k ts (high_or (first ts) h)
  ors_taken (f ∷ fs) each st k ts h =
      each.0.taken (Ors ∷ st) (λ v. k (v.0 ∷ v.1.0, v.1.1)) ((each_after token.Or fs).writes ts) (ors_high fs ts h)
      ∙ ors_taken fs each.1 st (λ v. k (f.placed at ((each_after token.Or fs).writes ts) ∷ v.0, v.1)) ts h

  any_good : (f g : Form Cmp) (fs : List (Form Cmp)) → GoodCmp f → GoodCmp g → Each GoodCmp fs
      → GoodExpr (node (λ a y. expr.Any a y.0 y.1.0 y.1.1.0)
      (part f (word token.Or (part g (part (each_after token.Or fs) nothing)))))
  any_good f g fs h i each = record {
    taken = λ st k ts ok.
        let us : List Token = (each_after token.Or fs).writes ts in
        let ws : List Token = token.Or ∷ g.writes us in
        let all : List Token = f.writes ws in
        let a : Place = place_of (set_places at all) in
        same_run (ACmp ∷ MoreCmps ∷ st) (AnExpr ∷ st) (λ v. (expr_of a v.0 v.1.0, v.1.1)) k (set_places at all) refl
        ∙ h.taken (MoreCmps ∷ st) (λ v. k (expr_of a v.0 v.1.0, v.1.1)) ws (lit< tt)
        ∙ i.taken (Ors ∷ st) (λ v. k (expr.Any a (f.placed at ws) v.0 v.1.0, v.1.1)) us (ors_high fs ts ok)
        ∙ ors_taken fs each st (λ v. k (expr.Any a (f.placed at ws) (g.placed at us) v.0, v.1)) ts ok
        ∙ ap (λ x. running st
        (λ v. k (expr.Any x (f.placed at ws) (g.placed at us) ((each_after token.Or fs).placed at ts), v))
        (set_places at ts)) (first_place all);
    starts = λ ts. h.starts (token.Or ∷ g.writes ((each_after token.Or fs).writes ts));
  }

  abbrev GCmp : Type 0
  GCmp = (x : Cmp) × GoodCmp (cmp_form x)

  abbrev GExpr : Type 0
  GExpr = (x : Expr) × GoodExpr (expr_form x)

  abbrev GPrim : Type 0
  GPrim = (x : Primary) × GoodPrim (prim_form x)

  abbrev GSum : Type 0
  GSum = (x : Sum) × GoodSum (sum_form x)

  abbrev GUnary : Type 0
  GUnary = (x : Unary) × GoodUnary (unary_form x)

  abbrev GPost : Type 0
  GPost = (x : Post) × GoodPost (post_form x)

  abbrev GSet : Type 0
  GSet = (x : Set) × GoodSet (set_form x)

  each_cmp : (xs : List GCmp) → Each GoodCmp (map cmp_form (map (λ x. x.0) xs))
  each_cmp [] = tt
  each_cmp (x ∷ xs) = (x.1, each_cmp xs)

  each_expr : (xs : List GExpr) → Each GoodExpr (map expr_form (map (λ x. x.0) xs))
  each_expr [] = tt
  each_expr (x ∷ xs) = (x.1, each_expr xs)

  each_set : (xs : List GSet) → Each GoodSet (map set_form (map (λ x. x.0) xs))
  each_set [] = tt
  each_set (x ∷ xs) = (x.1, each_set xs)

  cmp_keeps : (y : layer.Cmp-F GCmp GExpr GPrim GSum GUnary GPost GSet)
      → GoodCmp (cmp_step (map-Cmp Cmp Expr Primary Sum Unary Post Set (Form Cmp) (Form Expr) (Form Primary)
      (Form Sum) (Form Unary) (Form Post) (Form Set) cmp_form expr_form prim_form sum_form unary_form
      post_form set_form (map-Cmp GCmp GExpr GPrim GSum GUnary GPost GSet Cmp Expr Primary Sum Unary
      Post Set (λ x. x.0) (λ x. x.0) (λ x. x.0) (λ x. x.0) (λ x. x.0) (λ x. x.0) (λ x. x.0) y)))
  cmp_keeps (layer.Side p f) = side_good (sum_form f.0) f.1
  cmp_keeps (layer.Compared p f r g) = compared_good (sum_form f.0) r (sum_form g.0) f.1 g.1

  cmp_case : (y : layer.Cmp-F GCmp GExpr GPrim GSum GUnary GPost GSet)
      → GoodCmp (cmp_form (roll-Cmp (map-Cmp GCmp GExpr GPrim GSum GUnary GPost GSet Cmp Expr Primary
      Sum Unary Post Set (λ x. x.0) (λ x. x.0) (λ x. x.0) (λ x. x.0) (λ x. x.0) (λ x. x.0) (λ x. x.0) y)))
  cmp_case y = subst GoodCmp (sym (fold-roll-Cmp (Form Cmp) (Form Expr) (Form Primary) (Form Sum) (Form Unary)
      (Form Post) (Form Set) cmp_step expr_step prim_step sum_step unary_step post_step set_step
      (map-Cmp GCmp GExpr GPrim GSum GUnary GPost GSet Cmp Expr Primary Sum Unary Post Set (λ x. x.0)
      (λ x. x.0) (λ x. x.0) (λ x. x.0) (λ x. x.0) (λ x. x.0) (λ x. x.0) y))) (cmp_keeps y)

  expr_keeps : (y : layer.Expr-F GCmp GExpr GPrim GSum GUnary GPost GSet)
      → GoodExpr (expr_step (map-Expr Cmp Expr Primary Sum Unary Post Set (Form Cmp) (Form Expr) (Form Primary)
      (Form Sum) (Form Unary) (Form Post) (Form Set) cmp_form expr_form prim_form sum_form unary_form
      post_form set_form (map-Expr GCmp GExpr GPrim GSum GUnary GPost GSet Cmp Expr Primary Sum Unary
      Post Set (λ x. x.0) (λ x. x.0) (λ x. x.0) (λ x. x.0) (λ x. x.0) (λ x. x.0) (λ x. x.0) y)))
  expr_keeps (layer.Single p f) = single_good (cmp_form f.0) f.1
  expr_keeps (layer.All p f g fs) = all_good (cmp_form f.0) (cmp_form g.0) (map cmp_form (map (λ x. x.0) fs))
      f.1 g.1 (each_cmp fs)
  expr_keeps (layer.Any p f g fs) = any_good (cmp_form f.0) (cmp_form g.0) (map cmp_form (map (λ x. x.0) fs))
      f.1 g.1 (each_cmp fs)

  expr_case : (y : layer.Expr-F GCmp GExpr GPrim GSum GUnary GPost GSet)
      → GoodExpr (expr_form (roll-Expr (map-Expr GCmp GExpr GPrim GSum GUnary GPost GSet Cmp Expr Primary
      Sum Unary Post Set (λ x. x.0) (λ x. x.0) (λ x. x.0) (λ x. x.0) (λ x. x.0) (λ x. x.0) (λ x. x.0) y)))
  expr_case y = subst GoodExpr (sym (fold-roll-Expr (Form Cmp) (Form Expr) (Form Primary) (Form Sum)
      (Form Unary) (Form Post) (Form Set) cmp_step expr_step prim_step sum_step unary_step post_step
      set_step (map-Expr GCmp GExpr GPrim GSum GUnary GPost GSet Cmp Expr Primary Sum Unary Post Set
      (λ x. x.0) (λ x. x.0) (λ x. x.0) (λ x. x.0) (λ x. x.0) (λ x. x.0) (λ x. x.0) y))) (expr_keeps y)

  prim_keeps : (y : layer.Primary-F GCmp GExpr GPrim GSum GUnary GPost GSet)
      → GoodPrim (prim_step (map-Primary Cmp Expr Primary Sum Unary Post Set (Form Cmp) (Form Expr) (Form Primary)
      (Form Sum) (Form Unary) (Form Post) (Form Set) cmp_form expr_form prim_form sum_form unary_form
      post_form set_form (map-Primary GCmp GExpr GPrim GSum GUnary GPost GSet Cmp Expr Primary Sum Unary
      Post Set (λ x. x.0) (λ x. x.0) (λ x. x.0) (λ x. x.0) (λ x. x.0) (λ x. x.0) (λ x. x.0) y)))
  prim_keeps (layer.Number p n) = prim_number n
  prim_keeps (layer.True p) = record { taken = λ st k ts ok. refl; starts = λ ts. refl }
  prim_keeps (layer.False p) = record { taken = λ st k ts ok. refl; starts = λ ts. refl }
  prim_keeps (layer.It p) = record { taken = λ st k ts ok. refl; starts = λ ts. refl }
  prim_keeps (layer.Name p n) = record {
    taken = λ st k ts ok. skip_behind_name st
        (λ v. k (after_name (at (token.Name n ∷ ts)) n v.0, v.1)) ts (high_bracket (first ts) ok);
    starts = λ ts. refl;
  }
  prim_keeps (layer.Entry p n e) = prim_entry n (expr_form e.0) e.1
  prim_keeps (layer.Apply p n es) = prim_apply n (map expr_form (map (λ x. x.0) es)) (each_expr es)
  prim_keeps (layer.NoneOf p t) = prim_none (type_form t) (type_taken t)
  prim_keeps (layer.SomeOf p e) = prim_some (expr_form e.0) e.1
  prim_keeps (layer.Group p e) = prim_group (expr_form e.0) e.1

  prim_case : (y : layer.Primary-F GCmp GExpr GPrim GSum GUnary GPost GSet)
      → GoodPrim (prim_form (roll-Primary (map-Primary GCmp GExpr GPrim GSum GUnary GPost GSet Cmp Expr
      Primary Sum Unary Post Set (λ x. x.0) (λ x. x.0) (λ x. x.0) (λ x. x.0) (λ x. x.0) (λ x. x.0) (λ x. x.0) y)))
  prim_case y = subst GoodPrim (sym (fold-roll-Primary (Form Cmp) (Form Expr) (Form Primary) (Form Sum)
      (Form Unary) (Form Post) (Form Set) cmp_step expr_step prim_step sum_step unary_step post_step
      set_step (map-Primary GCmp GExpr GPrim GSum GUnary GPost GSet Cmp Expr Primary Sum Unary Post Set
      (λ x. x.0) (λ x. x.0) (λ x. x.0) (λ x. x.0) (λ x. x.0) (λ x. x.0) (λ x. x.0) y))) (prim_keeps y)

  sum_keeps : (y : layer.Sum-F GCmp GExpr GPrim GSum GUnary GPost GSet)
      → GoodSum (sum_step (map-Sum Cmp Expr Primary Sum Unary Post Set (Form Cmp) (Form Expr) (Form Primary)
      (Form Sum) (Form Unary) (Form Post) (Form Set) cmp_form expr_form prim_form sum_form unary_form
      post_form set_form (map-Sum GCmp GExpr GPrim GSum GUnary GPost GSet Cmp Expr Primary Sum Unary
      Post Set (λ x. x.0) (λ x. x.0) (λ x. x.0) (λ x. x.0) (λ x. x.0) (λ x. x.0) (λ x. x.0) y)))
  sum_keeps (layer.Term p f) = term_good (unary_form f.0) f.1
  sum_keeps (layer.Plus p f n) = plus_good (unary_form f.0) n f.1
  sum_keeps (layer.Minus p f n) = minus_good (unary_form f.0) n f.1

  sum_case : (y : layer.Sum-F GCmp GExpr GPrim GSum GUnary GPost GSet)
      → GoodSum (sum_form (roll-Sum (map-Sum GCmp GExpr GPrim GSum GUnary GPost GSet Cmp Expr Primary
      Sum Unary Post Set (λ x. x.0) (λ x. x.0) (λ x. x.0) (λ x. x.0) (λ x. x.0) (λ x. x.0) (λ x. x.0) y)))
  sum_case y = subst GoodSum (sym (fold-roll-Sum (Form Cmp) (Form Expr) (Form Primary) (Form Sum) (Form Unary)
      (Form Post) (Form Set) cmp_step expr_step prim_step sum_step unary_step post_step set_step
      (map-Sum GCmp GExpr GPrim GSum GUnary GPost GSet Cmp Expr Primary Sum Unary Post Set (λ x. x.0)
      (λ x. x.0) (λ x. x.0) (λ x. x.0) (λ x. x.0) (λ x. x.0) (λ x. x.0) y))) (sum_keeps y)

  unary_keeps : (y : layer.Unary-F GCmp GExpr GPrim GSum GUnary GPost GSet)
      → GoodUnary (unary_step (map-Unary Cmp Expr Primary Sum Unary Post Set (Form Cmp) (Form Expr) (Form Primary)
      (Form Sum) (Form Unary) (Form Post) (Form Set) cmp_form expr_form prim_form sum_form unary_form
      post_form set_form (map-Unary GCmp GExpr GPrim GSum GUnary GPost GSet Cmp Expr Primary Sum Unary
      Post Set (λ x. x.0) (λ x. x.0) (λ x. x.0) (λ x. x.0) (λ x. x.0) (λ x. x.0) (λ x. x.0) y)))
  unary_keeps (layer.Bare p f) = bare_good (post_form f.0) f.1
  unary_keeps (layer.Not p f) = not_good (post_form f.0) f.1

  unary_case : (y : layer.Unary-F GCmp GExpr GPrim GSum GUnary GPost GSet)
      → GoodUnary (unary_form (roll-Unary (map-Unary GCmp GExpr GPrim GSum GUnary GPost GSet Cmp Expr
      Primary Sum Unary Post Set (λ x. x.0) (λ x. x.0) (λ x. x.0) (λ x. x.0) (λ x. x.0) (λ x. x.0) (λ x. x.0) y)))
  unary_case y = subst GoodUnary (sym (fold-roll-Unary (Form Cmp) (Form Expr) (Form Primary) (Form Sum)
      (Form Unary) (Form Post) (Form Set) cmp_step expr_step prim_step sum_step unary_step post_step
      set_step (map-Unary GCmp GExpr GPrim GSum GUnary GPost GSet Cmp Expr Primary Sum Unary Post Set
      (λ x. x.0) (λ x. x.0) (λ x. x.0) (λ x. x.0) (λ x. x.0) (λ x. x.0) (λ x. x.0) y))) (unary_keeps y)

  post_keeps : (y : layer.Post-F GCmp GExpr GPrim GSum GUnary GPost GSet)
      → GoodPost (post_step (map-Post Cmp Expr Primary Sum Unary Post Set (Form Cmp) (Form Expr) (Form Primary)
      (Form Sum) (Form Unary) (Form Post) (Form Set) cmp_form expr_form prim_form sum_form unary_form
      post_form set_form (map-Post GCmp GExpr GPrim GSum GUnary GPost GSet Cmp Expr Primary Sum Unary
      Post Set (λ x. x.0) (λ x. x.0) (λ x. x.0) (λ x. x.0) (λ x. x.0) (λ x. x.0) (λ x. x.0) y)))
  post_keeps y = post_good (prim_form y.prim.0) y.fields (map set_form (map (λ x. x.0) y.sets)) y.prim.1
      (each_set y.sets)

  post_case : (y : layer.Post-F GCmp GExpr GPrim GSum GUnary GPost GSet)
      → GoodPost (post_form (roll-Post (map-Post GCmp GExpr GPrim GSum GUnary GPost GSet Cmp Expr Primary
      Sum Unary Post Set (λ x. x.0) (λ x. x.0) (λ x. x.0) (λ x. x.0) (λ x. x.0) (λ x. x.0) (λ x. x.0) y)))
  post_case y = subst GoodPost (sym (fold-roll-Post (Form Cmp) (Form Expr) (Form Primary) (Form Sum)
      (Form Unary) (Form Post) (Form Set) cmp_step expr_step prim_step sum_step unary_step post_step
      set_step (map-Post GCmp GExpr GPrim GSum GUnary GPost GSet Cmp Expr Primary Sum Unary Post Set
      (λ x. x.0) (λ x. x.0) (λ x. x.0) (λ x. x.0) (λ x. x.0) (λ x. x.0) (λ x. x.0) y))) (post_keeps y)

  set_keeps : (y : layer.Set-F GCmp GExpr GPrim GSum GUnary GPost GSet)
      → GoodSet (set_step (map-Set Cmp Expr Primary Sum Unary Post Set (Form Cmp) (Form Expr) (Form Primary)
      (Form Sum) (Form Unary) (Form Post) (Form Set) cmp_form expr_form prim_form sum_form unary_form
      post_form set_form (map-Set GCmp GExpr GPrim GSum GUnary GPost GSet Cmp Expr Primary Sum Unary
      Post Set (λ x. x.0) (λ x. x.0) (λ x. x.0) (λ x. x.0) (λ x. x.0) (λ x. x.0) (λ x. x.0) y)))
  set_keeps y = set_good y.field (expr_form y.value.0) y.value.1

  set_case : (y : layer.Set-F GCmp GExpr GPrim GSum GUnary GPost GSet)
      → GoodSet (set_form (roll-Set (map-Set GCmp GExpr GPrim GSum GUnary GPost GSet Cmp Expr Primary
      Sum Unary Post Set (λ x. x.0) (λ x. x.0) (λ x. x.0) (λ x. x.0) (λ x. x.0) (λ x. x.0) (λ x. x.0) y)))
  set_case y = subst GoodSet (sym (fold-roll-Set (Form Cmp) (Form Expr) (Form Primary) (Form Sum) (Form Unary)
      (Form Post) (Form Set) cmp_step expr_step prim_step sum_step unary_step post_step set_step
      (map-Set GCmp GExpr GPrim GSum GUnary GPost GSet Cmp Expr Primary Sum Unary Post Set (λ x. x.0)
      (λ x. x.0) (λ x. x.0) (λ x. x.0) (λ x. x.0) (λ x. x.0) (λ x. x.0) y))) (set_keeps y)

  pub expr_good : (e : Expr) → GoodExpr (expr_form e)
  expr_good = ind-Expr (λ x. GoodCmp (cmp_form x)) (λ x. GoodExpr (expr_form x)) (λ x. GoodPrim (prim_form x))
      (λ x. GoodSum (sum_form x)) (λ x. GoodUnary (unary_form x)) (λ x. GoodPost (post_form x))
      (λ x. GoodSet (set_form x)) (λ x y is. subst (λ z. GoodCmp (cmp_form (roll-Cmp z))) is (cmp_case y))
      (λ x y is. subst (λ z. GoodExpr (expr_form (roll-Expr z))) is (expr_case y))
      (λ x y is. subst (λ z. GoodPrim (prim_form (roll-Primary z))) is (prim_case y))
      (λ x y is. subst (λ z. GoodSum (sum_form (roll-Sum z))) is (sum_case y))
      (λ x y is. subst (λ z. GoodUnary (unary_form (roll-Unary z))) is (unary_case y))
      (λ x y is. subst (λ z. GoodPost (post_form (roll-Post z))) is (post_case y))
      (λ x y is. subst (λ z. GoodSet (set_form (roll-Set z))) is (set_case y))
