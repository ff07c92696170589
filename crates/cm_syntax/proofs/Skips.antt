-- A tail is empty where the next token does not begin it.
use Rattle.std.proofs.Common.{◌≡◌, true, [], ◌∷◌, Option, Some, None, refl}
use Rattle.cm_model.specs.declared.place.Place.{Place}
use Rattle.cm_tokens.specs.declared.token.Token.{Token}
use Rattle.cm_tokens.specs.declared.token.Token.TheVariants as token
use Rattle.cm_syntax.specs.declared.tree.Primary.{Primary}
use Rattle.cm_syntax.specs.declared.tails.AfterName.TheVariants as after
use Rattle.cm_syntax.specs.declared.tails.Offset.TheVariants as offset
use Rattle.cm_syntax.specs.declared.tails.RightSide.TheVariants as right
use Rattle.cm_syntax.specs.declared.tails.Joined.TheVariants as joined
use Rattle.cm_syntax.specs.Text.{place_of}
use Rattle.cm_syntax.specs.inner.Machine as m
use Rattle.cm_syntax.specs.inner.Machine.{Exactly, AName, ANumber, ANum, AType, APart, MoreParts, Params, Internals}
use Rattle.cm_syntax.specs.inner.Machine.{MoreNames, Key, Where, ADecl, Decls, ABlock, Stmts, AStmt, Index, Else}
use Rattle.cm_syntax.specs.inner.Machine.{AnExpr, MoreCmps, Ands, Ors, ACmp, Right, ASum, AnOffset, AUnary, APost}
use Rattle.cm_syntax.specs.inner.Machine.{Fields, With, MoreSets, ASet, APrim, BehindName, Args, MoreArgs, Text, Stack}
use Rattle.cm_syntax.specs.inner.Machine.{Values, Shift, Takes, mapped, shift, reading, Ahead, head, Gives, Stops}
use Rattle.cm_syntax.specs.inner.Machine.{Passes, Halts, part_of, after_name, sum_of, cmp_of, expr_of, assign_of, if_of}
use Rattle.cm_syntax.specs.inner.Machine.{block_of, state_of, tree_of, starts_number, starts_name, starts_num, no_name}
use Rattle.cm_syntax.specs.inner.Machine.{no_relation, no_close_curly, no_end, no_close_round, no_not}
use Rattle.cm_syntax.proofs.Steps.{same_read}
use Rattle.cm_syntax.proofs.NextToken.{no_comma, no_semicolon, no_map, no_where, no_open_square, no_else, no_joint}
use Rattle.cm_syntax.proofs.NextToken.{no_and, no_or, no_sign, no_dot, no_with, no_bracket}

pub skip_more_parts_at : (o : Option Token) (st : Stack) (next : Shift st) → no_comma o ≡ true
    → m.more_parts_at o st next ≡ mapped (λ v. ([], v)) next
skip_more_parts_at (Some token.Comma) st next h = cc
skip_more_parts_at o st next h = refl

pub skip_more_parts : (a : Ahead) → no_comma (head a.left) ≡ true → Gives MoreParts a [] a
unfolding Gives
skip_more_parts a h = λ st k. same_read a.opened st (MoreParts ∷ st) (λ v. ([], v)) k a.left
    (skip_more_parts_at (head a.left) st (shift st (head a.left) (place_of a.left)) h)

pub skip_params_at : (o : Option Token) (p : Place) (st : Stack) (next : Shift st) → no_name o ≡ true
    → m.params_at o p st next ≡ mapped (λ v. ([], v)) next
skip_params_at (Some (token.Name n)) p st next h = cc
skip_params_at o p st next h = refl

pub skip_params : (a : Ahead) → no_name (head a.left) ≡ true → Gives Params a [] a
unfolding Gives
skip_params a h = λ st k. same_read a.opened st (Params ∷ st) (λ v. ([], v)) k a.left
    (skip_params_at (head a.left) (place_of a.left) st (shift st (head a.left) (place_of a.left)) h)

pub skip_internals_at : (o : Option Token) (st : Stack) (next : Shift st) → no_semicolon o ≡ true
    → m.internals_at o st next ≡ mapped (λ v. ([], v)) next
skip_internals_at (Some token.Semicolon) st next h = cc
skip_internals_at o st next h = refl

pub skip_internals : (a : Ahead) → no_semicolon (head a.left) ≡ true → Gives Internals a [] a
unfolding Gives
skip_internals a h = λ st k. same_read a.opened st (Internals ∷ st) (λ v. ([], v)) k a.left
    (skip_internals_at (head a.left) st (shift st (head a.left) (place_of a.left)) h)

pub skip_more_names_at : (o : Option Token) (st : Stack) (next : Shift st) → no_comma o ≡ true
    → m.more_names_at o st next ≡ mapped (λ v. ([], v)) next
skip_more_names_at (Some token.Comma) st next h = cc
skip_more_names_at o st next h = refl

pub skip_more_names : (a : Ahead) → no_comma (head a.left) ≡ true → Gives MoreNames a [] a
unfolding Gives
skip_more_names a h = λ st k. same_read a.opened st (MoreNames ∷ st) (λ v. ([], v)) k a.left
    (skip_more_names_at (head a.left) st (shift st (head a.left) (place_of a.left)) h)

pub skip_key_at : (o : Option Token) (st : Stack) (next : Shift st) → no_map o ≡ true
    → m.key_at o st next ≡ mapped (λ v. (None, v)) next
skip_key_at (Some token.Map) st next h = cc
skip_key_at o st next h = refl

pub skip_key : (a : Ahead) → no_map (head a.left) ≡ true → Gives Key a None a
unfolding Gives
skip_key a h = λ st k. same_read a.opened st (Key ∷ st) (λ v. (None, v)) k a.left
    (skip_key_at (head a.left) st (shift st (head a.left) (place_of a.left)) h)

pub skip_where_at : (o : Option Token) (st : Stack) (next : Shift st) → no_where o ≡ true
    → m.where_at o st next ≡ mapped (λ v. (None, v)) next
skip_where_at (Some token.Where) st next h = cc
skip_where_at o st next h = refl

pub skip_where : (a : Ahead) → no_where (head a.left) ≡ true → Gives Where a None a
unfolding Gives
skip_where a h = λ st k. same_read a.opened st (Where ∷ st) (λ v. (None, v)) k a.left
    (skip_where_at (head a.left) st (shift st (head a.left) (place_of a.left)) h)

pub skip_index_at : (o : Option Token) (st : Stack) (next : Shift st) → no_open_square o ≡ true
    → m.index_at o st next ≡ mapped (λ v. (None, v)) next
skip_index_at (Some token.OpenSquare) st next h = cc
skip_index_at o st next h = refl

pub skip_index : (a : Ahead) → no_open_square (head a.left) ≡ true → Gives Index a None a
unfolding Gives
skip_index a h = λ st k. same_read a.opened st (Index ∷ st) (λ v. (None, v)) k a.left
    (skip_index_at (head a.left) st (shift st (head a.left) (place_of a.left)) h)

pub skip_else_at : (o : Option Token) (st : Stack) (next : Shift st) → no_else o ≡ true
    → m.else_at o st next ≡ mapped (λ v. (None, v)) next
skip_else_at (Some token.Else) st next h = cc
skip_else_at o st next h = refl

pub skip_else : (a : Ahead) → no_else (head a.left) ≡ true → Gives Else a None a
unfolding Gives
skip_else a h = λ st k. same_read a.opened st (Else ∷ st) (λ v. (None, v)) k a.left
    (skip_else_at (head a.left) st (shift st (head a.left) (place_of a.left)) h)

pub skip_more_cmps_at : (o : Option Token) (st : Stack) (next : Shift st) → no_joint o ≡ true
    → m.more_cmps_at o st next ≡ mapped (λ v. (joined.Nothing, v)) next
skip_more_cmps_at (Some token.And) st next h = cc
skip_more_cmps_at (Some token.Or) st next h = cc
skip_more_cmps_at o st next h = refl

pub skip_more_cmps : (a : Ahead) → no_joint (head a.left) ≡ true → Gives MoreCmps a joined.Nothing a
unfolding Gives
skip_more_cmps a h = λ st k. same_read a.opened st (MoreCmps ∷ st) (λ v. (joined.Nothing, v)) k a.left
    (skip_more_cmps_at (head a.left) st (shift st (head a.left) (place_of a.left)) h)

pub skip_ands_at : (o : Option Token) (st : Stack) (next : Shift st) → no_and o ≡ true
    → m.ands_at o st next ≡ mapped (λ v. ([], v)) next
skip_ands_at (Some token.And) st next h = cc
skip_ands_at o st next h = refl

pub skip_ands : (a : Ahead) → no_and (head a.left) ≡ true → Gives Ands a [] a
unfolding Gives
skip_ands a h = λ st k. same_read a.opened st (Ands ∷ st) (λ v. ([], v)) k a.left
    (skip_ands_at (head a.left) st (shift st (head a.left) (place_of a.left)) h)

pub skip_ors_at : (o : Option Token) (st : Stack) (next : Shift st) → no_or o ≡ true
    → m.ors_at o st next ≡ mapped (λ v. ([], v)) next
skip_ors_at (Some token.Or) st next h = cc
skip_ors_at o st next h = refl

pub skip_ors : (a : Ahead) → no_or (head a.left) ≡ true → Gives Ors a [] a
unfolding Gives
skip_ors a h = λ st k. same_read a.opened st (Ors ∷ st) (λ v. ([], v)) k a.left
    (skip_ors_at (head a.left) st (shift st (head a.left) (place_of a.left)) h)

pub skip_right_at : (o : Option Token) (st : Stack) (next : Shift st) → no_relation o ≡ true
    → m.right_at o st next ≡ mapped (λ v. (right.Nothing, v)) next
skip_right_at (Some token.Equal) st next h = cc
skip_right_at (Some token.NotEqual) st next h = cc
skip_right_at (Some token.Less) st next h = cc
skip_right_at (Some token.AtMost) st next h = cc
skip_right_at (Some token.Greater) st next h = cc
skip_right_at (Some token.AtLeast) st next h = cc
skip_right_at o st next h = refl

pub skip_right : (a : Ahead) → no_relation (head a.left) ≡ true → Gives Right a right.Nothing a
unfolding Gives
skip_right a h = λ st k. same_read a.opened st (Right ∷ st) (λ v. (right.Nothing, v)) k a.left
    (skip_right_at (head a.left) st (shift st (head a.left) (place_of a.left)) h)

pub skip_an_offset_at : (o : Option Token) (st : Stack) (next : Shift st) → no_sign o ≡ true
    → m.offset_at o st next ≡ mapped (λ v. (offset.Nothing, v)) next
skip_an_offset_at (Some token.Plus) st next h = cc
skip_an_offset_at (Some token.Minus) st next h = cc
skip_an_offset_at o st next h = refl

pub skip_an_offset : (a : Ahead) → no_sign (head a.left) ≡ true → Gives AnOffset a offset.Nothing a
unfolding Gives
skip_an_offset a h = λ st k. same_read a.opened st (AnOffset ∷ st) (λ v. (offset.Nothing, v)) k a.left
    (skip_an_offset_at (head a.left) st (shift st (head a.left) (place_of a.left)) h)

pub skip_fields_at : (o : Option Token) (st : Stack) (next : Shift st) → no_dot o ≡ true
    → m.fields_at o st next ≡ mapped (λ v. ([], v)) next
skip_fields_at (Some token.Dot) st next h = cc
skip_fields_at o st next h = refl

pub skip_fields : (a : Ahead) → no_dot (head a.left) ≡ true → Gives Fields a [] a
unfolding Gives
skip_fields a h = λ st k. same_read a.opened st (Fields ∷ st) (λ v. ([], v)) k a.left
    (skip_fields_at (head a.left) st (shift st (head a.left) (place_of a.left)) h)

pub skip_with_at : (o : Option Token) (st : Stack) (next : Shift st) → no_with o ≡ true
    → m.with_at o st next ≡ mapped (λ v. ([], v)) next
skip_with_at (Some token.With) st next h = cc
skip_with_at o st next h = refl

pub skip_with : (a : Ahead) → no_with (head a.left) ≡ true → Gives With a [] a
unfolding Gives
skip_with a h = λ st k. same_read a.opened st (With ∷ st) (λ v. ([], v)) k a.left
    (skip_with_at (head a.left) st (shift st (head a.left) (place_of a.left)) h)

pub skip_more_sets_at : (o : Option Token) (st : Stack) (next : Shift st) → no_comma o ≡ true
    → m.more_sets_at o st next ≡ mapped (λ v. ([], v)) next
skip_more_sets_at (Some token.Comma) st next h = cc
skip_more_sets_at o st next h = refl

pub skip_more_sets : (a : Ahead) → no_comma (head a.left) ≡ true → Gives MoreSets a [] a
unfolding Gives
skip_more_sets a h = λ st k. same_read a.opened st (MoreSets ∷ st) (λ v. ([], v)) k a.left
    (skip_more_sets_at (head a.left) st (shift st (head a.left) (place_of a.left)) h)

pub skip_behind_name_at : (o : Option Token) (st : Stack) (next : Shift st) → no_bracket o ≡ true
    → m.behind_name_at o st next ≡ mapped (λ v. (after.Nothing, v)) next
skip_behind_name_at (Some token.OpenSquare) st next h = cc
skip_behind_name_at (Some token.OpenRound) st next h = cc
skip_behind_name_at o st next h = refl

pub skip_behind_name : (a : Ahead) → no_bracket (head a.left) ≡ true → Gives BehindName a after.Nothing a
unfolding Gives
skip_behind_name a h = λ st k. same_read a.opened st (BehindName ∷ st) (λ v. (after.Nothing, v)) k a.left
    (skip_behind_name_at (head a.left) st (shift st (head a.left) (place_of a.left)) h)

pub skip_more_args_at : (o : Option Token) (st : Stack) (next : Shift st) → no_comma o ≡ true
    → m.more_args_at o st next ≡ mapped (λ v. ([], v)) next
skip_more_args_at (Some token.Comma) st next h = cc
skip_more_args_at o st next h = refl

pub skip_more_args : (a : Ahead) → no_comma (head a.left) ≡ true → Gives MoreArgs a [] a
unfolding Gives
skip_more_args a h = λ st k. same_read a.opened st (MoreArgs ∷ st) (λ v. ([], v)) k a.left
    (skip_more_args_at (head a.left) st (shift st (head a.left) (place_of a.left)) h)
