-- How the reader's steps add up. What stands for numbers, types and parts.
use Rattle.std.proofs.Common.{◌≡◌, ℕ, true, List, ◌∷◌, Option, Some, refl, ap, ◌∙◌}
use Rattle.cm_model.specs.declared.place.Place.{Place}
use Rattle.cm_tokens.specs.declared.token.Token.{Token}
use Rattle.cm_tokens.specs.declared.token.Token.TheVariants as token
use Rattle.cm_syntax.specs.declared.mark.Mark.TheVariants as mark
use Rattle.cm_syntax.specs.declared.tree.Tree.{Tree}
use Rattle.cm_syntax.specs.declared.tree.Num.TheVariants.{Digits, Negative}
use Rattle.cm_syntax.specs.declared.tree.Part.{Part}
use Rattle.cm_syntax.specs.declared.tree.«Type».{«Type» as TypeTree}
use Rattle.cm_syntax.specs.declared.tree.«Type».TheVariants as type
use Rattle.cm_syntax.specs.declared.tree.Primary.{Primary}
use Rattle.cm_syntax.specs.declared.fault.SyntaxFault.{SyntaxFault}
use Rattle.cm_syntax.specs.Text.{place_of}
use Rattle.cm_syntax.specs.inner.Machine as m
use Rattle.cm_syntax.specs.inner.Machine.{Exactly, AName, ANumber, ANum, AType, APart, MoreParts, Params, Internals}
use Rattle.cm_syntax.specs.inner.Machine.{MoreNames, Key, Where, ADecl, Decls, ABlock, Stmts, AStmt, Index, Else}
use Rattle.cm_syntax.specs.inner.Machine.{AnExpr, MoreCmps, Ands, Ors, ACmp, Right, ASum, AnOffset, AUnary, APost}
use Rattle.cm_syntax.specs.inner.Machine.{Fields, With, MoreSets, ASet, APrim, BehindName, Args, MoreArgs, Text, Stack}
use Rattle.cm_syntax.specs.inner.Machine.{Values, Shift, Takes, mapped, shift, reading, Ahead, head, Gives, Stops}
use Rattle.cm_syntax.specs.inner.Machine.{Passes, Halts, part_of, after_name, sum_of, cmp_of, expr_of, assign_of, if_of}
use Rattle.cm_syntax.specs.inner.Machine.{block_of, state_of, tree_of, starts_number, starts_name, starts_num, no_name}
use Rattle.cm_syntax.specs.inner.Machine.{no_relation, no_close_curly, no_end, no_close_round, no_not}
use Rattle.cm_syntax.proofs.Steps.{same_read, passes_to, halts_at, stops_by, memory, reads_ok, reads_err}

at_digits : (o : Option Token) (p : Place) (st : Stack) → starts_number o ≡ true
    → m.num_at o p st ≡ mapped (λ v. (Digits p v.0, v.1)) (m.number_at o (st))
at_digits (Some (token.Number n)) p st h = refl
at_digits o p st h = cc

open_digits : (b : Ahead) (p : Place) (st : Stack) (k : Values (ANum ∷ st) → Tree) → place_of b.left ≡ p
    → starts_number (head b.left) ≡ true → reading b.opened (ANum ∷ st) k b.left ≡ reading b.opened (ANumber ∷ st)
    (λ v. k (Digits p v.0, v.1)) b.left
open_digits b p st k q w = same_read b.opened (ANumber ∷ st) (ANum ∷ st) (λ v. (Digits (place_of b.left) v.0, v.1))
    k b.left (at_digits (head b.left) (place_of b.left) st w)
    ∙ ap (λ p. reading b.opened (ANumber ∷ st) (λ v. k (Digits p v.0, v.1)) b.left) q

pub gives_digits : (b0 b1 : Ahead) (p : Place) (x0 : ℕ) → place_of b0.left ≡ p → starts_number (head b0.left) ≡ true
    → Gives ANumber b0 x0 b1 → Gives ANum b0 (Digits p x0) b1
unfolding Gives
gives_digits b0 b1 p x0 q w g0 = λ st k.
    open_digits b0 p st k q w
    ∙ g0 (st) (λ v. k (Digits p v.0, v.1))

pub stops_digits_0 : (b0 : Ahead) (p : Place) (e : SyntaxFault) → place_of b0.left ≡ p
    → starts_number (head b0.left) ≡ true → Stops ANumber b0 e → Stops ANum b0 e
stops_digits_0 b0 p e q w z = stops_by ANum ANumber b0 b0 e (λ st k. (
  (st),
  (λ v. k (Digits p v.0, v.1)),
  open_digits b0 p st k q w,
)) z

pub ruleset steps_digits = (gives_digits, stops_digits_0, memory, reads_ok, reads_err)

pub gives_negative : (a b0 b1 : Ahead) (p : Place) (x0 : ℕ) → head a.left ≡ Some token.Minus → Passes a p b0
    → Gives ANumber b0 x0 b1 → Gives ANum a (Negative p x0) b1
unfolding Gives
gives_negative a b0 b1 p x0 h q g0 = λ st k.
    passes_to ANum token.Minus a b0 p st (ANumber ∷ st) (λ v. (Negative p v.0, v.1)) h q refl k
    ∙ g0 (st) (λ v. k (Negative p v.0, v.1))

pub halts_negative : (a : Ahead) (e : SyntaxFault) → head a.left ≡ Some token.Minus → Halts a e → Stops ANum a e
halts_negative a e h q = halts_at ANum token.Minus a e h q (λ p st. (
  (ANumber ∷ st),
  (λ v. (Negative p v.0, v.1)),
  refl,
))

pub stops_negative_0 : (a b0 : Ahead) (p : Place) (e : SyntaxFault) → head a.left ≡ Some token.Minus
    → Passes a p b0 → Stops ANumber b0 e → Stops ANum a e
stops_negative_0 a b0 p e h q z = stops_by ANum ANumber a b0 e (λ st k. (
  (st),
  (λ v. k (Negative p v.0, v.1)),
  passes_to ANum token.Minus a b0 p st (ANumber ∷ st) (λ v. (Negative p v.0, v.1)) h q refl k,
)) z

pub ruleset steps_negative = (gives_negative, halts_negative, stops_negative_0, memory, reads_ok, reads_err)

pub gives_bool : (a b0 : Ahead) (p : Place) → head a.left ≡ Some token.Bool → Passes a p b0
    → Gives AType a (type.Bool p) b0
unfolding Gives
gives_bool a b0 p h q = λ st k.
    passes_to AType token.Bool a b0 p st (st) (λ v. (type.Bool p, v)) h q refl k

pub halts_bool : (a : Ahead) (e : SyntaxFault) → head a.left ≡ Some token.Bool → Halts a e → Stops AType a e
halts_bool a e h q = halts_at AType token.Bool a e h q (λ p st. ((st), (λ v. (type.Bool p, v)), refl))

pub ruleset steps_bool = (gives_bool, halts_bool, memory, reads_ok, reads_err)

at_named : (o : Option Token) (p : Place) (st : Stack) → starts_name o ≡ true
    → m.type_at o p st ≡ mapped (λ v. (type.Named p v.0, v.1)) (m.name_at o (st))
at_named (Some (token.Name n)) p st h = refl
at_named o p st h = cc

open_named : (b : Ahead) (p : Place) (st : Stack) (k : Values (AType ∷ st) → Tree) → place_of b.left ≡ p
    → starts_name (head b.left) ≡ true → reading b.opened (AType ∷ st) k b.left ≡ reading b.opened (AName ∷ st)
    (λ v. k (type.Named p v.0, v.1)) b.left
open_named b p st k q w = same_read b.opened (AName ∷ st) (AType ∷ st) (λ v. (type.Named (place_of b.left) v.0, v.1))
    k b.left (at_named (head b.left) (place_of b.left) st w)
    ∙ ap (λ p. reading b.opened (AName ∷ st) (λ v. k (type.Named p v.0, v.1)) b.left) q

pub gives_named : (b0 b1 : Ahead) (p : Place) (x0 : List ℕ) → place_of b0.left ≡ p → starts_name (head b0.left) ≡ true
    → Gives AName b0 x0 b1 → Gives AType b0 (type.Named p x0) b1
unfolding Gives
gives_named b0 b1 p x0 q w g0 = λ st k.
    open_named b0 p st k q w
    ∙ g0 (st) (λ v. k (type.Named p v.0, v.1))

pub stops_named_0 : (b0 : Ahead) (p : Place) (e : SyntaxFault) → place_of b0.left ≡ p
    → starts_name (head b0.left) ≡ true → Stops AName b0 e → Stops AType b0 e
stops_named_0 b0 p e q w z = stops_by AType AName b0 b0 e (λ st k. (
  (st),
  (λ v. k (type.Named p v.0, v.1)),
  open_named b0 p st k q w,
)) z

pub ruleset steps_named = (gives_named, stops_named_0, memory, reads_ok, reads_err)

pub gives_optional : (a b0 b1 b2 b3 : Ahead) (p : Place) (x1 : TypeTree) → head a.left ≡ Some token.Option
    → Passes a p b0 → Gives (Exactly mark.OpenRound) b0 tt b1 → Gives AType b1 x1 b2
    → Gives (Exactly mark.CloseRound) b2 tt b3 → Gives AType a (type.Optional p x1) b3
unfolding Gives
gives_optional a b0 b1 b2 b3 p x1 h q g0 g1 g2 = λ st k.
    passes_to AType token.Option a b0 p st (Exactly mark.OpenRound ∷ AType ∷ Exactly mark.CloseRound ∷ st)
    (λ v. (type.Optional p v.1.0, v.1.1.1)) h q refl k
    ∙ g0 (AType ∷ Exactly mark.CloseRound ∷ st) (λ v. k (type.Optional p v.1.0, v.1.1.1))
    ∙ g1 (Exactly mark.CloseRound ∷ st) (λ v. k (type.Optional p v.0, v.1.1))
    ∙ g2 (st) (λ v. k (type.Optional p x1, v.1))

pub halts_optional : (a : Ahead) (e : SyntaxFault) → head a.left ≡ Some token.Option → Halts a e → Stops AType a e
halts_optional a e h q = halts_at AType token.Option a e h q
    (λ p st. (
      (Exactly mark.OpenRound ∷ AType ∷ Exactly mark.CloseRound ∷ st),
      (λ v. (type.Optional p v.1.0, v.1.1.1)),
      refl,
    ))

pub stops_optional_0 : (a b0 : Ahead) (p : Place) (e : SyntaxFault) → head a.left ≡ Some token.Option
    → Passes a p b0 → Stops (Exactly mark.OpenRound) b0 e → Stops AType a e
stops_optional_0 a b0 p e h q z = stops_by AType (Exactly mark.OpenRound) a b0 e (λ st k. (
  (AType ∷ Exactly mark.CloseRound ∷ st),
  (λ v. k (type.Optional p v.1.0, v.1.1.1)),
  passes_to AType token.Option a b0 p st (Exactly mark.OpenRound ∷ AType ∷ Exactly mark.CloseRound ∷ st)
      (λ v. (type.Optional p v.1.0, v.1.1.1)) h q refl k,
)) z

pub stops_optional_1 : (a b0 b1 : Ahead) (p : Place) (e : SyntaxFault) → head a.left ≡ Some token.Option
    → Passes a p b0 → Gives (Exactly mark.OpenRound) b0 tt b1 → Stops AType b1 e → Stops AType a e
unfolding Gives
stops_optional_1 a b0 b1 p e h q g0 z = stops_by AType AType a b1 e (λ st k. (
  (Exactly mark.CloseRound ∷ st),
  (λ v. k (type.Optional p v.0, v.1.1)),
  passes_to AType token.Option a b0 p st (Exactly mark.OpenRound ∷ AType ∷ Exactly mark.CloseRound ∷ st)
      (λ v. (type.Optional p v.1.0, v.1.1.1)) h q refl k
      ∙ g0 (AType ∷ Exactly mark.CloseRound ∷ st) (λ v. k (type.Optional p v.1.0, v.1.1.1)),
)) z

pub stops_optional_2 : (a b0 b1 b2 : Ahead) (p : Place) (x1 : TypeTree) (e : SyntaxFault)
    → head a.left ≡ Some token.Option → Passes a p b0 → Gives (Exactly mark.OpenRound) b0 tt b1 → Gives AType b1 x1 b2
    → Stops (Exactly mark.CloseRound) b2 e → Stops AType a e
unfolding Gives
stops_optional_2 a b0 b1 b2 p x1 e h q g0 g1 z = stops_by AType (Exactly mark.CloseRound) a b2 e (λ st k. (
  (st),
  (λ v. k (type.Optional p x1, v.1)),
  passes_to AType token.Option a b0 p st (Exactly mark.OpenRound ∷ AType ∷ Exactly mark.CloseRound ∷ st)
      (λ v. (type.Optional p v.1.0, v.1.1.1)) h q refl k
      ∙ g0 (AType ∷ Exactly mark.CloseRound ∷ st) (λ v. k (type.Optional p v.1.0, v.1.1.1))
      ∙ g1 (Exactly mark.CloseRound ∷ st) (λ v. k (type.Optional p v.0, v.1.1)),
)) z

pub ruleset steps_optional = (
  gives_optional,
  halts_optional,
  stops_optional_0,
  stops_optional_1,
  stops_optional_2,
  memory,
  reads_ok,
  reads_err,
)

open_part : (b : Ahead) (p : Place) (st : Stack) (k : Values (APart ∷ st) → Tree) → place_of b.left ≡ p
    → reading b.opened (APart ∷ st) k b.left ≡ reading b.opened (AName ∷ Exactly mark.Colon ∷ AType ∷ st)
    (λ v. k (part_of p v.0 v.1.1.0, v.1.1.1)) b.left
open_part b p st k q = same_read b.opened (AName ∷ Exactly mark.Colon ∷ AType ∷ st) (APart ∷ st)
    (λ v. (part_of (place_of b.left) v.0 v.1.1.0, v.1.1.1)) k b.left (refl)
    ∙ ap (λ p. reading b.opened (AName ∷ Exactly mark.Colon ∷ AType ∷ st) (λ v. k (part_of p v.0 v.1.1.0, v.1.1.1))
    b.left) q

pub gives_part : (b0 b1 b2 b3 : Ahead) (p : Place) (x0 : List ℕ) (x2 : TypeTree) → place_of b0.left ≡ p
    → Gives AName b0 x0 b1 → Gives (Exactly mark.Colon) b1 tt b2 → Gives AType b2 x2 b3
    → Gives APart b0 (part_of p x0 x2) b3
unfolding Gives
gives_part b0 b1 b2 b3 p x0 x2 q g0 g1 g2 = λ st k.
    open_part b0 p st k q
    ∙ g0 (Exactly mark.Colon ∷ AType ∷ st) (λ v. k (part_of p v.0 v.1.1.0, v.1.1.1))
    ∙ g1 (AType ∷ st) (λ v. k (part_of p x0 v.1.0, v.1.1))
    ∙ g2 (st) (λ v. k (part_of p x0 v.0, v.1))

pub stops_part_0 : (b0 : Ahead) (p : Place) (e : SyntaxFault) → place_of b0.left ≡ p → Stops AName b0 e
    → Stops APart b0 e
stops_part_0 b0 p e q z = stops_by APart AName b0 b0 e (λ st k. (
  (Exactly mark.Colon ∷ AType ∷ st),
  (λ v. k (part_of p v.0 v.1.1.0, v.1.1.1)),
  open_part b0 p st k q,
)) z

pub stops_part_1 : (b0 b1 : Ahead) (p : Place) (x0 : List ℕ) (e : SyntaxFault) → place_of b0.left ≡ p
    → Gives AName b0 x0 b1 → Stops (Exactly mark.Colon) b1 e → Stops APart b0 e
unfolding Gives
stops_part_1 b0 b1 p x0 e q g0 z = stops_by APart (Exactly mark.Colon) b0 b1 e (λ st k. (
  (AType ∷ st),
  (λ v. k (part_of p x0 v.1.0, v.1.1)),
  open_part b0 p st k q
      ∙ g0 (Exactly mark.Colon ∷ AType ∷ st) (λ v. k (part_of p v.0 v.1.1.0, v.1.1.1)),
)) z

pub stops_part_2 : (b0 b1 b2 : Ahead) (p : Place) (x0 : List ℕ) (e : SyntaxFault) → place_of b0.left ≡ p
    → Gives AName b0 x0 b1 → Gives (Exactly mark.Colon) b1 tt b2 → Stops AType b2 e → Stops APart b0 e
unfolding Gives
stops_part_2 b0 b1 b2 p x0 e q g0 g1 z = stops_by APart AType b0 b2 e (λ st k. (
  (st),
  (λ v. k (part_of p x0 v.0, v.1)),
  open_part b0 p st k q
      ∙ g0 (Exactly mark.Colon ∷ AType ∷ st) (λ v. k (part_of p v.0 v.1.1.0, v.1.1.1))
      ∙ g1 (AType ∷ st) (λ v. k (part_of p x0 v.1.0, v.1.1)),
)) z

pub ruleset steps_part = (gives_part, stops_part_0, stops_part_1, stops_part_2, memory, reads_ok, reads_err)

at_params : (o : Option Token) (p : Place) (st : Stack) → starts_name o ≡ true
    → m.params_at o p st (shift st o p) ≡ mapped (λ v. (v.0 ∷ v.1.0, v.1.1)) (m.part_at o p (MoreParts ∷ st))
at_params (Some (token.Name n)) p st h = refl
at_params o p st h = cc

open_params : (b : Ahead) (st : Stack) (k : Values (Params ∷ st) → Tree) → starts_name (head b.left) ≡ true
    → reading b.opened (Params ∷ st) k b.left ≡ reading b.opened (APart ∷ MoreParts ∷ st) (λ v. k (v.0 ∷ v.1.0, v.1.1))
    b.left
open_params b st k w = same_read b.opened (APart ∷ MoreParts ∷ st) (Params ∷ st) (λ v. (v.0 ∷ v.1.0, v.1.1))
    k b.left (at_params (head b.left) (place_of b.left) st w)

pub gives_params : (b0 b1 b2 : Ahead) (x0 : Part) (x1 : List Part) → starts_name (head b0.left) ≡ true
    → Gives APart b0 x0 b1 → Gives MoreParts b1 x1 b2 → Gives Params b0 (x0 ∷ x1) b2
unfolding Gives
gives_params b0 b1 b2 x0 x1 w g0 g1 = λ st k.
    open_params b0 st k w
    ∙ g0 (MoreParts ∷ st) (λ v. k (v.0 ∷ v.1.0, v.1.1))
    ∙ g1 (st) (λ v. k (x0 ∷ v.0, v.1))

pub stops_params_0 : (b0 : Ahead) (e : SyntaxFault) → starts_name (head b0.left) ≡ true → Stops APart b0 e
    → Stops Params b0 e
stops_params_0 b0 e w z = stops_by Params APart b0 b0 e (λ st k. (
  (MoreParts ∷ st),
  (λ v. k (v.0 ∷ v.1.0, v.1.1)),
  open_params b0 st k w,
)) z

pub stops_params_1 : (b0 b1 : Ahead) (x0 : Part) (e : SyntaxFault) → starts_name (head b0.left) ≡ true
    → Gives APart b0 x0 b1 → Stops MoreParts b1 e → Stops Params b0 e
unfolding Gives
stops_params_1 b0 b1 x0 e w g0 z = stops_by Params MoreParts b0 b1 e (λ st k. (
  (st),
  (λ v. k (x0 ∷ v.0, v.1)),
  open_params b0 st k w
      ∙ g0 (MoreParts ∷ st) (λ v. k (v.0 ∷ v.1.0, v.1.1)),
)) z

pub ruleset steps_params = (gives_params, stops_params_0, stops_params_1, memory, reads_ok, reads_err)

pub gives_internals : (a b0 b1 b2 b3 : Ahead) (p : Place) (x1 : Part) (x2 : List Part)
    → head a.left ≡ Some token.Semicolon → Passes a p b0 → Gives (Exactly mark.Internal) b0 tt b1 → Gives APart b1 x1 b2
    → Gives MoreParts b2 x2 b3 → Gives Internals a (x1 ∷ x2) b3
unfolding Gives
gives_internals a b0 b1 b2 b3 p x1 x2 h q g0 g1 g2 = λ st k.
    passes_to Internals token.Semicolon a b0 p st (Exactly mark.Internal ∷ APart ∷ MoreParts ∷ st)
    (λ v. (v.1.0 ∷ v.1.1.0, v.1.1.1)) h q refl k
    ∙ g0 (APart ∷ MoreParts ∷ st) (λ v. k (v.1.0 ∷ v.1.1.0, v.1.1.1))
    ∙ g1 (MoreParts ∷ st) (λ v. k (v.0 ∷ v.1.0, v.1.1))
    ∙ g2 (st) (λ v. k (x1 ∷ v.0, v.1))

pub halts_internals : (a : Ahead) (e : SyntaxFault) → head a.left ≡ Some token.Semicolon → Halts a e
    → Stops Internals a e
halts_internals a e h q = halts_at Internals token.Semicolon a e h q
    (λ p st. ((Exactly mark.Internal ∷ APart ∷ MoreParts ∷ st), (λ v. (v.1.0 ∷ v.1.1.0, v.1.1.1)), refl))

pub stops_internals_0 : (a b0 : Ahead) (p : Place) (e : SyntaxFault) → head a.left ≡ Some token.Semicolon
    → Passes a p b0 → Stops (Exactly mark.Internal) b0 e → Stops Internals a e
stops_internals_0 a b0 p e h q z = stops_by Internals (Exactly mark.Internal) a b0 e (λ st k. (
  (APart ∷ MoreParts ∷ st),
  (λ v. k (v.1.0 ∷ v.1.1.0, v.1.1.1)),
  passes_to Internals token.Semicolon a b0 p st (Exactly mark.Internal ∷ APart ∷ MoreParts ∷ st)
      (λ v. (v.1.0 ∷ v.1.1.0, v.1.1.1)) h q refl k,
)) z

pub stops_internals_1 : (a b0 b1 : Ahead) (p : Place) (e : SyntaxFault) → head a.left ≡ Some token.Semicolon
    → Passes a p b0 → Gives (Exactly mark.Internal) b0 tt b1 → Stops APart b1 e → Stops Internals a e
unfolding Gives
stops_internals_1 a b0 b1 p e h q g0 z = stops_by Internals APart a b1 e (λ st k. (
  (MoreParts ∷ st),
  (λ v. k (v.0 ∷ v.1.0, v.1.1)),
  passes_to Internals token.Semicolon a b0 p st (Exactly mark.Internal ∷ APart ∷ MoreParts ∷ st)
      (λ v. (v.1.0 ∷ v.1.1.0, v.1.1.1)) h q refl k
      ∙ g0 (APart ∷ MoreParts ∷ st) (λ v. k (v.1.0 ∷ v.1.1.0, v.1.1.1)),
)) z

pub stops_internals_2 : (a b0 b1 b2 : Ahead) (p : Place) (x1 : Part) (e : SyntaxFault)
    → head a.left ≡ Some token.Semicolon → Passes a p b0 → Gives (Exactly mark.Internal) b0 tt b1 → Gives APart b1 x1 b2
    → Stops MoreParts b2 e → Stops Internals a e
unfolding Gives
stops_internals_2 a b0 b1 b2 p x1 e h q g0 g1 z = stops_by Internals MoreParts a b2 e (λ st k. (
  (st),
  (λ v. k (x1 ∷ v.0, v.1)),
  passes_to Internals token.Semicolon a b0 p st (Exactly mark.Internal ∷ APart ∷ MoreParts ∷ st)
      (λ v. (v.1.0 ∷ v.1.1.0, v.1.1.1)) h q refl k
      ∙ g0 (APart ∷ MoreParts ∷ st) (λ v. k (v.1.0 ∷ v.1.1.0, v.1.1.1))
      ∙ g1 (MoreParts ∷ st) (λ v. k (v.0 ∷ v.1.0, v.1.1)),
)) z

pub ruleset steps_internals = (
  gives_internals,
  halts_internals,
  stops_internals_0,
  stops_internals_1,
  stops_internals_2,
  memory,
  reads_ok,
  reads_err,
)

pub gives_map : (a b0 b1 b2 : Ahead) (p : Place) (x0 : TypeTree) → head a.left ≡ Some token.Map → Passes a p b0
    → Gives AType b0 x0 b1 → Gives (Exactly mark.Arrow) b1 tt b2 → Gives Key a (Some x0) b2
unfolding Gives
gives_map a b0 b1 b2 p x0 h q g0 g1 = λ st k.
    passes_to Key token.Map a b0 p st (AType ∷ Exactly mark.Arrow ∷ st) (λ v. (Some v.0, v.1.1)) h q refl k
    ∙ g0 (Exactly mark.Arrow ∷ st) (λ v. k (Some v.0, v.1.1))
    ∙ g1 (st) (λ v. k (Some x0, v.1))

pub halts_map : (a : Ahead) (e : SyntaxFault) → head a.left ≡ Some token.Map → Halts a e → Stops Key a e
halts_map a e h q = halts_at Key token.Map a e h q (λ p st. (
  (AType ∷ Exactly mark.Arrow ∷ st),
  (λ v. (Some v.0, v.1.1)),
  refl,
))

pub stops_map_0 : (a b0 : Ahead) (p : Place) (e : SyntaxFault) → head a.left ≡ Some token.Map → Passes a p b0
    → Stops AType b0 e → Stops Key a e
stops_map_0 a b0 p e h q z = stops_by Key AType a b0 e (λ st k. (
  (Exactly mark.Arrow ∷ st),
  (λ v. k (Some v.0, v.1.1)),
  passes_to Key token.Map a b0 p st (AType ∷ Exactly mark.Arrow ∷ st) (λ v. (Some v.0, v.1.1)) h q refl k,
)) z

pub stops_map_1 : (a b0 b1 : Ahead) (p : Place) (x0 : TypeTree) (e : SyntaxFault) → head a.left ≡ Some token.Map
    → Passes a p b0 → Gives AType b0 x0 b1 → Stops (Exactly mark.Arrow) b1 e → Stops Key a e
unfolding Gives
stops_map_1 a b0 b1 p x0 e h q g0 z = stops_by Key (Exactly mark.Arrow) a b1 e (λ st k. (
  (st),
  (λ v. k (Some x0, v.1)),
  passes_to Key token.Map a b0 p st (AType ∷ Exactly mark.Arrow ∷ st) (λ v. (Some v.0, v.1.1)) h q refl k
      ∙ g0 (Exactly mark.Arrow ∷ st) (λ v. k (Some v.0, v.1.1)),
)) z

pub ruleset steps_map = (gives_map, halts_map, stops_map_0, stops_map_1, memory, reads_ok, reads_err)
