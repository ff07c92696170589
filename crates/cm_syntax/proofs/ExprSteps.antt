-- How the reader's steps add up. What stands for expressions.
use Rattle.std.proofs.Common.{◌≡◌, ℕ, true, List, ◌∷◌, Option, Some, refl, ap, ◌∙◌}
use Rattle.cm_model.specs.declared.place.Place.{Place}
use Rattle.cm_tokens.specs.declared.token.Token.{Token}
use Rattle.cm_tokens.specs.declared.token.Token.TheVariants as token
use Rattle.cm_syntax.specs.declared.mark.Mark.TheVariants as mark
use Rattle.cm_syntax.specs.declared.tree.Tree.{Tree}
use Rattle.cm_syntax.specs.declared.tree.Expr.{Expr}
use Rattle.cm_syntax.specs.declared.tree.Cmp.{Cmp}
use Rattle.cm_syntax.specs.declared.tree.Relation.{Relation}
use Rattle.cm_syntax.specs.declared.tree.Relation.TheVariants as relation
use Rattle.cm_syntax.specs.declared.tree.Sum.{Sum}
use Rattle.cm_syntax.specs.declared.tree.Unary.{Unary}
use Rattle.cm_syntax.specs.declared.tree.Unary.TheVariants.{Bare, Not}
use Rattle.cm_syntax.specs.declared.tree.Post.{Post}
use Rattle.cm_syntax.specs.declared.tree.Set.{Set}
use Rattle.cm_syntax.specs.declared.tree.Primary.{Primary}
use Rattle.cm_syntax.specs.declared.tails.Offset.{Offset}
use Rattle.cm_syntax.specs.declared.tails.Offset.TheVariants as offset
use Rattle.cm_syntax.specs.declared.tails.RightSide.{RightSide}
use Rattle.cm_syntax.specs.declared.tails.RightSide.TheVariants as right
use Rattle.cm_syntax.specs.declared.tails.Joined.{Joined}
use Rattle.cm_syntax.specs.declared.tails.Joined.TheVariants as joined
use Rattle.cm_syntax.specs.declared.fault.SyntaxFault.{SyntaxFault}
use Rattle.cm_syntax.specs.Spelling.{post_of, relation_token}
use Rattle.cm_syntax.specs.Text.{place_of}
use Rattle.cm_syntax.specs.inner.Machine as m
use Rattle.cm_syntax.specs.inner.Machine.{Exactly, ANumber, Where, AnExpr, MoreCmps, Ands, Ors, ACmp, Right, ASum}
use Rattle.cm_syntax.specs.inner.Machine.{AnOffset, AUnary, APost, Fields, With, MoreSets, ASet, APrim, Stack, Values}
use Rattle.cm_syntax.specs.inner.Machine.{Shift, Takes, mapped, shift, reading, Ahead, head, Gives, Stops, Passes}
use Rattle.cm_syntax.specs.inner.Machine.{Halts, sum_of, cmp_of, expr_of, no_not}
use Rattle.cm_syntax.proofs.Steps.{same_read, passes_to, halts_at, stops_by, memory, reads_ok, reads_err}

pub gives_with : (a b0 b1 b2 b3 b4 : Ahead) (p : Place) (x1 : Set) (x2 : List Set) → head a.left ≡ Some token.With
    → Passes a p b0 → Gives (Exactly mark.OpenCurly) b0 tt b1 → Gives ASet b1 x1 b2 → Gives MoreSets b2 x2 b3
    → Gives (Exactly mark.CloseCurly) b3 tt b4 → Gives With a (x1 ∷ x2) b4
unfolding Gives
gives_with a b0 b1 b2 b3 b4 p x1 x2 h q g0 g1 g2 g3 = λ st k.
    passes_to With token.With a b0 p st (Exactly mark.OpenCurly ∷ ASet ∷ MoreSets ∷ Exactly mark.CloseCurly ∷ st)
    (λ v. (v.1.0 ∷ v.1.1.0, v.1.1.1.1)) h q refl k
    ∙ g0 (ASet ∷ MoreSets ∷ Exactly mark.CloseCurly ∷ st) (λ v. k (v.1.0 ∷ v.1.1.0, v.1.1.1.1))
    ∙ g1 (MoreSets ∷ Exactly mark.CloseCurly ∷ st) (λ v. k (v.0 ∷ v.1.0, v.1.1.1))
    ∙ g2 (Exactly mark.CloseCurly ∷ st) (λ v. k (x1 ∷ v.0, v.1.1))
    ∙ g3 (st) (λ v. k (x1 ∷ x2, v.1))

pub halts_with : (a : Ahead) (e : SyntaxFault) → head a.left ≡ Some token.With → Halts a e → Stops With a e
halts_with a e h q = halts_at With token.With a e h q
    (λ p st. (
      (Exactly mark.OpenCurly ∷ ASet ∷ MoreSets ∷ Exactly mark.CloseCurly ∷ st),
      (λ v. (v.1.0 ∷ v.1.1.0, v.1.1.1.1)),
      refl,
    ))

pub stops_with_0 : (a b0 : Ahead) (p : Place) (e : SyntaxFault) → head a.left ≡ Some token.With → Passes a p b0
    → Stops (Exactly mark.OpenCurly) b0 e → Stops With a e
stops_with_0 a b0 p e h q z = stops_by With (Exactly mark.OpenCurly) a b0 e (λ st k. (
  (ASet ∷ MoreSets ∷ Exactly mark.CloseCurly ∷ st),
  (λ v. k (v.1.0 ∷ v.1.1.0, v.1.1.1.1)),
  passes_to With token.With a b0 p st (Exactly mark.OpenCurly ∷ ASet ∷ MoreSets ∷ Exactly mark.CloseCurly ∷ st)
      (λ v. (v.1.0 ∷ v.1.1.0, v.1.1.1.1)) h q refl k,
)) z

pub stops_with_1 : (a b0 b1 : Ahead) (p : Place) (e : SyntaxFault) → head a.left ≡ Some token.With → Passes a p b0
    → Gives (Exactly mark.OpenCurly) b0 tt b1 → Stops ASet b1 e → Stops With a e
unfolding Gives
stops_with_1 a b0 b1 p e h q g0 z = stops_by With ASet a b1 e (λ st k. (
  (MoreSets ∷ Exactly mark.CloseCurly ∷ st),
  (λ v. k (v.0 ∷ v.1.0, v.1.1.1)),
  passes_to With token.With a b0 p st (Exactly mark.OpenCurly ∷ ASet ∷ MoreSets ∷ Exactly mark.CloseCurly ∷ st)
      (λ v. (v.1.0 ∷ v.1.1.0, v.1.1.1.1)) h q refl k
      ∙ g0 (ASet ∷ MoreSets ∷ Exactly mark.CloseCurly ∷ st) (λ v. k (v.1.0 ∷ v.1.1.0, v.1.1.1.1)),
)) z

pub stops_with_2 : (a b0 b1 b2 : Ahead) (p : Place) (x1 : Set) (e : SyntaxFault) → head a.left ≡ Some token.With
    → Passes a p b0 → Gives (Exactly mark.OpenCurly) b0 tt b1 → Gives ASet b1 x1 b2 → Stops MoreSets b2 e
    → Stops With a e
unfolding Gives
stops_with_2 a b0 b1 b2 p x1 e h q g0 g1 z = stops_by With MoreSets a b2 e (λ st k. (
  (Exactly mark.CloseCurly ∷ st),
  (λ v. k (x1 ∷ v.0, v.1.1)),
  passes_to With token.With a b0 p st (Exactly mark.OpenCurly ∷ ASet ∷ MoreSets ∷ Exactly mark.CloseCurly ∷ st)
      (λ v. (v.1.0 ∷ v.1.1.0, v.1.1.1.1)) h q refl k
      ∙ g0 (ASet ∷ MoreSets ∷ Exactly mark.CloseCurly ∷ st) (λ v. k (v.1.0 ∷ v.1.1.0, v.1.1.1.1))
      ∙ g1 (MoreSets ∷ Exactly mark.CloseCurly ∷ st) (λ v. k (v.0 ∷ v.1.0, v.1.1.1)),
)) z

pub stops_with_3 : (a b0 b1 b2 b3 : Ahead) (p : Place) (x1 : Set) (x2 : List Set) (e : SyntaxFault)
    → head a.left ≡ Some token.With → Passes a p b0 → Gives (Exactly mark.OpenCurly) b0 tt b1 → Gives ASet b1 x1 b2
    → Gives MoreSets b2 x2 b3 → Stops (Exactly mark.CloseCurly) b3 e → Stops With a e
unfolding Gives
stops_with_3 a b0 b1 b2 b3 p x1 x2 e h q g0 g1 g2 z = stops_by With (Exactly mark.CloseCurly) a b3 e (λ st k. (
  (st),
  (λ v. k (x1 ∷ x2, v.1)),
  passes_to With token.With a b0 p st (Exactly mark.OpenCurly ∷ ASet ∷ MoreSets ∷ Exactly mark.CloseCurly ∷ st)
      (λ v. (v.1.0 ∷ v.1.1.0, v.1.1.1.1)) h q refl k
      ∙ g0 (ASet ∷ MoreSets ∷ Exactly mark.CloseCurly ∷ st) (λ v. k (v.1.0 ∷ v.1.1.0, v.1.1.1.1))
      ∙ g1 (MoreSets ∷ Exactly mark.CloseCurly ∷ st) (λ v. k (v.0 ∷ v.1.0, v.1.1.1))
      ∙ g2 (Exactly mark.CloseCurly ∷ st) (λ v. k (x1 ∷ v.0, v.1.1)),
)) z

pub ruleset steps_with = (
  gives_with,
  halts_with,
  stops_with_0,
  stops_with_1,
  stops_with_2,
  stops_with_3,
  memory,
  reads_ok,
  reads_err,
)

open_post : (b : Ahead) (p : Place) (st : Stack) (k : Values (APost ∷ st) → Tree) → place_of b.left ≡ p
    → reading b.opened (APost ∷ st) k b.left ≡ reading b.opened (APrim ∷ Fields ∷ With ∷ st)
    (λ v. k (post_of p v.0 v.1.0 v.1.1.0, v.1.1.1)) b.left
open_post b p st k q = same_read b.opened (APrim ∷ Fields ∷ With ∷ st) (APost ∷ st)
    (λ v. (post_of (place_of b.left) v.0 v.1.0 v.1.1.0, v.1.1.1)) k b.left (refl)
    ∙ ap (λ p. reading b.opened (APrim ∷ Fields ∷ With ∷ st) (λ v. k (post_of p v.0 v.1.0 v.1.1.0, v.1.1.1)) b.left) q

pub gives_post : (b0 b1 b2 b3 : Ahead) (p : Place) (x0 : Primary) (x1 : List (List ℕ)) (x2 : List Set)
    → place_of b0.left ≡ p → Gives APrim b0 x0 b1 → Gives Fields b1 x1 b2 → Gives With b2 x2 b3
    → Gives APost b0 (post_of p x0 x1 x2) b3
unfolding Gives
gives_post b0 b1 b2 b3 p x0 x1 x2 q g0 g1 g2 = λ st k.
    open_post b0 p st k q
    ∙ g0 (Fields ∷ With ∷ st) (λ v. k (post_of p v.0 v.1.0 v.1.1.0, v.1.1.1))
    ∙ g1 (With ∷ st) (λ v. k (post_of p x0 v.0 v.1.0, v.1.1))
    ∙ g2 (st) (λ v. k (post_of p x0 x1 v.0, v.1))

pub stops_post_0 : (b0 : Ahead) (p : Place) (e : SyntaxFault) → place_of b0.left ≡ p → Stops APrim b0 e
    → Stops APost b0 e
stops_post_0 b0 p e q z = stops_by APost APrim b0 b0 e (λ st k. (
  (Fields ∷ With ∷ st),
  (λ v. k (post_of p v.0 v.1.0 v.1.1.0, v.1.1.1)),
  open_post b0 p st k q,
)) z

pub stops_post_1 : (b0 b1 : Ahead) (p : Place) (x0 : Primary) (e : SyntaxFault) → place_of b0.left ≡ p
    → Gives APrim b0 x0 b1 → Stops Fields b1 e → Stops APost b0 e
unfolding Gives
stops_post_1 b0 b1 p x0 e q g0 z = stops_by APost Fields b0 b1 e (λ st k. (
  (With ∷ st),
  (λ v. k (post_of p x0 v.0 v.1.0, v.1.1)),
  open_post b0 p st k q
      ∙ g0 (Fields ∷ With ∷ st) (λ v. k (post_of p v.0 v.1.0 v.1.1.0, v.1.1.1)),
)) z

pub stops_post_2 : (b0 b1 b2 : Ahead) (p : Place) (x0 : Primary) (x1 : List (List ℕ)) (e : SyntaxFault)
    → place_of b0.left ≡ p → Gives APrim b0 x0 b1 → Gives Fields b1 x1 b2 → Stops With b2 e → Stops APost b0 e
unfolding Gives
stops_post_2 b0 b1 b2 p x0 x1 e q g0 g1 z = stops_by APost With b0 b2 e (λ st k. (
  (st),
  (λ v. k (post_of p x0 x1 v.0, v.1)),
  open_post b0 p st k q
      ∙ g0 (Fields ∷ With ∷ st) (λ v. k (post_of p v.0 v.1.0 v.1.1.0, v.1.1.1))
      ∙ g1 (With ∷ st) (λ v. k (post_of p x0 v.0 v.1.0, v.1.1)),
)) z

pub ruleset steps_post = (gives_post, stops_post_0, stops_post_1, stops_post_2, memory, reads_ok, reads_err)

pub gives_not : (a b0 b1 : Ahead) (p : Place) (x0 : Post) → head a.left ≡ Some token.Not → Passes a p b0
    → Gives APost b0 x0 b1 → Gives AUnary a (Not p x0) b1
unfolding Gives
gives_not a b0 b1 p x0 h q g0 = λ st k.
    passes_to AUnary token.Not a b0 p st (APost ∷ st) (λ v. (Not p v.0, v.1)) h q refl k
    ∙ g0 (st) (λ v. k (Not p v.0, v.1))

pub halts_not : (a : Ahead) (e : SyntaxFault) → head a.left ≡ Some token.Not → Halts a e → Stops AUnary a e
halts_not a e h q = halts_at AUnary token.Not a e h q (λ p st. ((APost ∷ st), (λ v. (Not p v.0, v.1)), refl))

pub stops_not_0 : (a b0 : Ahead) (p : Place) (e : SyntaxFault) → head a.left ≡ Some token.Not → Passes a p b0
    → Stops APost b0 e → Stops AUnary a e
stops_not_0 a b0 p e h q z = stops_by AUnary APost a b0 e (λ st k. (
  (st),
  (λ v. k (Not p v.0, v.1)),
  passes_to AUnary token.Not a b0 p st (APost ∷ st) (λ v. (Not p v.0, v.1)) h q refl k,
)) z

pub ruleset steps_not = (gives_not, halts_not, stops_not_0, memory, reads_ok, reads_err)

at_bare : (o : Option Token) (p : Place) (st : Stack) → no_not o ≡ true
    → m.unary_at o p st ≡ mapped (λ v. (Bare p v.0, v.1)) (m.post_at o p (st))
at_bare (Some token.Not) p st h = cc
at_bare o p st h = refl

open_bare : (b : Ahead) (p : Place) (st : Stack) (k : Values (AUnary ∷ st) → Tree) → place_of b.left ≡ p
    → no_not (head b.left) ≡ true → reading b.opened (AUnary ∷ st) k b.left ≡ reading b.opened (APost ∷ st)
    (λ v. k (Bare p v.0, v.1)) b.left
open_bare b p st k q w = same_read b.opened (APost ∷ st) (AUnary ∷ st) (λ v. (Bare (place_of b.left) v.0, v.1))
    k b.left (at_bare (head b.left) (place_of b.left) st w)
    ∙ ap (λ p. reading b.opened (APost ∷ st) (λ v. k (Bare p v.0, v.1)) b.left) q

pub gives_bare : (b0 b1 : Ahead) (p : Place) (x0 : Post) → place_of b0.left ≡ p → no_not (head b0.left) ≡ true
    → Gives APost b0 x0 b1 → Gives AUnary b0 (Bare p x0) b1
unfolding Gives
gives_bare b0 b1 p x0 q w g0 = λ st k.
    open_bare b0 p st k q w
    ∙ g0 (st) (λ v. k (Bare p v.0, v.1))

pub stops_bare_0 : (b0 : Ahead) (p : Place) (e : SyntaxFault) → place_of b0.left ≡ p → no_not (head b0.left) ≡ true
    → Stops APost b0 e → Stops AUnary b0 e
stops_bare_0 b0 p e q w z = stops_by AUnary APost b0 b0 e (λ st k. (
  (st),
  (λ v. k (Bare p v.0, v.1)),
  open_bare b0 p st k q w,
)) z

pub ruleset steps_bare = (gives_bare, stops_bare_0, memory, reads_ok, reads_err)

pub gives_plus : (a b0 b1 : Ahead) (p : Place) (x0 : ℕ) → head a.left ≡ Some token.Plus → Passes a p b0
    → Gives ANumber b0 x0 b1 → Gives AnOffset a (offset.Plus x0) b1
unfolding Gives
gives_plus a b0 b1 p x0 h q g0 = λ st k.
    passes_to AnOffset token.Plus a b0 p st (ANumber ∷ st) (λ v. (offset.Plus v.0, v.1)) h q refl k
    ∙ g0 (st) (λ v. k (offset.Plus v.0, v.1))

pub halts_plus : (a : Ahead) (e : SyntaxFault) → head a.left ≡ Some token.Plus → Halts a e → Stops AnOffset a e
halts_plus a e h q = halts_at AnOffset token.Plus a e h q (λ p st. (
  (ANumber ∷ st),
  (λ v. (offset.Plus v.0, v.1)),
  refl,
))

pub stops_plus_0 : (a b0 : Ahead) (p : Place) (e : SyntaxFault) → head a.left ≡ Some token.Plus → Passes a p b0
    → Stops ANumber b0 e → Stops AnOffset a e
stops_plus_0 a b0 p e h q z = stops_by AnOffset ANumber a b0 e (λ st k. (
  (st),
  (λ v. k (offset.Plus v.0, v.1)),
  passes_to AnOffset token.Plus a b0 p st (ANumber ∷ st) (λ v. (offset.Plus v.0, v.1)) h q refl k,
)) z

pub ruleset steps_plus = (gives_plus, halts_plus, stops_plus_0, memory, reads_ok, reads_err)

pub gives_minus : (a b0 b1 : Ahead) (p : Place) (x0 : ℕ) → head a.left ≡ Some token.Minus → Passes a p b0
    → Gives ANumber b0 x0 b1 → Gives AnOffset a (offset.Minus x0) b1
unfolding Gives
gives_minus a b0 b1 p x0 h q g0 = λ st k.
    passes_to AnOffset token.Minus a b0 p st (ANumber ∷ st) (λ v. (offset.Minus v.0, v.1)) h q refl k
    ∙ g0 (st) (λ v. k (offset.Minus v.0, v.1))

pub halts_minus : (a : Ahead) (e : SyntaxFault) → head a.left ≡ Some token.Minus → Halts a e → Stops AnOffset a e
halts_minus a e h q = halts_at AnOffset token.Minus a e h q (λ p st. (
  (ANumber ∷ st),
  (λ v. (offset.Minus v.0, v.1)),
  refl,
))

pub stops_minus_0 : (a b0 : Ahead) (p : Place) (e : SyntaxFault) → head a.left ≡ Some token.Minus → Passes a p b0
    → Stops ANumber b0 e → Stops AnOffset a e
stops_minus_0 a b0 p e h q z = stops_by AnOffset ANumber a b0 e (λ st k. (
  (st),
  (λ v. k (offset.Minus v.0, v.1)),
  passes_to AnOffset token.Minus a b0 p st (ANumber ∷ st) (λ v. (offset.Minus v.0, v.1)) h q refl k,
)) z

pub ruleset steps_minus = (gives_minus, halts_minus, stops_minus_0, memory, reads_ok, reads_err)

open_sum : (b : Ahead) (p : Place) (st : Stack) (k : Values (ASum ∷ st) → Tree) → place_of b.left ≡ p
    → reading b.opened (ASum ∷ st) k b.left ≡ reading b.opened (AUnary ∷ AnOffset ∷ st)
    (λ v. k (sum_of p v.0 v.1.0, v.1.1)) b.left
open_sum b p st k q = same_read b.opened (AUnary ∷ AnOffset ∷ st) (ASum ∷ st) (λ v. (
  sum_of (place_of b.left) v.0 v.1.0,
  v.1.1,
)) k b.left (refl) ∙ ap (λ p. reading b.opened (AUnary ∷ AnOffset ∷ st) (λ v. k (sum_of p v.0 v.1.0, v.1.1))
    b.left) q

pub gives_sum : (b0 b1 b2 : Ahead) (p : Place) (x0 : Unary) (x1 : Offset) → place_of b0.left ≡ p → Gives AUnary b0 x0 b1
    → Gives AnOffset b1 x1 b2 → Gives ASum b0 (sum_of p x0 x1) b2
unfolding Gives
gives_sum b0 b1 b2 p x0 x1 q g0 g1 = λ st k.
    open_sum b0 p st k q
    ∙ g0 (AnOffset ∷ st) (λ v. k (sum_of p v.0 v.1.0, v.1.1))
    ∙ g1 (st) (λ v. k (sum_of p x0 v.0, v.1))

pub stops_sum_0 : (b0 : Ahead) (p : Place) (e : SyntaxFault) → place_of b0.left ≡ p → Stops AUnary b0 e
    → Stops ASum b0 e
stops_sum_0 b0 p e q z = stops_by ASum AUnary b0 b0 e (λ st k. (
  (AnOffset ∷ st),
  (λ v. k (sum_of p v.0 v.1.0, v.1.1)),
  open_sum b0 p st k q,
)) z

pub stops_sum_1 : (b0 b1 : Ahead) (p : Place) (x0 : Unary) (e : SyntaxFault) → place_of b0.left ≡ p
    → Gives AUnary b0 x0 b1 → Stops AnOffset b1 e → Stops ASum b0 e
unfolding Gives
stops_sum_1 b0 b1 p x0 e q g0 z = stops_by ASum AnOffset b0 b1 e (λ st k. (
  (st),
  (λ v. k (sum_of p x0 v.0, v.1)),
  open_sum b0 p st k q
      ∙ g0 (AnOffset ∷ st) (λ v. k (sum_of p v.0 v.1.0, v.1.1)),
)) z

pub ruleset steps_sum = (gives_sum, stops_sum_0, stops_sum_1, memory, reads_ok, reads_err)

open_cmp : (b : Ahead) (p : Place) (st : Stack) (k : Values (ACmp ∷ st) → Tree) → place_of b.left ≡ p
    → reading b.opened (ACmp ∷ st) k b.left ≡ reading b.opened (ASum ∷ Right ∷ st) (λ v. k (cmp_of p v.0 v.1.0, v.1.1))
    b.left
open_cmp b p st k q = same_read b.opened (ASum ∷ Right ∷ st) (ACmp ∷ st) (λ v. (
  cmp_of (place_of b.left) v.0 v.1.0,
  v.1.1,
)) k b.left (refl) ∙ ap (λ p. reading b.opened (ASum ∷ Right ∷ st) (λ v. k (cmp_of p v.0 v.1.0, v.1.1)) b.left)
    q

pub gives_cmp : (b0 b1 b2 : Ahead) (p : Place) (x0 : Sum) (x1 : RightSide) → place_of b0.left ≡ p → Gives ASum b0 x0 b1
    → Gives Right b1 x1 b2 → Gives ACmp b0 (cmp_of p x0 x1) b2
unfolding Gives
gives_cmp b0 b1 b2 p x0 x1 q g0 g1 = λ st k.
    open_cmp b0 p st k q
    ∙ g0 (Right ∷ st) (λ v. k (cmp_of p v.0 v.1.0, v.1.1))
    ∙ g1 (st) (λ v. k (cmp_of p x0 v.0, v.1))

pub stops_cmp_0 : (b0 : Ahead) (p : Place) (e : SyntaxFault) → place_of b0.left ≡ p → Stops ASum b0 e → Stops ACmp b0 e
stops_cmp_0 b0 p e q z = stops_by ACmp ASum b0 b0 e (λ st k. (
  (Right ∷ st),
  (λ v. k (cmp_of p v.0 v.1.0, v.1.1)),
  open_cmp b0 p st k q,
)) z

pub stops_cmp_1 : (b0 b1 : Ahead) (p : Place) (x0 : Sum) (e : SyntaxFault) → place_of b0.left ≡ p → Gives ASum b0 x0 b1
    → Stops Right b1 e → Stops ACmp b0 e
unfolding Gives
stops_cmp_1 b0 b1 p x0 e q g0 z = stops_by ACmp Right b0 b1 e (λ st k. (
  (st),
  (λ v. k (cmp_of p x0 v.0, v.1)),
  open_cmp b0 p st k q
      ∙ g0 (Right ∷ st) (λ v. k (cmp_of p v.0 v.1.0, v.1.1)),
)) z

pub ruleset steps_cmp = (gives_cmp, stops_cmp_0, stops_cmp_1, memory, reads_ok, reads_err)

pub gives_and : (a b0 b1 b2 : Ahead) (p : Place) (x0 : Cmp) (x1 : List Cmp) → head a.left ≡ Some token.And
    → Passes a p b0 → Gives ACmp b0 x0 b1 → Gives Ands b1 x1 b2 → Gives MoreCmps a (joined.And x0 x1) b2
unfolding Gives
gives_and a b0 b1 b2 p x0 x1 h q g0 g1 = λ st k.
    passes_to MoreCmps token.And a b0 p st (ACmp ∷ Ands ∷ st) (λ v. (joined.And v.0 v.1.0, v.1.1)) h q refl k
    ∙ g0 (Ands ∷ st) (λ v. k (joined.And v.0 v.1.0, v.1.1))
    ∙ g1 (st) (λ v. k (joined.And x0 v.0, v.1))

pub halts_and : (a : Ahead) (e : SyntaxFault) → head a.left ≡ Some token.And → Halts a e → Stops MoreCmps a e
halts_and a e h q = halts_at MoreCmps token.And a e h q (λ p st. (
  (ACmp ∷ Ands ∷ st),
  (λ v. (joined.And v.0 v.1.0, v.1.1)),
  refl,
))

pub stops_and_0 : (a b0 : Ahead) (p : Place) (e : SyntaxFault) → head a.left ≡ Some token.And → Passes a p b0
    → Stops ACmp b0 e → Stops MoreCmps a e
stops_and_0 a b0 p e h q z = stops_by MoreCmps ACmp a b0 e (λ st k. (
  (Ands ∷ st),
  (λ v. k (joined.And v.0 v.1.0, v.1.1)),
  passes_to MoreCmps token.And a b0 p st (ACmp ∷ Ands ∷ st) (λ v. (joined.And v.0 v.1.0, v.1.1)) h q refl k,
)) z

pub stops_and_1 : (a b0 b1 : Ahead) (p : Place) (x0 : Cmp) (e : SyntaxFault) → head a.left ≡ Some token.And
    → Passes a p b0 → Gives ACmp b0 x0 b1 → Stops Ands b1 e → Stops MoreCmps a e
unfolding Gives
stops_and_1 a b0 b1 p x0 e h q g0 z = stops_by MoreCmps Ands a b1 e (λ st k. (
  (st),
  (λ v. k (joined.And x0 v.0, v.1)),
  passes_to MoreCmps token.And a b0 p st (ACmp ∷ Ands ∷ st) (λ v. (joined.And v.0 v.1.0, v.1.1)) h q refl k
      ∙ g0 (Ands ∷ st) (λ v. k (joined.And v.0 v.1.0, v.1.1)),
)) z

pub ruleset steps_and = (gives_and, halts_and, stops_and_0, stops_and_1, memory, reads_ok, reads_err)

pub gives_or : (a b0 b1 b2 : Ahead) (p : Place) (x0 : Cmp) (x1 : List Cmp) → head a.left ≡ Some token.Or
    → Passes a p b0 → Gives ACmp b0 x0 b1 → Gives Ors b1 x1 b2 → Gives MoreCmps a (joined.Or x0 x1) b2
unfolding Gives
gives_or a b0 b1 b2 p x0 x1 h q g0 g1 = λ st k.
    passes_to MoreCmps token.Or a b0 p st (ACmp ∷ Ors ∷ st) (λ v. (joined.Or v.0 v.1.0, v.1.1)) h q refl k
    ∙ g0 (Ors ∷ st) (λ v. k (joined.Or v.0 v.1.0, v.1.1))
    ∙ g1 (st) (λ v. k (joined.Or x0 v.0, v.1))

pub halts_or : (a : Ahead) (e : SyntaxFault) → head a.left ≡ Some token.Or → Halts a e → Stops MoreCmps a e
halts_or a e h q = halts_at MoreCmps token.Or a e h q (λ p st. (
  (ACmp ∷ Ors ∷ st),
  (λ v. (joined.Or v.0 v.1.0, v.1.1)),
  refl,
))

pub stops_or_0 : (a b0 : Ahead) (p : Place) (e : SyntaxFault) → head a.left ≡ Some token.Or → Passes a p b0
    → Stops ACmp b0 e → Stops MoreCmps a e
stops_or_0 a b0 p e h q z = stops_by MoreCmps ACmp a b0 e (λ st k. (
  (Ors ∷ st),
  (λ v. k (joined.Or v.0 v.1.0, v.1.1)),
  passes_to MoreCmps token.Or a b0 p st (ACmp ∷ Ors ∷ st) (λ v. (joined.Or v.0 v.1.0, v.1.1)) h q refl k,
)) z

pub stops_or_1 : (a b0 b1 : Ahead) (p : Place) (x0 : Cmp) (e : SyntaxFault) → head a.left ≡ Some token.Or
    → Passes a p b0 → Gives ACmp b0 x0 b1 → Stops Ors b1 e → Stops MoreCmps a e
unfolding Gives
stops_or_1 a b0 b1 p x0 e h q g0 z = stops_by MoreCmps Ors a b1 e (λ st k. (
  (st),
  (λ v. k (joined.Or x0 v.0, v.1)),
  passes_to MoreCmps token.Or a b0 p st (ACmp ∷ Ors ∷ st) (λ v. (joined.Or v.0 v.1.0, v.1.1)) h q refl k
      ∙ g0 (Ors ∷ st) (λ v. k (joined.Or v.0 v.1.0, v.1.1)),
)) z

pub ruleset steps_or = (gives_or, halts_or, stops_or_0, stops_or_1, memory, reads_ok, reads_err)

open_expr : (b : Ahead) (p : Place) (st : Stack) (k : Values (AnExpr ∷ st) → Tree) → place_of b.left ≡ p
    → reading b.opened (AnExpr ∷ st) k b.left ≡ reading b.opened (ACmp ∷ MoreCmps ∷ st)
    (λ v. k (expr_of p v.0 v.1.0, v.1.1)) b.left
open_expr b p st k q = same_read b.opened (ACmp ∷ MoreCmps ∷ st) (AnExpr ∷ st)
    (λ v. (expr_of (place_of b.left) v.0 v.1.0, v.1.1)) k b.left (refl)
    ∙ ap (λ p. reading b.opened (ACmp ∷ MoreCmps ∷ st) (λ v. k (expr_of p v.0 v.1.0, v.1.1)) b.left) q

pub gives_expr : (b0 b1 b2 : Ahead) (p : Place) (x0 : Cmp) (x1 : Joined) → place_of b0.left ≡ p → Gives ACmp b0 x0 b1
    → Gives MoreCmps b1 x1 b2 → Gives AnExpr b0 (expr_of p x0 x1) b2
unfolding Gives
gives_expr b0 b1 b2 p x0 x1 q g0 g1 = λ st k.
    open_expr b0 p st k q
    ∙ g0 (MoreCmps ∷ st) (λ v. k (expr_of p v.0 v.1.0, v.1.1))
    ∙ g1 (st) (λ v. k (expr_of p x0 v.0, v.1))

pub stops_expr_0 : (b0 : Ahead) (p : Place) (e : SyntaxFault) → place_of b0.left ≡ p → Stops ACmp b0 e
    → Stops AnExpr b0 e
stops_expr_0 b0 p e q z = stops_by AnExpr ACmp b0 b0 e (λ st k. (
  (MoreCmps ∷ st),
  (λ v. k (expr_of p v.0 v.1.0, v.1.1)),
  open_expr b0 p st k q,
)) z

pub stops_expr_1 : (b0 b1 : Ahead) (p : Place) (x0 : Cmp) (e : SyntaxFault) → place_of b0.left ≡ p → Gives ACmp b0 x0 b1
    → Stops MoreCmps b1 e → Stops AnExpr b0 e
unfolding Gives
stops_expr_1 b0 b1 p x0 e q g0 z = stops_by AnExpr MoreCmps b0 b1 e (λ st k. (
  (st),
  (λ v. k (expr_of p x0 v.0, v.1)),
  open_expr b0 p st k q
      ∙ g0 (MoreCmps ∷ st) (λ v. k (expr_of p v.0 v.1.0, v.1.1)),
)) z

pub ruleset steps_expr = (gives_expr, stops_expr_0, stops_expr_1, memory, reads_ok, reads_err)

pub gives_where : (a b0 b1 : Ahead) (p : Place) (x0 : Expr) → head a.left ≡ Some token.Where → Passes a p b0
    → Gives AnExpr b0 x0 b1 → Gives Where a (Some x0) b1
unfolding Gives
gives_where a b0 b1 p x0 h q g0 = λ st k.
    passes_to Where token.Where a b0 p st (AnExpr ∷ st) (λ v. (Some v.0, v.1)) h q refl k
    ∙ g0 (st) (λ v. k (Some v.0, v.1))

pub halts_where : (a : Ahead) (e : SyntaxFault) → head a.left ≡ Some token.Where → Halts a e → Stops Where a e
halts_where a e h q = halts_at Where token.Where a e h q (λ p st. ((AnExpr ∷ st), (λ v. (Some v.0, v.1)), refl))

pub stops_where_0 : (a b0 : Ahead) (p : Place) (e : SyntaxFault) → head a.left ≡ Some token.Where → Passes a p b0
    → Stops AnExpr b0 e → Stops Where a e
stops_where_0 a b0 p e h q z = stops_by Where AnExpr a b0 e (λ st k. (
  (st),
  (λ v. k (Some v.0, v.1)),
  passes_to Where token.Where a b0 p st (AnExpr ∷ st) (λ v. (Some v.0, v.1)) h q refl k,
)) z

pub ruleset steps_where = (gives_where, halts_where, stops_where_0, memory, reads_ok, reads_err)

right_at_token : (r : Relation) (st : Stack) (next : Shift st) → m.right_at (Some (relation_token r)) st next
    ≡ Takes (ASum ∷ st) (λ v. (right.Related r v.0, v.1))
right_at_token relation.Equal st next = refl
right_at_token relation.NotEqual st next = refl
right_at_token relation.Less st next = refl
right_at_token relation.AtMost st next = refl
right_at_token relation.Greater st next = refl
right_at_token relation.AtLeast st next = refl

pub gives_right : (a b0 b1 : Ahead) (p : Place) (r : Relation) (x0 : Sum) → head a.left ≡ Some (relation_token r)
    → Passes a p b0 → Gives ASum b0 x0 b1 → Gives Right a (right.Related r x0) b1
unfolding Gives
gives_right a b0 b1 p r x0 h q g0 = λ st k.
    passes_to Right (relation_token r) a b0 p st (ASum ∷ st) (λ v. (right.Related r v.0, v.1)) h q
    (right_at_token r st (shift st (Some (relation_token r)) p)) k
    ∙ g0 (st) (λ v. k (right.Related r v.0, v.1))

pub halts_right : (a : Ahead) (e : SyntaxFault) (r : Relation) → head a.left ≡ Some (relation_token r)
    → Halts a e → Stops Right a e
halts_right a e r h q = halts_at Right (relation_token r) a e h q (λ p st. (
  (ASum ∷ st),
  (λ v. (right.Related r v.0, v.1)),
  right_at_token r st (shift st (Some (relation_token r)) p),
))

pub stops_right_0 : (a b0 : Ahead) (p : Place) (e : SyntaxFault) (r : Relation) → head a.left ≡ Some (relation_token r)
    → Passes a p b0 → Stops ASum b0 e → Stops Right a e
stops_right_0 a b0 p e r h q z = stops_by Right ASum a b0 e (λ st k. (
  (st),
  (λ v. k (right.Related r v.0, v.1)),
  passes_to Right (relation_token r) a b0 p st (ASum ∷ st) (λ v. (right.Related r v.0, v.1)) h q
      (right_at_token r st (shift st (Some (relation_token r)) p)) k,
)) z

pub ruleset steps_right = (gives_right, halts_right, stops_right_0, memory, reads_ok, reads_err)
