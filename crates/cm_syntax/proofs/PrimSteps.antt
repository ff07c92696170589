-- How the reader's steps add up. What stands for a primary expression, its key and its arguments.
use Rattle.std.proofs.Common.{◌≡◌, ℕ, true, List, [], ◌∷◌, Option, Some, refl, ap, ◌∙◌}
use Rattle.cm_model.specs.declared.place.Place.{Place}
use Rattle.cm_tokens.specs.declared.token.Token.{Token}
use Rattle.cm_tokens.specs.declared.token.Token.TheVariants as token
use Rattle.cm_syntax.specs.declared.mark.Mark.TheVariants as mark
use Rattle.cm_syntax.specs.declared.tree.Tree.{Tree}
use Rattle.cm_syntax.specs.declared.tree.Num.{Num}
use Rattle.cm_syntax.specs.declared.tree.«Type».{«Type» as TypeTree}
use Rattle.cm_syntax.specs.declared.tree.Expr.{Expr}
use Rattle.cm_syntax.specs.declared.tree.Primary.TheVariants as prim
use Rattle.cm_syntax.specs.declared.tails.AfterName.{AfterName}
use Rattle.cm_syntax.specs.declared.tails.AfterName.TheVariants as after
use Rattle.cm_syntax.specs.declared.fault.SyntaxFault.{SyntaxFault}
use Rattle.cm_syntax.specs.Spelling.{set_of}
use Rattle.cm_syntax.specs.Text.{place_of}
use Rattle.cm_syntax.specs.inner.Machine as m
use Rattle.cm_syntax.specs.inner.Machine.{Exactly, AName, ANum, AType, Key, AnExpr, ASet, APrim, BehindName, Args}
use Rattle.cm_syntax.specs.inner.Machine.{MoreArgs, Stack, Values, mapped, reading, Ahead, head, Gives, Stops, Passes}
use Rattle.cm_syntax.specs.inner.Machine.{Halts, after_name, starts_name, starts_num, no_close_round}
use Rattle.cm_syntax.proofs.Steps.{same_read, passes_to, halts_at, stops_by, memory, reads_ok, reads_err}

at_number : (o : Option Token) (p : Place) (st : Stack) → starts_num o ≡ true
    → m.prim_at o p st ≡ mapped (λ v. (prim.Number p v.0, v.1)) (m.num_at o p (st))
at_number (Some (token.Number n)) p st h = refl
at_number (Some token.Minus) p st h = refl
at_number o p st h = cc

open_number : (b : Ahead) (p : Place) (st : Stack) (k : Values (APrim ∷ st) → Tree) → place_of b.left ≡ p
    → starts_num (head b.left) ≡ true → reading b.opened (APrim ∷ st) k b.left ≡ reading b.opened (ANum ∷ st)
    (λ v. k (prim.Number p v.0, v.1)) b.left
open_number b p st k q w = same_read b.opened (ANum ∷ st) (APrim ∷ st) (λ v. (prim.Number (place_of b.left) v.0, v.1))
    k b.left (at_number (head b.left) (place_of b.left) st w)
    ∙ ap (λ p. reading b.opened (ANum ∷ st) (λ v. k (prim.Number p v.0, v.1)) b.left) q

pub gives_number : (b0 b1 : Ahead) (p : Place) (x0 : Num) → place_of b0.left ≡ p → starts_num (head b0.left) ≡ true
    → Gives ANum b0 x0 b1 → Gives APrim b0 (prim.Number p x0) b1
unfolding Gives
gives_number b0 b1 p x0 q w g0 = λ st k.
    open_number b0 p st k q w
    ∙ g0 (st) (λ v. k (prim.Number p v.0, v.1))

pub stops_number_0 : (b0 : Ahead) (p : Place) (e : SyntaxFault) → place_of b0.left ≡ p
    → starts_num (head b0.left) ≡ true → Stops ANum b0 e → Stops APrim b0 e
stops_number_0 b0 p e q w z = stops_by APrim ANum b0 b0 e (λ st k. (
  (st),
  (λ v. k (prim.Number p v.0, v.1)),
  open_number b0 p st k q w,
)) z

pub ruleset steps_number = (gives_number, stops_number_0, memory, reads_ok, reads_err)

pub gives_true : (a b0 : Ahead) (p : Place) → head a.left ≡ Some token.True → Passes a p b0
    → Gives APrim a (prim.True p) b0
unfolding Gives
gives_true a b0 p h q = λ st k.
    passes_to APrim token.True a b0 p st (st) (λ v. (prim.True p, v)) h q refl k

pub halts_true : (a : Ahead) (e : SyntaxFault) → head a.left ≡ Some token.True → Halts a e → Stops APrim a e
halts_true a e h q = halts_at APrim token.True a e h q (λ p st. ((st), (λ v. (prim.True p, v)), refl))

pub ruleset steps_true = (gives_true, halts_true, memory, reads_ok, reads_err)

pub gives_false : (a b0 : Ahead) (p : Place) → head a.left ≡ Some token.False → Passes a p b0
    → Gives APrim a (prim.False p) b0
unfolding Gives
gives_false a b0 p h q = λ st k.
    passes_to APrim token.False a b0 p st (st) (λ v. (prim.False p, v)) h q refl k

pub halts_false : (a : Ahead) (e : SyntaxFault) → head a.left ≡ Some token.False → Halts a e → Stops APrim a e
halts_false a e h q = halts_at APrim token.False a e h q (λ p st. ((st), (λ v. (prim.False p, v)), refl))

pub ruleset steps_false = (gives_false, halts_false, memory, reads_ok, reads_err)

pub gives_it : (a b0 : Ahead) (p : Place) → head a.left ≡ Some token.It → Passes a p b0 → Gives APrim a (prim.It p) b0
unfolding Gives
gives_it a b0 p h q = λ st k.
    passes_to APrim token.It a b0 p st (st) (λ v. (prim.It p, v)) h q refl k

pub halts_it : (a : Ahead) (e : SyntaxFault) → head a.left ≡ Some token.It → Halts a e → Stops APrim a e
halts_it a e h q = halts_at APrim token.It a e h q (λ p st. ((st), (λ v. (prim.It p, v)), refl))

pub ruleset steps_it = (gives_it, halts_it, memory, reads_ok, reads_err)

at_name : (o : Option Token) (p : Place) (st : Stack) → starts_name o ≡ true
    → m.prim_at o p st ≡ mapped (λ v. (after_name p v.0 v.1.0, v.1.1)) (m.name_at o (BehindName ∷ st))
at_name (Some (token.Name n)) p st h = refl
at_name o p st h = cc

open_name : (b : Ahead) (p : Place) (st : Stack) (k : Values (APrim ∷ st) → Tree) → place_of b.left ≡ p
    → starts_name (head b.left) ≡ true → reading b.opened (APrim ∷ st) k b.left ≡ reading b.opened
    (AName ∷ BehindName ∷ st) (λ v. k (after_name p v.0 v.1.0, v.1.1)) b.left
open_name b p st k q w = same_read b.opened (AName ∷ BehindName ∷ st) (APrim ∷ st)
    (λ v. (after_name (place_of b.left) v.0 v.1.0, v.1.1)) k b.left (at_name (head b.left) (place_of b.left) st w)
    ∙ ap (λ p. reading b.opened (AName ∷ BehindName ∷ st) (λ v. k (after_name p v.0 v.1.0, v.1.1)) b.left) q

pub gives_name : (b0 b1 b2 : Ahead) (p : Place) (x0 : List ℕ) (x1 : AfterName) → place_of b0.left ≡ p
    → starts_name (head b0.left) ≡ true → Gives AName b0 x0 b1 → Gives BehindName b1 x1 b2
    → Gives APrim b0 (after_name p x0 x1) b2
unfolding Gives
gives_name b0 b1 b2 p x0 x1 q w g0 g1 = λ st k.
    open_name b0 p st k q w
    ∙ g0 (BehindName ∷ st) (λ v. k (after_name p v.0 v.1.0, v.1.1))
    ∙ g1 (st) (λ v. k (after_name p x0 v.0, v.1))

pub stops_name_0 : (b0 : Ahead) (p : Place) (e : SyntaxFault) → place_of b0.left ≡ p → starts_name (head b0.left) ≡ true
    → Stops AName b0 e → Stops APrim b0 e
stops_name_0 b0 p e q w z = stops_by APrim AName b0 b0 e (λ st k. (
  (BehindName ∷ st),
  (λ v. k (after_name p v.0 v.1.0, v.1.1)),
  open_name b0 p st k q w,
)) z

pub stops_name_1 : (b0 b1 : Ahead) (p : Place) (x0 : List ℕ) (e : SyntaxFault) → place_of b0.left ≡ p
    → starts_name (head b0.left) ≡ true → Gives AName b0 x0 b1 → Stops BehindName b1 e → Stops APrim b0 e
unfolding Gives
stops_name_1 b0 b1 p x0 e q w g0 z = stops_by APrim BehindName b0 b1 e (λ st k. (
  (st),
  (λ v. k (after_name p x0 v.0, v.1)),
  open_name b0 p st k q w
      ∙ g0 (BehindName ∷ st) (λ v. k (after_name p v.0 v.1.0, v.1.1)),
)) z

pub ruleset steps_name = (gives_name, stops_name_0, stops_name_1, memory, reads_ok, reads_err)

pub gives_none : (a b0 b1 b2 b3 : Ahead) (p : Place) (x1 : TypeTree) → head a.left ≡ Some token.Nothing
    → Passes a p b0 → Gives (Exactly mark.OpenRound) b0 tt b1 → Gives AType b1 x1 b2
    → Gives (Exactly mark.CloseRound) b2 tt b3 → Gives APrim a (prim.NoneOf p x1) b3
unfolding Gives
gives_none a b0 b1 b2 b3 p x1 h q g0 g1 g2 = λ st k.
    passes_to APrim token.Nothing a b0 p st (Exactly mark.OpenRound ∷ AType ∷ Exactly mark.CloseRound ∷ st)
    (λ v. (prim.NoneOf p v.1.0, v.1.1.1)) h q refl k
    ∙ g0 (AType ∷ Exactly mark.CloseRound ∷ st) (λ v. k (prim.NoneOf p v.1.0, v.1.1.1))
    ∙ g1 (Exactly mark.CloseRound ∷ st) (λ v. k (prim.NoneOf p v.0, v.1.1))
    ∙ g2 (st) (λ v. k (prim.NoneOf p x1, v.1))

pub halts_none : (a : Ahead) (e : SyntaxFault) → head a.left ≡ Some token.Nothing → Halts a e → Stops APrim a e
halts_none a e h q = halts_at APrim token.Nothing a e h q
    (λ p st. (
      (Exactly mark.OpenRound ∷ AType ∷ Exactly mark.CloseRound ∷ st),
      (λ v. (prim.NoneOf p v.1.0, v.1.1.1)),
      refl,
    ))

pub stops_none_0 : (a b0 : Ahead) (p : Place) (e : SyntaxFault) → head a.left ≡ Some token.Nothing → Passes a p b0
    → Stops (Exactly mark.OpenRound) b0 e → Stops APrim a e
stops_none_0 a b0 p e h q z = stops_by APrim (Exactly mark.OpenRound) a b0 e (λ st k. (
  (AType ∷ Exactly mark.CloseRound ∷ st),
  (λ v. k (prim.NoneOf p v.1.0, v.1.1.1)),
  passes_to APrim token.Nothing a b0 p st (Exactly mark.OpenRound ∷ AType ∷ Exactly mark.CloseRound ∷ st)
      (λ v. (prim.NoneOf p v.1.0, v.1.1.1)) h q refl k,
)) z

pub stops_none_1 : (a b0 b1 : Ahead) (p : Place) (e : SyntaxFault) → head a.left ≡ Some token.Nothing
    → Passes a p b0 → Gives (Exactly mark.OpenRound) b0 tt b1 → Stops AType b1 e → Stops APrim a e
unfolding Gives
stops_none_1 a b0 b1 p e h q g0 z = stops_by APrim AType a b1 e (λ st k. (
  (Exactly mark.CloseRound ∷ st),
  (λ v. k (prim.NoneOf p v.0, v.1.1)),
  passes_to APrim token.Nothing a b0 p st (Exactly mark.OpenRound ∷ AType ∷ Exactly mark.CloseRound ∷ st)
      (λ v. (prim.NoneOf p v.1.0, v.1.1.1)) h q refl k
      ∙ g0 (AType ∷ Exactly mark.CloseRound ∷ st) (λ v. k (prim.NoneOf p v.1.0, v.1.1.1)),
)) z

pub stops_none_2 : (a b0 b1 b2 : Ahead) (p : Place) (x1 : TypeTree) (e : SyntaxFault) → head a.left ≡ Some token.Nothing
    → Passes a p b0 → Gives (Exactly mark.OpenRound) b0 tt b1 → Gives AType b1 x1 b2
    → Stops (Exactly mark.CloseRound) b2 e → Stops APrim a e
unfolding Gives
stops_none_2 a b0 b1 b2 p x1 e h q g0 g1 z = stops_by APrim (Exactly mark.CloseRound) a b2 e (λ st k. (
  (st),
  (λ v. k (prim.NoneOf p x1, v.1)),
  passes_to APrim token.Nothing a b0 p st (Exactly mark.OpenRound ∷ AType ∷ Exactly mark.CloseRound ∷ st)
      (λ v. (prim.NoneOf p v.1.0, v.1.1.1)) h q refl k
      ∙ g0 (AType ∷ Exactly mark.CloseRound ∷ st) (λ v. k (prim.NoneOf p v.1.0, v.1.1.1))
      ∙ g1 (Exactly mark.CloseRound ∷ st) (λ v. k (prim.NoneOf p v.0, v.1.1)),
)) z

pub ruleset steps_none = (gives_none, halts_none, stops_none_0, stops_none_1, stops_none_2, memory, reads_ok, reads_err)

pub gives_some : (a b0 b1 b2 b3 : Ahead) (p : Place) (x1 : Expr) → head a.left ≡ Some token.Something
    → Passes a p b0 → Gives (Exactly mark.OpenRound) b0 tt b1 → Gives AnExpr b1 x1 b2
    → Gives (Exactly mark.CloseRound) b2 tt b3 → Gives APrim a (prim.SomeOf p x1) b3
unfolding Gives
gives_some a b0 b1 b2 b3 p x1 h q g0 g1 g2 = λ st k.
    passes_to APrim token.Something a b0 p st (Exactly mark.OpenRound ∷ AnExpr ∷ Exactly mark.CloseRound ∷ st)
    (λ v. (prim.SomeOf p v.1.0, v.1.1.1)) h q refl k
    ∙ g0 (AnExpr ∷ Exactly mark.CloseRound ∷ st) (λ v. k (prim.SomeOf p v.1.0, v.1.1.1))
    ∙ g1 (Exactly mark.CloseRound ∷ st) (λ v. k (prim.SomeOf p v.0, v.1.1))
    ∙ g2 (st) (λ v. k (prim.SomeOf p x1, v.1))

pub halts_some : (a : Ahead) (e : SyntaxFault) → head a.left ≡ Some token.Something → Halts a e → Stops APrim a e
halts_some a e h q = halts_at APrim token.Something a e h q
    (λ p st. (
      (Exactly mark.OpenRound ∷ AnExpr ∷ Exactly mark.CloseRound ∷ st),
      (λ v. (prim.SomeOf p v.1.0, v.1.1.1)),
      refl,
    ))

pub stops_some_0 : (a b0 : Ahead) (p : Place) (e : SyntaxFault) → head a.left ≡ Some token.Something
    → Passes a p b0 → Stops (Exactly mark.OpenRound) b0 e → Stops APrim a e
stops_some_0 a b0 p e h q z = stops_by APrim (Exactly mark.OpenRound) a b0 e (λ st k. (
  (AnExpr ∷ Exactly mark.CloseRound ∷ st),
  (λ v. k (prim.SomeOf p v.1.0, v.1.1.1)),
  passes_to APrim token.Something a b0 p st (Exactly mark.OpenRound ∷ AnExpr ∷ Exactly mark.CloseRound ∷ st)
      (λ v. (prim.SomeOf p v.1.0, v.1.1.1)) h q refl k,
)) z

pub stops_some_1 : (a b0 b1 : Ahead) (p : Place) (e : SyntaxFault) → head a.left ≡ Some token.Something
    → Passes a p b0 → Gives (Exactly mark.OpenRound) b0 tt b1 → Stops AnExpr b1 e → Stops APrim a e
unfolding Gives
stops_some_1 a b0 b1 p e h q g0 z = stops_by APrim AnExpr a b1 e (λ st k. (
  (Exactly mark.CloseRound ∷ st),
  (λ v. k (prim.SomeOf p v.0, v.1.1)),
  passes_to APrim token.Something a b0 p st (Exactly mark.OpenRound ∷ AnExpr ∷ Exactly mark.CloseRound ∷ st)
      (λ v. (prim.SomeOf p v.1.0, v.1.1.1)) h q refl k
      ∙ g0 (AnExpr ∷ Exactly mark.CloseRound ∷ st) (λ v. k (prim.SomeOf p v.1.0, v.1.1.1)),
)) z

pub stops_some_2 : (a b0 b1 b2 : Ahead) (p : Place) (x1 : Expr) (e : SyntaxFault) → head a.left ≡ Some token.Something
    → Passes a p b0 → Gives (Exactly mark.OpenRound) b0 tt b1 → Gives AnExpr b1 x1 b2
    → Stops (Exactly mark.CloseRound) b2 e → Stops APrim a e
unfolding Gives
stops_some_2 a b0 b1 b2 p x1 e h q g0 g1 z = stops_by APrim (Exactly mark.CloseRound) a b2 e (λ st k. (
  (st),
  (λ v. k (prim.SomeOf p x1, v.1)),
  passes_to APrim token.Something a b0 p st (Exactly mark.OpenRound ∷ AnExpr ∷ Exactly mark.CloseRound ∷ st)
      (λ v. (prim.SomeOf p v.1.0, v.1.1.1)) h q refl k
      ∙ g0 (AnExpr ∷ Exactly mark.CloseRound ∷ st) (λ v. k (prim.SomeOf p v.1.0, v.1.1.1))
      ∙ g1 (Exactly mark.CloseRound ∷ st) (λ v. k (prim.SomeOf p v.0, v.1.1)),
)) z

pub ruleset steps_some = (gives_some, halts_some, stops_some_0, stops_some_1, stops_some_2, memory, reads_ok, reads_err)

pub gives_group : (a b0 b1 b2 : Ahead) (p : Place) (x0 : Expr) → head a.left ≡ Some token.OpenRound → Passes a p b0
    → Gives AnExpr b0 x0 b1 → Gives (Exactly mark.CloseRound) b1 tt b2 → Gives APrim a (prim.Group p x0) b2
unfolding Gives
gives_group a b0 b1 b2 p x0 h q g0 g1 = λ st k.
    passes_to APrim token.OpenRound a b0 p st (AnExpr ∷ Exactly mark.CloseRound ∷ st) (λ v. (prim.Group p v.0, v.1.1))
    h q refl k
    ∙ g0 (Exactly mark.CloseRound ∷ st) (λ v. k (prim.Group p v.0, v.1.1))
    ∙ g1 (st) (λ v. k (prim.Group p x0, v.1))

pub halts_group : (a : Ahead) (e : SyntaxFault) → head a.left ≡ Some token.OpenRound → Halts a e → Stops APrim a e
halts_group a e h q = halts_at APrim token.OpenRound a e h q (λ p st. (
  (AnExpr ∷ Exactly mark.CloseRound ∷ st),
  (λ v. (prim.Group p v.0, v.1.1)),
  refl,
))

pub stops_group_0 : (a b0 : Ahead) (p : Place) (e : SyntaxFault) → head a.left ≡ Some token.OpenRound
    → Passes a p b0 → Stops AnExpr b0 e → Stops APrim a e
stops_group_0 a b0 p e h q z = stops_by APrim AnExpr a b0 e (λ st k. (
  (Exactly mark.CloseRound ∷ st),
  (λ v. k (prim.Group p v.0, v.1.1)),
  passes_to APrim token.OpenRound a b0 p st (AnExpr ∷ Exactly mark.CloseRound ∷ st) (λ v. (prim.Group p v.0, v.1.1))
      h q refl k,
)) z

pub stops_group_1 : (a b0 b1 : Ahead) (p : Place) (x0 : Expr) (e : SyntaxFault) → head a.left ≡ Some token.OpenRound
    → Passes a p b0 → Gives AnExpr b0 x0 b1 → Stops (Exactly mark.CloseRound) b1 e → Stops APrim a e
unfolding Gives
stops_group_1 a b0 b1 p x0 e h q g0 z = stops_by APrim (Exactly mark.CloseRound) a b1 e (λ st k. (
  (st),
  (λ v. k (prim.Group p x0, v.1)),
  passes_to APrim token.OpenRound a b0 p st (AnExpr ∷ Exactly mark.CloseRound ∷ st) (λ v. (prim.Group p v.0, v.1.1))
      h q refl k
      ∙ g0 (Exactly mark.CloseRound ∷ st) (λ v. k (prim.Group p v.0, v.1.1)),
)) z

pub ruleset steps_group = (gives_group, halts_group, stops_group_0, stops_group_1, memory, reads_ok, reads_err)

pub gives_key : (a b0 b1 b2 : Ahead) (p : Place) (x0 : Expr) → head a.left ≡ Some token.OpenSquare → Passes a p b0
    → Gives AnExpr b0 x0 b1 → Gives (Exactly mark.CloseSquare) b1 tt b2 → Gives BehindName a (after.Key x0) b2
unfolding Gives
gives_key a b0 b1 b2 p x0 h q g0 g1 = λ st k.
    passes_to BehindName token.OpenSquare a b0 p st (AnExpr ∷ Exactly mark.CloseSquare ∷ st)
    (λ v. (after.Key v.0, v.1.1)) h q refl k
    ∙ g0 (Exactly mark.CloseSquare ∷ st) (λ v. k (after.Key v.0, v.1.1))
    ∙ g1 (st) (λ v. k (after.Key x0, v.1))

pub halts_key : (a : Ahead) (e : SyntaxFault) → head a.left ≡ Some token.OpenSquare → Halts a e → Stops BehindName a e
halts_key a e h q = halts_at BehindName token.OpenSquare a e h q (λ p st. (
  (AnExpr ∷ Exactly mark.CloseSquare ∷ st),
  (λ v. (after.Key v.0, v.1.1)),
  refl,
))

pub stops_key_0 : (a b0 : Ahead) (p : Place) (e : SyntaxFault) → head a.left ≡ Some token.OpenSquare
    → Passes a p b0 → Stops AnExpr b0 e → Stops BehindName a e
stops_key_0 a b0 p e h q z = stops_by BehindName AnExpr a b0 e (λ st k. (
  (Exactly mark.CloseSquare ∷ st),
  (λ v. k (after.Key v.0, v.1.1)),
  passes_to BehindName token.OpenSquare a b0 p st (AnExpr ∷ Exactly mark.CloseSquare ∷ st) (λ v. (after.Key v.0, v.1.1))
      h q refl k,
)) z

pub stops_key_1 : (a b0 b1 : Ahead) (p : Place) (x0 : Expr) (e : SyntaxFault) → head a.left ≡ Some token.OpenSquare
    → Passes a p b0 → Gives AnExpr b0 x0 b1 → Stops (Exactly mark.CloseSquare) b1 e → Stops BehindName a e
unfolding Gives
stops_key_1 a b0 b1 p x0 e h q g0 z = stops_by BehindName (Exactly mark.CloseSquare) a b1 e (λ st k. (
  (st),
  (λ v. k (after.Key x0, v.1)),
  passes_to BehindName token.OpenSquare a b0 p st (AnExpr ∷ Exactly mark.CloseSquare ∷ st) (λ v. (after.Key v.0, v.1.1))
      h q refl k
      ∙ g0 (Exactly mark.CloseSquare ∷ st) (λ v. k (after.Key v.0, v.1.1)),
)) z

pub ruleset steps_key = (gives_key, halts_key, stops_key_0, stops_key_1, memory, reads_ok, reads_err)

pub gives_arguments : (a b0 b1 : Ahead) (p : Place) (x0 : List Expr) → head a.left ≡ Some token.OpenRound
    → Passes a p b0 → Gives Args b0 x0 b1 → Gives BehindName a (after.Args x0) b1
unfolding Gives
gives_arguments a b0 b1 p x0 h q g0 = λ st k.
    passes_to BehindName token.OpenRound a b0 p st (Args ∷ st) (λ v. (after.Args v.0, v.1)) h q refl k
    ∙ g0 (st) (λ v. k (after.Args v.0, v.1))

pub halts_arguments : (a : Ahead) (e : SyntaxFault) → head a.left ≡ Some token.OpenRound → Halts a e
    → Stops BehindName a e
halts_arguments a e h q = halts_at BehindName token.OpenRound a e h q (λ p st. (
  (Args ∷ st),
  (λ v. (after.Args v.0, v.1)),
  refl,
))

pub stops_arguments_0 : (a b0 : Ahead) (p : Place) (e : SyntaxFault) → head a.left ≡ Some token.OpenRound
    → Passes a p b0 → Stops Args b0 e → Stops BehindName a e
stops_arguments_0 a b0 p e h q z = stops_by BehindName Args a b0 e (λ st k. (
  (st),
  (λ v. k (after.Args v.0, v.1)),
  passes_to BehindName token.OpenRound a b0 p st (Args ∷ st) (λ v. (after.Args v.0, v.1)) h q refl k,
)) z

pub ruleset steps_arguments = (gives_arguments, halts_arguments, stops_arguments_0, memory, reads_ok, reads_err)

pub gives_no_args : (a b0 : Ahead) (p : Place) → head a.left ≡ Some token.CloseRound → Passes a p b0
    → Gives Args a [] b0
unfolding Gives
gives_no_args a b0 p h q = λ st k.
    passes_to Args token.CloseRound a b0 p st (st) (λ v. ([], v)) h q refl k

pub halts_no_args : (a : Ahead) (e : SyntaxFault) → head a.left ≡ Some token.CloseRound → Halts a e → Stops Args a e
halts_no_args a e h q = halts_at Args token.CloseRound a e h q (λ p st. ((st), (λ v. ([], v)), refl))

pub ruleset steps_no_args = (gives_no_args, halts_no_args, memory, reads_ok, reads_err)

at_some_args : (o : Option Token) (p : Place) (st : Stack) → no_close_round o ≡ true
    → m.args_at o p st ≡ mapped (λ v. (v.0 ∷ v.1.0, v.1.1.1)) (m.expr_at o p (MoreArgs ∷ Exactly mark.CloseRound ∷ st))
at_some_args (Some token.CloseRound) p st h = cc
at_some_args o p st h = refl

open_some_args : (b : Ahead) (st : Stack) (k : Values (Args ∷ st) → Tree) → no_close_round (head b.left) ≡ true
    → reading b.opened (Args ∷ st) k b.left ≡ reading b.opened (AnExpr ∷ MoreArgs ∷ Exactly mark.CloseRound ∷ st)
    (λ v. k (v.0 ∷ v.1.0, v.1.1.1)) b.left
open_some_args b st k w = same_read b.opened (AnExpr ∷ MoreArgs ∷ Exactly mark.CloseRound ∷ st) (Args ∷ st)
    (λ v. (v.0 ∷ v.1.0, v.1.1.1)) k b.left (at_some_args (head b.left) (place_of b.left) st w)

pub gives_some_args : (b0 b1 b2 b3 : Ahead) (x0 : Expr) (x1 : List Expr) → no_close_round (head b0.left) ≡ true
    → Gives AnExpr b0 x0 b1 → Gives MoreArgs b1 x1 b2 → Gives (Exactly mark.CloseRound) b2 tt b3
    → Gives Args b0 (x0 ∷ x1) b3
unfolding Gives
gives_some_args b0 b1 b2 b3 x0 x1 w g0 g1 g2 = λ st k.
    open_some_args b0 st k w
    ∙ g0 (MoreArgs ∷ Exactly mark.CloseRound ∷ st) (λ v. k (v.0 ∷ v.1.0, v.1.1.1))
    ∙ g1 (Exactly mark.CloseRound ∷ st) (λ v. k (x0 ∷ v.0, v.1.1))
    ∙ g2 (st) (λ v. k (x0 ∷ x1, v.1))

pub stops_some_args_0 : (b0 : Ahead) (e : SyntaxFault) → no_close_round (head b0.left) ≡ true → Stops AnExpr b0 e
    → Stops Args b0 e
stops_some_args_0 b0 e w z = stops_by Args AnExpr b0 b0 e (λ st k. (
  (MoreArgs ∷ Exactly mark.CloseRound ∷ st),
  (λ v. k (v.0 ∷ v.1.0, v.1.1.1)),
  open_some_args b0 st k w,
)) z

pub stops_some_args_1 : (b0 b1 : Ahead) (x0 : Expr) (e : SyntaxFault) → no_close_round (head b0.left) ≡ true
    → Gives AnExpr b0 x0 b1 → Stops MoreArgs b1 e → Stops Args b0 e
unfolding Gives
stops_some_args_1 b0 b1 x0 e w g0 z = stops_by Args MoreArgs b0 b1 e (λ st k. (
  (Exactly mark.CloseRound ∷ st),
  (λ v. k (x0 ∷ v.0, v.1.1)),
  open_some_args b0 st k w
      ∙ g0 (MoreArgs ∷ Exactly mark.CloseRound ∷ st) (λ v. k (v.0 ∷ v.1.0, v.1.1.1)),
)) z

pub stops_some_args_2 : (b0 b1 b2 : Ahead) (x0 : Expr) (x1 : List Expr) (e : SyntaxFault)
    → no_close_round (head b0.left) ≡ true → Gives AnExpr b0 x0 b1 → Gives MoreArgs b1 x1 b2
    → Stops (Exactly mark.CloseRound) b2 e → Stops Args b0 e
unfolding Gives
stops_some_args_2 b0 b1 b2 x0 x1 e w g0 g1 z = stops_by Args (Exactly mark.CloseRound) b0 b2 e (λ st k. (
  (st),
  (λ v. k (x0 ∷ x1, v.1)),
  open_some_args b0 st k w
      ∙ g0 (MoreArgs ∷ Exactly mark.CloseRound ∷ st) (λ v. k (v.0 ∷ v.1.0, v.1.1.1))
      ∙ g1 (Exactly mark.CloseRound ∷ st) (λ v. k (x0 ∷ v.0, v.1.1)),
)) z

pub ruleset steps_some_args = (
  gives_some_args,
  stops_some_args_0,
  stops_some_args_1,
  stops_some_args_2,
  memory,
  reads_ok,
  reads_err,
)

open_set : (b : Ahead) (p : Place) (st : Stack) (k : Values (ASet ∷ st) → Tree) → place_of b.left ≡ p
    → reading b.opened (ASet ∷ st) k b.left ≡ reading b.opened (AName ∷ Exactly mark.Colon ∷ AnExpr ∷ st)
    (λ v. k (set_of p v.0 v.1.1.0, v.1.1.1)) b.left
open_set b p st k q = same_read b.opened (AName ∷ Exactly mark.Colon ∷ AnExpr ∷ st) (ASet ∷ st)
    (λ v. (set_of (place_of b.left) v.0 v.1.1.0, v.1.1.1)) k b.left (refl)
    ∙ ap (λ p. reading b.opened (AName ∷ Exactly mark.Colon ∷ AnExpr ∷ st) (λ v. k (set_of p v.0 v.1.1.0, v.1.1.1))
    b.left) q

pub gives_set : (b0 b1 b2 b3 : Ahead) (p : Place) (x0 : List ℕ) (x2 : Expr) → place_of b0.left ≡ p
    → Gives AName b0 x0 b1 → Gives (Exactly mark.Colon) b1 tt b2 → Gives AnExpr b2 x2 b3
    → Gives ASet b0 (set_of p x0 x2) b3
unfolding Gives
gives_set b0 b1 b2 b3 p x0 x2 q g0 g1 g2 = λ st k.
    open_set b0 p st k q
    ∙ g0 (Exactly mark.Colon ∷ AnExpr ∷ st) (λ v. k (set_of p v.0 v.1.1.0, v.1.1.1))
    ∙ g1 (AnExpr ∷ st) (λ v. k (set_of p x0 v.1.0, v.1.1))
    ∙ g2 (st) (λ v. k (set_of p x0 v.0, v.1))

pub stops_set_0 : (b0 : Ahead) (p : Place) (e : SyntaxFault) → place_of b0.left ≡ p → Stops AName b0 e → Stops ASet b0 e
stops_set_0 b0 p e q z = stops_by ASet AName b0 b0 e (λ st k. (
  (Exactly mark.Colon ∷ AnExpr ∷ st),
  (λ v. k (set_of p v.0 v.1.1.0, v.1.1.1)),
  open_set b0 p st k q,
)) z

pub stops_set_1 : (b0 b1 : Ahead) (p : Place) (x0 : List ℕ) (e : SyntaxFault) → place_of b0.left ≡ p
    → Gives AName b0 x0 b1 → Stops (Exactly mark.Colon) b1 e → Stops ASet b0 e
unfolding Gives
stops_set_1 b0 b1 p x0 e q g0 z = stops_by ASet (Exactly mark.Colon) b0 b1 e (λ st k. (
  (AnExpr ∷ st),
  (λ v. k (set_of p x0 v.1.0, v.1.1)),
  open_set b0 p st k q
      ∙ g0 (Exactly mark.Colon ∷ AnExpr ∷ st) (λ v. k (set_of p v.0 v.1.1.0, v.1.1.1)),
)) z

pub stops_set_2 : (b0 b1 b2 : Ahead) (p : Place) (x0 : List ℕ) (e : SyntaxFault) → place_of b0.left ≡ p
    → Gives AName b0 x0 b1 → Gives (Exactly mark.Colon) b1 tt b2 → Stops AnExpr b2 e → Stops ASet b0 e
unfolding Gives
stops_set_2 b0 b1 b2 p x0 e q g0 g1 z = stops_by ASet AnExpr b0 b2 e (λ st k. (
  (st),
  (λ v. k (set_of p x0 v.0, v.1)),
  open_set b0 p st k q
      ∙ g0 (Exactly mark.Colon ∷ AnExpr ∷ st) (λ v. k (set_of p v.0 v.1.1.0, v.1.1.1))
      ∙ g1 (AnExpr ∷ st) (λ v. k (set_of p x0 v.1.0, v.1.1)),
)) z

pub ruleset steps_set = (gives_set, stops_set_0, stops_set_1, stops_set_2, memory, reads_ok, reads_err)
