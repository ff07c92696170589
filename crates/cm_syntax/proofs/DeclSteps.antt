-- How the reader's steps add up. What stands for declarations and a whole text.
use Rattle.std.proofs.Common.{◌≡◌, ℕ, List, ◌∷◌, Option, Some, refl, ◌∙◌, ap}
use Rattle.cm_model.specs.declared.place.Place.{Place}
use Rattle.cm_tokens.specs.declared.token.Token.TheVariants as token
use Rattle.cm_syntax.specs.declared.mark.Mark.TheVariants as mark
use Rattle.cm_syntax.specs.declared.tree.Tree.{Tree}
use Rattle.cm_syntax.specs.declared.tree.Decl.{Decl}
use Rattle.cm_syntax.specs.declared.tree.Decl.TheVariants as decl
use Rattle.cm_syntax.specs.declared.tree.Num.{Num}
use Rattle.cm_syntax.specs.declared.tree.Part.{Part}
use Rattle.cm_syntax.specs.declared.tree.«Type».{«Type» as TypeTree}
use Rattle.cm_syntax.specs.declared.tree.Block.{Block}
use Rattle.cm_syntax.specs.declared.tree.Expr.{Expr}
use Rattle.cm_syntax.specs.declared.fault.SyntaxFault.{SyntaxFault}
use Rattle.cm_syntax.specs.Text.{place_of}
use Rattle.cm_syntax.specs.inner.Machine.{Exactly, AName, ANum, AType, APart, MoreParts, Params, MoreNames, Key, Where}
use Rattle.cm_syntax.specs.inner.Machine.{ADecl, Stack, Values, reading, Decls, ABlock, Text, Ahead, head, Gives, Stops}
use Rattle.cm_syntax.specs.inner.Machine.{Passes, Halts, state_of, tree_of}
use Rattle.cm_syntax.proofs.Steps.{same_read, passes_to, halts_at, stops_by, memory, reads_ok, reads_err}

pub gives_sort : (a b0 b1 b2 : Ahead) (p : Place) (x0 : List ℕ) → head a.left ≡ Some token.Sort → Passes a p b0
    → Gives AName b0 x0 b1 → Gives (Exactly mark.Semicolon) b1 tt b2 → Gives ADecl a (decl.Sort p x0) b2
unfolding Gives
gives_sort a b0 b1 b2 p x0 h q g0 g1 = λ st k.
    passes_to ADecl token.Sort a b0 p st (AName ∷ Exactly mark.Semicolon ∷ st) (λ v. (decl.Sort p v.0, v.1.1))
    h q refl k
    ∙ g0 (Exactly mark.Semicolon ∷ st) (λ v. k (decl.Sort p v.0, v.1.1))
    ∙ g1 (st) (λ v. k (decl.Sort p x0, v.1))

pub halts_sort : (a : Ahead) (e : SyntaxFault) → head a.left ≡ Some token.Sort → Halts a e → Stops ADecl a e
halts_sort a e h q = halts_at ADecl token.Sort a e h q (λ p st. (
  (AName ∷ Exactly mark.Semicolon ∷ st),
  (λ v. (decl.Sort p v.0, v.1.1)),
  refl,
))

pub stops_sort_0 : (a b0 : Ahead) (p : Place) (e : SyntaxFault) → head a.left ≡ Some token.Sort → Passes a p b0
    → Stops AName b0 e → Stops ADecl a e
stops_sort_0 a b0 p e h q z = stops_by ADecl AName a b0 e (λ st k. (
  (Exactly mark.Semicolon ∷ st),
  (λ v. k (decl.Sort p v.0, v.1.1)),
  passes_to ADecl token.Sort a b0 p st (AName ∷ Exactly mark.Semicolon ∷ st) (λ v. (decl.Sort p v.0, v.1.1)) h q refl k,
)) z

pub stops_sort_1 : (a b0 b1 : Ahead) (p : Place) (x0 : List ℕ) (e : SyntaxFault) → head a.left ≡ Some token.Sort
    → Passes a p b0 → Gives AName b0 x0 b1 → Stops (Exactly mark.Semicolon) b1 e → Stops ADecl a e
unfolding Gives
stops_sort_1 a b0 b1 p x0 e h q g0 z = stops_by ADecl (Exactly mark.Semicolon) a b1 e (λ st k. (
  (st),
  (λ v. k (decl.Sort p x0, v.1)),
  passes_to ADecl token.Sort a b0 p st (AName ∷ Exactly mark.Semicolon ∷ st) (λ v. (decl.Sort p v.0, v.1.1)) h q refl k
      ∙ g0 (Exactly mark.Semicolon ∷ st) (λ v. k (decl.Sort p v.0, v.1.1)),
)) z

pub ruleset steps_sort = (gives_sort, halts_sort, stops_sort_0, stops_sort_1, memory, reads_ok, reads_err)

pub gives_int : (a b0 b1 b2 b3 b4 b5 : Ahead) (p : Place) (x0 : List ℕ) (x1 : Num) (x3 : Num)
    → head a.left ≡ Some token.Int → Passes a p b0 → Gives AName b0 x0 b1 → Gives ANum b1 x1 b2
    → Gives (Exactly mark.DotDot) b2 tt b3 → Gives ANum b3 x3 b4 → Gives (Exactly mark.Semicolon) b4 tt b5
    → Gives ADecl a (decl.Int p x0 x1 x3) b5
unfolding Gives
gives_int a b0 b1 b2 b3 b4 b5 p x0 x1 x3 h q g0 g1 g2 g3 g4 = λ st k.
    passes_to ADecl token.Int a b0 p st (AName ∷ ANum ∷ Exactly mark.DotDot ∷ ANum ∷ Exactly mark.Semicolon ∷ st)
    (λ v. (decl.Int p v.0 v.1.0 v.1.1.1.0, v.1.1.1.1.1)) h q refl k
    ∙ g0 (ANum ∷ Exactly mark.DotDot ∷ ANum ∷ Exactly mark.Semicolon ∷ st) (λ v. k (
      decl.Int p v.0 v.1.0 v.1.1.1.0,
      v.1.1.1.1.1,
    ))
    ∙ g1 (Exactly mark.DotDot ∷ ANum ∷ Exactly mark.Semicolon ∷ st) (λ v. k (decl.Int p x0 v.0 v.1.1.0, v.1.1.1.1))
    ∙ g2 (ANum ∷ Exactly mark.Semicolon ∷ st) (λ v. k (decl.Int p x0 x1 v.1.0, v.1.1.1))
    ∙ g3 (Exactly mark.Semicolon ∷ st) (λ v. k (decl.Int p x0 x1 v.0, v.1.1))
    ∙ g4 (st) (λ v. k (decl.Int p x0 x1 x3, v.1))

pub halts_int : (a : Ahead) (e : SyntaxFault) → head a.left ≡ Some token.Int → Halts a e → Stops ADecl a e
halts_int a e h q = halts_at ADecl token.Int a e h q
    (λ p st. (
      (AName ∷ ANum ∷ Exactly mark.DotDot ∷ ANum ∷ Exactly mark.Semicolon ∷ st),
      (λ v. (decl.Int p v.0 v.1.0 v.1.1.1.0, v.1.1.1.1.1)),
      refl,
    ))

pub stops_int_0 : (a b0 : Ahead) (p : Place) (e : SyntaxFault) → head a.left ≡ Some token.Int → Passes a p b0
    → Stops AName b0 e → Stops ADecl a e
stops_int_0 a b0 p e h q z = stops_by ADecl AName a b0 e (λ st k. (
  (ANum ∷ Exactly mark.DotDot ∷ ANum ∷ Exactly mark.Semicolon ∷ st),
  (λ v. k (decl.Int p v.0 v.1.0 v.1.1.1.0, v.1.1.1.1.1)),
  passes_to ADecl token.Int a b0 p st (AName ∷ ANum ∷ Exactly mark.DotDot ∷ ANum ∷ Exactly mark.Semicolon ∷ st)
      (λ v. (decl.Int p v.0 v.1.0 v.1.1.1.0, v.1.1.1.1.1)) h q refl k,
)) z

pub stops_int_1 : (a b0 b1 : Ahead) (p : Place) (x0 : List ℕ) (e : SyntaxFault) → head a.left ≡ Some token.Int
    → Passes a p b0 → Gives AName b0 x0 b1 → Stops ANum b1 e → Stops ADecl a e
unfolding Gives
stops_int_1 a b0 b1 p x0 e h q g0 z = stops_by ADecl ANum a b1 e (λ st k. (
  (Exactly mark.DotDot ∷ ANum ∷ Exactly mark.Semicolon ∷ st),
  (λ v. k (decl.Int p x0 v.0 v.1.1.0, v.1.1.1.1)),
  passes_to ADecl token.Int a b0 p st (AName ∷ ANum ∷ Exactly mark.DotDot ∷ ANum ∷ Exactly mark.Semicolon ∷ st)
      (λ v. (decl.Int p v.0 v.1.0 v.1.1.1.0, v.1.1.1.1.1)) h q refl k
      ∙ g0 (ANum ∷ Exactly mark.DotDot ∷ ANum ∷ Exactly mark.Semicolon ∷ st) (λ v. k (
        decl.Int p v.0 v.1.0 v.1.1.1.0,
        v.1.1.1.1.1,
      )),
)) z

pub stops_int_2 : (a b0 b1 b2 : Ahead) (p : Place) (x0 : List ℕ) (x1 : Num) (e : SyntaxFault)
    → head a.left ≡ Some token.Int → Passes a p b0 → Gives AName b0 x0 b1 → Gives ANum b1 x1 b2
    → Stops (Exactly mark.DotDot) b2 e → Stops ADecl a e
unfolding Gives
stops_int_2 a b0 b1 b2 p x0 x1 e h q g0 g1 z = stops_by ADecl (Exactly mark.DotDot) a b2 e (λ st k. (
  (ANum ∷ Exactly mark.Semicolon ∷ st),
  (λ v. k (decl.Int p x0 x1 v.1.0, v.1.1.1)),
  passes_to ADecl token.Int a b0 p st (AName ∷ ANum ∷ Exactly mark.DotDot ∷ ANum ∷ Exactly mark.Semicolon ∷ st)
      (λ v. (decl.Int p v.0 v.1.0 v.1.1.1.0, v.1.1.1.1.1)) h q refl k
      ∙ g0 (ANum ∷ Exactly mark.DotDot ∷ ANum ∷ Exactly mark.Semicolon ∷ st) (λ v. k (
        decl.Int p v.0 v.1.0 v.1.1.1.0,
        v.1.1.1.1.1,
      ))
      ∙ g1 (Exactly mark.DotDot ∷ ANum ∷ Exactly mark.Semicolon ∷ st) (λ v. k (decl.Int p x0 v.0 v.1.1.0, v.1.1.1.1)),
)) z

pub stops_int_3 : (a b0 b1 b2 b3 : Ahead) (p : Place) (x0 : List ℕ) (x1 : Num) (e : SyntaxFault)
    → head a.left ≡ Some token.Int → Passes a p b0 → Gives AName b0 x0 b1 → Gives ANum b1 x1 b2
    → Gives (Exactly mark.DotDot) b2 tt b3 → Stops ANum b3 e → Stops ADecl a e
unfolding Gives
stops_int_3 a b0 b1 b2 b3 p x0 x1 e h q g0 g1 g2 z = stops_by ADecl ANum a b3 e (λ st k. (
  (Exactly mark.Semicolon ∷ st),
  (λ v. k (decl.Int p x0 x1 v.0, v.1.1)),
  passes_to ADecl token.Int a b0 p st (AName ∷ ANum ∷ Exactly mark.DotDot ∷ ANum ∷ Exactly mark.Semicolon ∷ st)
      (λ v. (decl.Int p v.0 v.1.0 v.1.1.1.0, v.1.1.1.1.1)) h q refl k
      ∙ g0 (ANum ∷ Exactly mark.DotDot ∷ ANum ∷ Exactly mark.Semicolon ∷ st) (λ v. k (
        decl.Int p v.0 v.1.0 v.1.1.1.0,
        v.1.1.1.1.1,
      ))
      ∙ g1 (Exactly mark.DotDot ∷ ANum ∷ Exactly mark.Semicolon ∷ st) (λ v. k (decl.Int p x0 v.0 v.1.1.0, v.1.1.1.1))
      ∙ g2 (ANum ∷ Exactly mark.Semicolon ∷ st) (λ v. k (decl.Int p x0 x1 v.1.0, v.1.1.1)),
)) z

pub stops_int_4 : (a b0 b1 b2 b3 b4 : Ahead) (p : Place) (x0 : List ℕ) (x1 : Num) (x3 : Num) (e : SyntaxFault)
    → head a.left ≡ Some token.Int → Passes a p b0 → Gives AName b0 x0 b1 → Gives ANum b1 x1 b2
    → Gives (Exactly mark.DotDot) b2 tt b3 → Gives ANum b3 x3 b4 → Stops (Exactly mark.Semicolon) b4 e → Stops ADecl a e
unfolding Gives
stops_int_4 a b0 b1 b2 b3 b4 p x0 x1 x3 e h q g0 g1 g2 g3 z = stops_by ADecl (Exactly mark.Semicolon) a b4 e (λ st k. (
  (st),
  (λ v. k (decl.Int p x0 x1 x3, v.1)),
  passes_to ADecl token.Int a b0 p st (AName ∷ ANum ∷ Exactly mark.DotDot ∷ ANum ∷ Exactly mark.Semicolon ∷ st)
      (λ v. (decl.Int p v.0 v.1.0 v.1.1.1.0, v.1.1.1.1.1)) h q refl k
      ∙ g0 (ANum ∷ Exactly mark.DotDot ∷ ANum ∷ Exactly mark.Semicolon ∷ st) (λ v. k (
        decl.Int p v.0 v.1.0 v.1.1.1.0,
        v.1.1.1.1.1,
      ))
      ∙ g1 (Exactly mark.DotDot ∷ ANum ∷ Exactly mark.Semicolon ∷ st) (λ v. k (decl.Int p x0 v.0 v.1.1.0, v.1.1.1.1))
      ∙ g2 (ANum ∷ Exactly mark.Semicolon ∷ st) (λ v. k (decl.Int p x0 x1 v.1.0, v.1.1.1))
      ∙ g3 (Exactly mark.Semicolon ∷ st) (λ v. k (decl.Int p x0 x1 v.0, v.1.1)),
)) z

pub ruleset steps_int = (
  gives_int,
  halts_int,
  stops_int_0,
  stops_int_1,
  stops_int_2,
  stops_int_3,
  stops_int_4,
  memory,
  reads_ok,
  reads_err,
)

pub gives_enum : (a b0 b1 b2 b3 b4 b5 : Ahead) (p : Place) (x0 : List ℕ) (x2 : List ℕ) (x3 : List (List ℕ))
    → head a.left ≡ Some token.Enum → Passes a p b0 → Gives AName b0 x0 b1 → Gives (Exactly mark.OpenCurly) b1 tt b2
    → Gives AName b2 x2 b3 → Gives MoreNames b3 x3 b4 → Gives (Exactly mark.CloseCurly) b4 tt b5
    → Gives ADecl a (decl.Enum p x0 x2 x3) b5
unfolding Gives
gives_enum a b0 b1 b2 b3 b4 b5 p x0 x2 x3 h q g0 g1 g2 g3 g4 = λ st k.
    passes_to ADecl token.Enum a b0 p st (AName ∷ Exactly mark.OpenCurly ∷ AName ∷ MoreNames ∷ Exactly mark.CloseCurly
    ∷ st) (λ v. (decl.Enum p v.0 v.1.1.0 v.1.1.1.0, v.1.1.1.1.1)) h q refl k
    ∙ g0 (Exactly mark.OpenCurly ∷ AName ∷ MoreNames ∷ Exactly mark.CloseCurly ∷ st)
    (λ v. k (decl.Enum p v.0 v.1.1.0 v.1.1.1.0, v.1.1.1.1.1))
    ∙ g1 (AName ∷ MoreNames ∷ Exactly mark.CloseCurly ∷ st) (λ v. k (decl.Enum p x0 v.1.0 v.1.1.0, v.1.1.1.1))
    ∙ g2 (MoreNames ∷ Exactly mark.CloseCurly ∷ st) (λ v. k (decl.Enum p x0 v.0 v.1.0, v.1.1.1))
    ∙ g3 (Exactly mark.CloseCurly ∷ st) (λ v. k (decl.Enum p x0 x2 v.0, v.1.1))
    ∙ g4 (st) (λ v. k (decl.Enum p x0 x2 x3, v.1))

pub halts_enum : (a : Ahead) (e : SyntaxFault) → head a.left ≡ Some token.Enum → Halts a e → Stops ADecl a e
halts_enum a e h q = halts_at ADecl token.Enum a e h q
    (λ p st. (
      (AName ∷ Exactly mark.OpenCurly ∷ AName ∷ MoreNames ∷ Exactly mark.CloseCurly ∷ st),
      (λ v. (decl.Enum p v.0 v.1.1.0 v.1.1.1.0, v.1.1.1.1.1)),
      refl,
    ))

pub stops_enum_0 : (a b0 : Ahead) (p : Place) (e : SyntaxFault) → head a.left ≡ Some token.Enum → Passes a p b0
    → Stops AName b0 e → Stops ADecl a e
stops_enum_0 a b0 p e h q z = stops_by ADecl AName a b0 e (λ st k. (
  (Exactly mark.OpenCurly ∷ AName ∷ MoreNames ∷ Exactly mark.CloseCurly ∷ st),
  (λ v. k (decl.Enum p v.0 v.1.1.0 v.1.1.1.0, v.1.1.1.1.1)),
  passes_to ADecl token.Enum a b0 p st (AName ∷ Exactly mark.OpenCurly ∷ AName ∷ MoreNames ∷ Exactly mark.CloseCurly
      ∷ st) (λ v. (decl.Enum p v.0 v.1.1.0 v.1.1.1.0, v.1.1.1.1.1)) h q refl k,
)) z

pub stops_enum_1 : (a b0 b1 : Ahead) (p : Place) (x0 : List ℕ) (e : SyntaxFault) → head a.left ≡ Some token.Enum
    → Passes a p b0 → Gives AName b0 x0 b1 → Stops (Exactly mark.OpenCurly) b1 e → Stops ADecl a e
unfolding Gives
stops_enum_1 a b0 b1 p x0 e h q g0 z = stops_by ADecl (Exactly mark.OpenCurly) a b1 e (λ st k. (
  (AName ∷ MoreNames ∷ Exactly mark.CloseCurly ∷ st),
  (λ v. k (decl.Enum p x0 v.1.0 v.1.1.0, v.1.1.1.1)),
  passes_to ADecl token.Enum a b0 p st (AName ∷ Exactly mark.OpenCurly ∷ AName ∷ MoreNames ∷ Exactly mark.CloseCurly
      ∷ st) (λ v. (decl.Enum p v.0 v.1.1.0 v.1.1.1.0, v.1.1.1.1.1)) h q refl k
      ∙ g0 (Exactly mark.OpenCurly ∷ AName ∷ MoreNames ∷ Exactly mark.CloseCurly ∷ st)
      (λ v. k (decl.Enum p v.0 v.1.1.0 v.1.1.1.0, v.1.1.1.1.1)),
)) z

pub stops_enum_2 : (a b0 b1 b2 : Ahead) (p : Place) (x0 : List ℕ) (e : SyntaxFault) → head a.left ≡ Some token.Enum
    → Passes a p b0 → Gives AName b0 x0 b1 → Gives (Exactly mark.OpenCurly) b1 tt b2 → Stops AName b2 e
    → Stops ADecl a e
unfolding Gives
stops_enum_2 a b0 b1 b2 p x0 e h q g0 g1 z = stops_by ADecl AName a b2 e (λ st k. (
  (MoreNames ∷ Exactly mark.CloseCurly ∷ st),
  (λ v. k (decl.Enum p x0 v.0 v.1.0, v.1.1.1)),
  passes_to ADecl token.Enum a b0 p st (AName ∷ Exactly mark.OpenCurly ∷ AName ∷ MoreNames ∷ Exactly mark.CloseCurly
      ∷ st) (λ v. (decl.Enum p v.0 v.1.1.0 v.1.1.1.0, v.1.1.1.1.1)) h q refl k
      ∙ g0 (Exactly mark.OpenCurly ∷ AName ∷ MoreNames ∷ Exactly mark.CloseCurly ∷ st)
      (λ v. k (decl.Enum p v.0 v.1.1.0 v.1.1.1.0, v.1.1.1.1.1))
      ∙ g1 (AName ∷ MoreNames ∷ Exactly mark.CloseCurly ∷ st) (λ v. k (decl.Enum p x0 v.1.0 v.1.1.0, v.1.1.1.1)),
)) z

pub stops_enum_3 : (a b0 b1 b2 b3 : Ahead) (p : Place) (x0 : List ℕ) (x2 : List ℕ) (e : SyntaxFault)
    → head a.left ≡ Some token.Enum → Passes a p b0 → Gives AName b0 x0 b1 → Gives (Exactly mark.OpenCurly) b1 tt b2
    → Gives AName b2 x2 b3 → Stops MoreNames b3 e → Stops ADecl a e
unfolding Gives
stops_enum_3 a b0 b1 b2 b3 p x0 x2 e h q g0 g1 g2 z = stops_by ADecl MoreNames a b3 e (λ st k. (
  (Exactly mark.CloseCurly ∷ st),
  (λ v. k (decl.Enum p x0 x2 v.0, v.1.1)),
  passes_to ADecl token.Enum a b0 p st (AName ∷ Exactly mark.OpenCurly ∷ AName ∷ MoreNames ∷ Exactly mark.CloseCurly
      ∷ st) (λ v. (decl.Enum p v.0 v.1.1.0 v.1.1.1.0, v.1.1.1.1.1)) h q refl k
      ∙ g0 (Exactly mark.OpenCurly ∷ AName ∷ MoreNames ∷ Exactly mark.CloseCurly ∷ st)
      (λ v. k (decl.Enum p v.0 v.1.1.0 v.1.1.1.0, v.1.1.1.1.1))
      ∙ g1 (AName ∷ MoreNames ∷ Exactly mark.CloseCurly ∷ st) (λ v. k (decl.Enum p x0 v.1.0 v.1.1.0, v.1.1.1.1))
      ∙ g2 (MoreNames ∷ Exactly mark.CloseCurly ∷ st) (λ v. k (decl.Enum p x0 v.0 v.1.0, v.1.1.1)),
)) z

pub stops_enum_4 : (a b0 b1 b2 b3 b4 : Ahead) (p : Place) (x0 : List ℕ) (x2 : List ℕ) (x3 : List (List ℕ))
    (e : SyntaxFault) → head a.left ≡ Some token.Enum → Passes a p b0 → Gives AName b0 x0 b1
    → Gives (Exactly mark.OpenCurly) b1 tt b2 → Gives AName b2 x2 b3 → Gives MoreNames b3 x3 b4
    → Stops (Exactly mark.CloseCurly) b4 e → Stops ADecl a e
unfolding Gives
stops_enum_4 a b0 b1 b2 b3 b4 p x0 x2 x3 e h q g0 g1 g2 g3 z = stops_by ADecl (Exactly mark.CloseCurly)
    a b4 e (λ st k. (
      (st),
      (λ v. k (decl.Enum p x0 x2 x3, v.1)),
      passes_to ADecl token.Enum a b0 p st (AName ∷ Exactly mark.OpenCurly ∷ AName ∷ MoreNames ∷ Exactly mark.CloseCurly
          ∷ st) (λ v. (decl.Enum p v.0 v.1.1.0 v.1.1.1.0, v.1.1.1.1.1)) h q refl k
          ∙ g0 (Exactly mark.OpenCurly ∷ AName ∷ MoreNames ∷ Exactly mark.CloseCurly ∷ st)
          (λ v. k (decl.Enum p v.0 v.1.1.0 v.1.1.1.0, v.1.1.1.1.1))
          ∙ g1 (AName ∷ MoreNames ∷ Exactly mark.CloseCurly ∷ st) (λ v. k (decl.Enum p x0 v.1.0 v.1.1.0, v.1.1.1.1))
          ∙ g2 (MoreNames ∷ Exactly mark.CloseCurly ∷ st) (λ v. k (decl.Enum p x0 v.0 v.1.0, v.1.1.1))
          ∙ g3 (Exactly mark.CloseCurly ∷ st) (λ v. k (decl.Enum p x0 x2 v.0, v.1.1)),
    )) z

pub ruleset steps_enum = (
  gives_enum,
  halts_enum,
  stops_enum_0,
  stops_enum_1,
  stops_enum_2,
  stops_enum_3,
  stops_enum_4,
  memory,
  reads_ok,
  reads_err,
)

pub gives_record : (a b0 b1 b2 b3 b4 b5 : Ahead) (p : Place) (x0 : List ℕ) (x2 : Part) (x3 : List Part)
    → head a.left ≡ Some token.Record → Passes a p b0 → Gives AName b0 x0 b1 → Gives (Exactly mark.OpenCurly) b1 tt b2
    → Gives APart b2 x2 b3 → Gives MoreParts b3 x3 b4 → Gives (Exactly mark.CloseCurly) b4 tt b5
    → Gives ADecl a (decl.Record p x0 x2 x3) b5
unfolding Gives
gives_record a b0 b1 b2 b3 b4 b5 p x0 x2 x3 h q g0 g1 g2 g3 g4 = λ st k.
    passes_to ADecl token.Record a b0 p st (AName ∷ Exactly mark.OpenCurly ∷ APart ∷ MoreParts ∷ Exactly mark.CloseCurly
    ∷ st) (λ v. (decl.Record p v.0 v.1.1.0 v.1.1.1.0, v.1.1.1.1.1)) h q refl k
    ∙ g0 (Exactly mark.OpenCurly ∷ APart ∷ MoreParts ∷ Exactly mark.CloseCurly ∷ st)
    (λ v. k (decl.Record p v.0 v.1.1.0 v.1.1.1.0, v.1.1.1.1.1))
    ∙ g1 (APart ∷ MoreParts ∷ Exactly mark.CloseCurly ∷ st) (λ v. k (decl.Record p x0 v.1.0 v.1.1.0, v.1.1.1.1))
    ∙ g2 (MoreParts ∷ Exactly mark.CloseCurly ∷ st) (λ v. k (decl.Record p x0 v.0 v.1.0, v.1.1.1))
    ∙ g3 (Exactly mark.CloseCurly ∷ st) (λ v. k (decl.Record p x0 x2 v.0, v.1.1))
    ∙ g4 (st) (λ v. k (decl.Record p x0 x2 x3, v.1))

pub halts_record : (a : Ahead) (e : SyntaxFault) → head a.left ≡ Some token.Record → Halts a e → Stops ADecl a e
halts_record a e h q = halts_at ADecl token.Record a e h q
    (λ p st. (
      (AName ∷ Exactly mark.OpenCurly ∷ APart ∷ MoreParts ∷ Exactly mark.CloseCurly ∷ st),
      (λ v. (decl.Record p v.0 v.1.1.0 v.1.1.1.0, v.1.1.1.1.1)),
      refl,
    ))

pub stops_record_0 : (a b0 : Ahead) (p : Place) (e : SyntaxFault) → head a.left ≡ Some token.Record → Passes a p b0
    → Stops AName b0 e → Stops ADecl a e
stops_record_0 a b0 p e h q z = stops_by ADecl AName a b0 e (λ st k. (
  (Exactly mark.OpenCurly ∷ APart ∷ MoreParts ∷ Exactly mark.CloseCurly ∷ st),
  (λ v. k (decl.Record p v.0 v.1.1.0 v.1.1.1.0, v.1.1.1.1.1)),
  passes_to ADecl token.Record a b0 p st (AName ∷ Exactly mark.OpenCurly ∷ APart ∷ MoreParts ∷ Exactly mark.CloseCurly
      ∷ st) (λ v. (decl.Record p v.0 v.1.1.0 v.1.1.1.0, v.1.1.1.1.1)) h q refl k,
)) z

pub stops_record_1 : (a b0 b1 : Ahead) (p : Place) (x0 : List ℕ) (e : SyntaxFault) → head a.left ≡ Some token.Record
    → Passes a p b0 → Gives AName b0 x0 b1 → Stops (Exactly mark.OpenCurly) b1 e → Stops ADecl a e
unfolding Gives
stops_record_1 a b0 b1 p x0 e h q g0 z = stops_by ADecl (Exactly mark.OpenCurly) a b1 e (λ st k. (
  (APart ∷ MoreParts ∷ Exactly mark.CloseCurly ∷ st),
  (λ v. k (decl.Record p x0 v.1.0 v.1.1.0, v.1.1.1.1)),
  passes_to ADecl token.Record a b0 p st (AName ∷ Exactly mark.OpenCurly ∷ APart ∷ MoreParts ∷ Exactly mark.CloseCurly
      ∷ st) (λ v. (decl.Record p v.0 v.1.1.0 v.1.1.1.0, v.1.1.1.1.1)) h q refl k
      ∙ g0 (Exactly mark.OpenCurly ∷ APart ∷ MoreParts ∷ Exactly mark.CloseCurly ∷ st)
      (λ v. k (decl.Record p v.0 v.1.1.0 v.1.1.1.0, v.1.1.1.1.1)),
)) z

pub stops_record_2 : (a b0 b1 b2 : Ahead) (p : Place) (x0 : List ℕ) (e : SyntaxFault) → head a.left ≡ Some token.Record
    → Passes a p b0 → Gives AName b0 x0 b1 → Gives (Exactly mark.OpenCurly) b1 tt b2 → Stops APart b2 e
    → Stops ADecl a e
unfolding Gives
stops_record_2 a b0 b1 b2 p x0 e h q g0 g1 z = stops_by ADecl APart a b2 e (λ st k. (
  (MoreParts ∷ Exactly mark.CloseCurly ∷ st),
  (λ v. k (decl.Record p x0 v.0 v.1.0, v.1.1.1)),
  passes_to ADecl token.Record a b0 p st (AName ∷ Exactly mark.OpenCurly ∷ APart ∷ MoreParts ∷ Exactly mark.CloseCurly
      ∷ st) (λ v. (decl.Record p v.0 v.1.1.0 v.1.1.1.0, v.1.1.1.1.1)) h q refl k
      ∙ g0 (Exactly mark.OpenCurly ∷ APart ∷ MoreParts ∷ Exactly mark.CloseCurly ∷ st)
      (λ v. k (decl.Record p v.0 v.1.1.0 v.1.1.1.0, v.1.1.1.1.1))
      ∙ g1 (APart ∷ MoreParts ∷ Exactly mark.CloseCurly ∷ st) (λ v. k (decl.Record p x0 v.1.0 v.1.1.0, v.1.1.1.1)),
)) z

pub stops_record_3 : (a b0 b1 b2 b3 : Ahead) (p : Place) (x0 : List ℕ) (x2 : Part) (e : SyntaxFault)
    → head a.left ≡ Some token.Record → Passes a p b0 → Gives AName b0 x0 b1 → Gives (Exactly mark.OpenCurly) b1 tt b2
    → Gives APart b2 x2 b3 → Stops MoreParts b3 e → Stops ADecl a e
unfolding Gives
stops_record_3 a b0 b1 b2 b3 p x0 x2 e h q g0 g1 g2 z = stops_by ADecl MoreParts a b3 e (λ st k. (
  (Exactly mark.CloseCurly ∷ st),
  (λ v. k (decl.Record p x0 x2 v.0, v.1.1)),
  passes_to ADecl token.Record a b0 p st (AName ∷ Exactly mark.OpenCurly ∷ APart ∷ MoreParts ∷ Exactly mark.CloseCurly
      ∷ st) (λ v. (decl.Record p v.0 v.1.1.0 v.1.1.1.0, v.1.1.1.1.1)) h q refl k
      ∙ g0 (Exactly mark.OpenCurly ∷ APart ∷ MoreParts ∷ Exactly mark.CloseCurly ∷ st)
      (λ v. k (decl.Record p v.0 v.1.1.0 v.1.1.1.0, v.1.1.1.1.1))
      ∙ g1 (APart ∷ MoreParts ∷ Exactly mark.CloseCurly ∷ st) (λ v. k (decl.Record p x0 v.1.0 v.1.1.0, v.1.1.1.1))
      ∙ g2 (MoreParts ∷ Exactly mark.CloseCurly ∷ st) (λ v. k (decl.Record p x0 v.0 v.1.0, v.1.1.1)),
)) z

pub stops_record_4 : (a b0 b1 b2 b3 b4 : Ahead) (p : Place) (x0 : List ℕ) (x2 : Part) (x3 : List Part) (e : SyntaxFault)
    → head a.left ≡ Some token.Record → Passes a p b0 → Gives AName b0 x0 b1 → Gives (Exactly mark.OpenCurly) b1 tt b2
    → Gives APart b2 x2 b3 → Gives MoreParts b3 x3 b4 → Stops (Exactly mark.CloseCurly) b4 e → Stops ADecl a e
unfolding Gives
stops_record_4 a b0 b1 b2 b3 b4 p x0 x2 x3 e h q g0 g1 g2 g3 z = stops_by ADecl (Exactly mark.CloseCurly)
    a b4 e (λ st k. (
      (st),
      (λ v. k (decl.Record p x0 x2 x3, v.1)),
      passes_to ADecl token.Record a b0 p st (AName ∷ Exactly mark.OpenCurly ∷ APart ∷ MoreParts
          ∷ Exactly mark.CloseCurly
          ∷ st) (λ v. (decl.Record p v.0 v.1.1.0 v.1.1.1.0, v.1.1.1.1.1)) h q refl k
          ∙ g0 (Exactly mark.OpenCurly ∷ APart ∷ MoreParts ∷ Exactly mark.CloseCurly ∷ st)
          (λ v. k (decl.Record p v.0 v.1.1.0 v.1.1.1.0, v.1.1.1.1.1))
          ∙ g1 (APart ∷ MoreParts ∷ Exactly mark.CloseCurly ∷ st) (λ v. k (decl.Record p x0 v.1.0 v.1.1.0, v.1.1.1.1))
          ∙ g2 (MoreParts ∷ Exactly mark.CloseCurly ∷ st) (λ v. k (decl.Record p x0 v.0 v.1.0, v.1.1.1))
          ∙ g3 (Exactly mark.CloseCurly ∷ st) (λ v. k (decl.Record p x0 x2 v.0, v.1.1)),
    )) z

pub ruleset steps_record = (
  gives_record,
  halts_record,
  stops_record_0,
  stops_record_1,
  stops_record_2,
  stops_record_3,
  stops_record_4,
  memory,
  reads_ok,
  reads_err,
)

pub gives_state : (a b0 b1 b2 b3 b4 b5 b6 : Ahead) (p : Place) (x0 : List ℕ) (x2 : Option TypeTree) (x3 : TypeTree)
    (x4 : Option Expr) → head a.left ≡ Some token.State → Passes a p b0 → Gives AName b0 x0 b1
    → Gives (Exactly mark.Colon) b1 tt b2 → Gives Key b2 x2 b3 → Gives AType b3 x3 b4 → Gives Where b4 x4 b5
    → Gives (Exactly mark.Semicolon) b5 tt b6 → Gives ADecl a (state_of p x0 x2 x3 x4) b6
unfolding Gives
gives_state a b0 b1 b2 b3 b4 b5 b6 p x0 x2 x3 x4 h q g0 g1 g2 g3 g4 g5 = λ st k.
    passes_to ADecl token.State a b0 p st (AName ∷ Exactly mark.Colon ∷ Key ∷ AType ∷ Where ∷ Exactly mark.Semicolon
    ∷ st) (λ v. (state_of p v.0 v.1.1.0 v.1.1.1.0 v.1.1.1.1.0, v.1.1.1.1.1.1)) h q refl k
    ∙ g0 (Exactly mark.Colon ∷ Key ∷ AType ∷ Where ∷ Exactly mark.Semicolon ∷ st)
    (λ v. k (state_of p v.0 v.1.1.0 v.1.1.1.0 v.1.1.1.1.0, v.1.1.1.1.1.1))
    ∙ g1 (Key ∷ AType ∷ Where ∷ Exactly mark.Semicolon ∷ st) (λ v. k (
      state_of p x0 v.1.0 v.1.1.0 v.1.1.1.0,
      v.1.1.1.1.1,
    ))
    ∙ g2 (AType ∷ Where ∷ Exactly mark.Semicolon ∷ st) (λ v. k (state_of p x0 v.0 v.1.0 v.1.1.0, v.1.1.1.1))
    ∙ g3 (Where ∷ Exactly mark.Semicolon ∷ st) (λ v. k (state_of p x0 x2 v.0 v.1.0, v.1.1.1))
    ∙ g4 (Exactly mark.Semicolon ∷ st) (λ v. k (state_of p x0 x2 x3 v.0, v.1.1))
    ∙ g5 (st) (λ v. k (state_of p x0 x2 x3 x4, v.1))

pub halts_state : (a : Ahead) (e : SyntaxFault) → head a.left ≡ Some token.State → Halts a e → Stops ADecl a e
halts_state a e h q = halts_at ADecl token.State a e h q
    (λ p st. (
      (AName ∷ Exactly mark.Colon ∷ Key ∷ AType ∷ Where ∷ Exactly mark.Semicolon ∷ st),
      (λ v. (state_of p v.0 v.1.1.0 v.1.1.1.0 v.1.1.1.1.0, v.1.1.1.1.1.1)),
      refl,
    ))

pub stops_state_0 : (a b0 : Ahead) (p : Place) (e : SyntaxFault) → head a.left ≡ Some token.State → Passes a p b0
    → Stops AName b0 e → Stops ADecl a e
stops_state_0 a b0 p e h q z = stops_by ADecl AName a b0 e (λ st k. (
  (Exactly mark.Colon ∷ Key ∷ AType ∷ Where ∷ Exactly mark.Semicolon ∷ st),
  (λ v. k (state_of p v.0 v.1.1.0 v.1.1.1.0 v.1.1.1.1.0, v.1.1.1.1.1.1)),
  passes_to ADecl token.State a b0 p st (AName ∷ Exactly mark.Colon ∷ Key ∷ AType ∷ Where ∷ Exactly mark.Semicolon ∷ st)
      (λ v. (state_of p v.0 v.1.1.0 v.1.1.1.0 v.1.1.1.1.0, v.1.1.1.1.1.1)) h q refl k,
)) z

pub stops_state_1 : (a b0 b1 : Ahead) (p : Place) (x0 : List ℕ) (e : SyntaxFault) → head a.left ≡ Some token.State
    → Passes a p b0 → Gives AName b0 x0 b1 → Stops (Exactly mark.Colon) b1 e → Stops ADecl a e
unfolding Gives
stops_state_1 a b0 b1 p x0 e h q g0 z = stops_by ADecl (Exactly mark.Colon) a b1 e (λ st k. (
  (Key ∷ AType ∷ Where ∷ Exactly mark.Semicolon ∷ st),
  (λ v. k (state_of p x0 v.1.0 v.1.1.0 v.1.1.1.0, v.1.1.1.1.1)),
  passes_to ADecl token.State a b0 p st (AName ∷ Exactly mark.Colon ∷ Key ∷ AType ∷ Where ∷ Exactly mark.Semicolon ∷ st)
      (λ v. (state_of p v.0 v.1.1.0 v.1.1.1.0 v.1.1.1.1.0, v.1.1.1.1.1.1)) h q refl k
      ∙ g0 (Exactly mark.Colon ∷ Key ∷ AType ∷ Where ∷ Exactly mark.Semicolon ∷ st)
      (λ v. k (state_of p v.0 v.1.1.0 v.1.1.1.0 v.1.1.1.1.0, v.1.1.1.1.1.1)),
)) z

pub stops_state_2 : (a b0 b1 b2 : Ahead) (p : Place) (x0 : List ℕ) (e : SyntaxFault) → head a.left ≡ Some token.State
    → Passes a p b0 → Gives AName b0 x0 b1 → Gives (Exactly mark.Colon) b1 tt b2 → Stops Key b2 e → Stops ADecl a e
unfolding Gives
stops_state_2 a b0 b1 b2 p x0 e h q g0 g1 z = stops_by ADecl Key a b2 e (λ st k. (
  (AType ∷ Where ∷ Exactly mark.Semicolon ∷ st),
  (λ v. k (state_of p x0 v.0 v.1.0 v.1.1.0, v.1.1.1.1)),
  passes_to ADecl token.State a b0 p st (AName ∷ Exactly mark.Colon ∷ Key ∷ AType ∷ Where ∷ Exactly mark.Semicolon ∷ st)
      (λ v. (state_of p v.0 v.1.1.0 v.1.1.1.0 v.1.1.1.1.0, v.1.1.1.1.1.1)) h q refl k
      ∙ g0 (Exactly mark.Colon ∷ Key ∷ AType ∷ Where ∷ Exactly mark.Semicolon ∷ st)
      (λ v. k (state_of p v.0 v.1.1.0 v.1.1.1.0 v.1.1.1.1.0, v.1.1.1.1.1.1))
      ∙ g1 (Key ∷ AType ∷ Where ∷ Exactly mark.Semicolon ∷ st) (λ v. k (
        state_of p x0 v.1.0 v.1.1.0 v.1.1.1.0,
        v.1.1.1.1.1,
      )),
)) z

pub stops_state_3 : (a b0 b1 b2 b3 : Ahead) (p : Place) (x0 : List ℕ) (x2 : Option TypeTree) (e : SyntaxFault)
    → head a.left ≡ Some token.State → Passes a p b0 → Gives AName b0 x0 b1 → Gives (Exactly mark.Colon) b1 tt b2
    → Gives Key b2 x2 b3 → Stops AType b3 e → Stops ADecl a e
unfolding Gives
stops_state_3 a b0 b1 b2 b3 p x0 x2 e h q g0 g1 g2 z = stops_by ADecl AType a b3 e (λ st k. (
  (Where ∷ Exactly mark.Semicolon ∷ st),
  (λ v. k (state_of p x0 x2 v.0 v.1.0, v.1.1.1)),
  passes_to ADecl token.State a b0 p st (AName ∷ Exactly mark.Colon ∷ Key ∷ AType ∷ Where ∷ Exactly mark.Semicolon ∷ st)
      (λ v. (state_of p v.0 v.1.1.0 v.1.1.1.0 v.1.1.1.1.0, v.1.1.1.1.1.1)) h q refl k
      ∙ g0 (Exactly mark.Colon ∷ Key ∷ AType ∷ Where ∷ Exactly mark.Semicolon ∷ st)
      (λ v. k (state_of p v.0 v.1.1.0 v.1.1.1.0 v.1.1.1.1.0, v.1.1.1.1.1.1))
      ∙ g1 (Key ∷ AType ∷ Where ∷ Exactly mark.Semicolon ∷ st) (λ v. k (
        state_of p x0 v.1.0 v.1.1.0 v.1.1.1.0,
        v.1.1.1.1.1,
      ))
      ∙ g2 (AType ∷ Where ∷ Exactly mark.Semicolon ∷ st) (λ v. k (state_of p x0 v.0 v.1.0 v.1.1.0, v.1.1.1.1)),
)) z

pub stops_state_4 : (a b0 b1 b2 b3 b4 : Ahead) (p : Place) (x0 : List ℕ) (x2 : Option TypeTree) (x3 : TypeTree)
    (e : SyntaxFault) → head a.left ≡ Some token.State → Passes a p b0 → Gives AName b0 x0 b1
    → Gives (Exactly mark.Colon) b1 tt b2 → Gives Key b2 x2 b3 → Gives AType b3 x3 b4 → Stops Where b4 e
    → Stops ADecl a e
unfolding Gives
stops_state_4 a b0 b1 b2 b3 b4 p x0 x2 x3 e h q g0 g1 g2 g3 z = stops_by ADecl Where a b4 e (λ st k. (
  (Exactly mark.Semicolon ∷ st),
  (λ v. k (state_of p x0 x2 x3 v.0, v.1.1)),
  passes_to ADecl token.State a b0 p st (AName ∷ Exactly mark.Colon ∷ Key ∷ AType ∷ Where ∷ Exactly mark.Semicolon ∷ st)
      (λ v. (state_of p v.0 v.1.1.0 v.1.1.1.0 v.1.1.1.1.0, v.1.1.1.1.1.1)) h q refl k
      ∙ g0 (Exactly mark.Colon ∷ Key ∷ AType ∷ Where ∷ Exactly mark.Semicolon ∷ st)
      (λ v. k (state_of p v.0 v.1.1.0 v.1.1.1.0 v.1.1.1.1.0, v.1.1.1.1.1.1))
      ∙ g1 (Key ∷ AType ∷ Where ∷ Exactly mark.Semicolon ∷ st) (λ v. k (
        state_of p x0 v.1.0 v.1.1.0 v.1.1.1.0,
        v.1.1.1.1.1,
      ))
      ∙ g2 (AType ∷ Where ∷ Exactly mark.Semicolon ∷ st) (λ v. k (state_of p x0 v.0 v.1.0 v.1.1.0, v.1.1.1.1))
      ∙ g3 (Where ∷ Exactly mark.Semicolon ∷ st) (λ v. k (state_of p x0 x2 v.0 v.1.0, v.1.1.1)),
)) z

pub stops_state_5 : (a b0 b1 b2 b3 b4 b5 : Ahead) (p : Place) (x0 : List ℕ) (x2 : Option TypeTree) (x3 : TypeTree)
    (x4 : Option Expr) (e : SyntaxFault) → head a.left ≡ Some token.State → Passes a p b0 → Gives AName b0 x0 b1
    → Gives (Exactly mark.Colon) b1 tt b2 → Gives Key b2 x2 b3 → Gives AType b3 x3 b4 → Gives Where b4 x4 b5
    → Stops (Exactly mark.Semicolon) b5 e → Stops ADecl a e
unfolding Gives
stops_state_5 a b0 b1 b2 b3 b4 b5 p x0 x2 x3 x4 e h q g0 g1 g2 g3 g4 z = stops_by ADecl (Exactly mark.Semicolon)
    a b5 e (λ st k. (
      (st),
      (λ v. k (state_of p x0 x2 x3 x4, v.1)),
      passes_to ADecl token.State a b0 p st (AName ∷ Exactly mark.Colon ∷ Key ∷ AType ∷ Where ∷ Exactly mark.Semicolon
          ∷ st)
          (λ v. (state_of p v.0 v.1.1.0 v.1.1.1.0 v.1.1.1.1.0, v.1.1.1.1.1.1)) h q refl k
          ∙ g0 (Exactly mark.Colon ∷ Key ∷ AType ∷ Where ∷ Exactly mark.Semicolon ∷ st)
          (λ v. k (state_of p v.0 v.1.1.0 v.1.1.1.0 v.1.1.1.1.0, v.1.1.1.1.1.1))
          ∙ g1 (Key ∷ AType ∷ Where ∷ Exactly mark.Semicolon ∷ st) (λ v. k (
            state_of p x0 v.1.0 v.1.1.0 v.1.1.1.0,
            v.1.1.1.1.1,
          ))
          ∙ g2 (AType ∷ Where ∷ Exactly mark.Semicolon ∷ st) (λ v. k (state_of p x0 v.0 v.1.0 v.1.1.0, v.1.1.1.1))
          ∙ g3 (Where ∷ Exactly mark.Semicolon ∷ st) (λ v. k (state_of p x0 x2 v.0 v.1.0, v.1.1.1))
          ∙ g4 (Exactly mark.Semicolon ∷ st) (λ v. k (state_of p x0 x2 x3 v.0, v.1.1)),
    )) z

pub ruleset steps_state = (
  gives_state,
  halts_state,
  stops_state_0,
  stops_state_1,
  stops_state_2,
  stops_state_3,
  stops_state_4,
  stops_state_5,
  memory,
  reads_ok,
  reads_err,
)

pub gives_function : (a b0 b1 b2 b3 b4 b5 b6 b7 : Ahead) (p : Place) (x0 : List ℕ) (x2 : List Part) (x5 : TypeTree)
    (x6 : Block) → head a.left ≡ Some token.Fn → Passes a p b0 → Gives AName b0 x0 b1
    → Gives (Exactly mark.OpenRound) b1 tt b2 → Gives Params b2 x2 b3 → Gives (Exactly mark.CloseRound) b3 tt b4
    → Gives (Exactly mark.Arrow) b4 tt b5 → Gives AType b5 x5 b6 → Gives ABlock b6 x6 b7
    → Gives ADecl a (decl.Function p x0 x2 x5 x6) b7
unfolding Gives
gives_function a b0 b1 b2 b3 b4 b5 b6 b7 p x0 x2 x5 x6 h q g0 g1 g2 g3 g4 g5 g6 = λ st k.
    passes_to ADecl token.Fn a b0 p st (AName ∷ Exactly mark.OpenRound ∷ Params ∷ Exactly mark.CloseRound
    ∷ Exactly mark.Arrow ∷ AType ∷ ABlock ∷ st) (λ v. (
      decl.Function p v.0 v.1.1.0 v.1.1.1.1.1.0 v.1.1.1.1.1.1.0,
      v.1.1.1.1.1.1.1,
    )) h q refl k
    ∙ g0 (Exactly mark.OpenRound ∷ Params ∷ Exactly mark.CloseRound ∷ Exactly mark.Arrow ∷ AType ∷ ABlock ∷ st)
    (λ v. k (decl.Function p v.0 v.1.1.0 v.1.1.1.1.1.0 v.1.1.1.1.1.1.0, v.1.1.1.1.1.1.1))
    ∙ g1 (Params ∷ Exactly mark.CloseRound ∷ Exactly mark.Arrow ∷ AType ∷ ABlock ∷ st)
    (λ v. k (decl.Function p x0 v.1.0 v.1.1.1.1.0 v.1.1.1.1.1.0, v.1.1.1.1.1.1))
    ∙ g2 (Exactly mark.CloseRound ∷ Exactly mark.Arrow ∷ AType ∷ ABlock ∷ st)
    (λ v. k (decl.Function p x0 v.0 v.1.1.1.0 v.1.1.1.1.0, v.1.1.1.1.1))
    ∙ g3 (Exactly mark.Arrow ∷ AType ∷ ABlock ∷ st) (λ v. k (decl.Function p x0 x2 v.1.1.0 v.1.1.1.0, v.1.1.1.1))
    ∙ g4 (AType ∷ ABlock ∷ st) (λ v. k (decl.Function p x0 x2 v.1.0 v.1.1.0, v.1.1.1))
    ∙ g5 (ABlock ∷ st) (λ v. k (decl.Function p x0 x2 v.0 v.1.0, v.1.1))
    ∙ g6 (st) (λ v. k (decl.Function p x0 x2 x5 v.0, v.1))

pub halts_function : (a : Ahead) (e : SyntaxFault) → head a.left ≡ Some token.Fn → Halts a e → Stops ADecl a e
halts_function a e h q = halts_at ADecl token.Fn a e h q
    (λ p st. (
      (AName ∷ Exactly mark.OpenRound ∷ Params ∷ Exactly mark.CloseRound ∷ Exactly mark.Arrow
          ∷ AType ∷ ABlock ∷ st),
      (λ v. (decl.Function p v.0 v.1.1.0 v.1.1.1.1.1.0 v.1.1.1.1.1.1.0, v.1.1.1.1.1.1.1)),
      refl,
    ))

pub stops_function_0 : (a b0 : Ahead) (p : Place) (e : SyntaxFault) → head a.left ≡ Some token.Fn → Passes a p b0
    → Stops AName b0 e → Stops ADecl a e
stops_function_0 a b0 p e h q z = stops_by ADecl AName a b0 e (λ st k. (
  (Exactly mark.OpenRound ∷ Params ∷ Exactly mark.CloseRound ∷ Exactly mark.Arrow ∷ AType ∷ ABlock ∷ st),
  (λ v. k (decl.Function p v.0 v.1.1.0 v.1.1.1.1.1.0 v.1.1.1.1.1.1.0, v.1.1.1.1.1.1.1)),
  passes_to ADecl token.Fn a b0 p st (AName ∷ Exactly mark.OpenRound ∷ Params ∷ Exactly mark.CloseRound
      ∷ Exactly mark.Arrow ∷ AType ∷ ABlock ∷ st) (λ v. (
        decl.Function p v.0 v.1.1.0 v.1.1.1.1.1.0 v.1.1.1.1.1.1.0,
        v.1.1.1.1.1.1.1,
      )) h q refl k,
)) z

pub stops_function_1 : (a b0 b1 : Ahead) (p : Place) (x0 : List ℕ) (e : SyntaxFault) → head a.left ≡ Some token.Fn
    → Passes a p b0 → Gives AName b0 x0 b1 → Stops (Exactly mark.OpenRound) b1 e → Stops ADecl a e
unfolding Gives
stops_function_1 a b0 b1 p x0 e h q g0 z = stops_by ADecl (Exactly mark.OpenRound) a b1 e (λ st k. (
  (Params ∷ Exactly mark.CloseRound ∷ Exactly mark.Arrow ∷ AType ∷ ABlock ∷ st),
  (λ v. k (decl.Function p x0 v.1.0 v.1.1.1.1.0 v.1.1.1.1.1.0, v.1.1.1.1.1.1)),
  passes_to ADecl token.Fn a b0 p st (AName ∷ Exactly mark.OpenRound ∷ Params ∷ Exactly mark.CloseRound
      ∷ Exactly mark.Arrow ∷ AType ∷ ABlock ∷ st) (λ v. (
        decl.Function p v.0 v.1.1.0 v.1.1.1.1.1.0 v.1.1.1.1.1.1.0,
        v.1.1.1.1.1.1.1,
      )) h q refl k
      ∙ g0 (Exactly mark.OpenRound ∷ Params ∷ Exactly mark.CloseRound ∷ Exactly mark.Arrow ∷ AType ∷ ABlock ∷ st)
      (λ v. k (decl.Function p v.0 v.1.1.0 v.1.1.1.1.1.0 v.1.1.1.1.1.1.0, v.1.1.1.1.1.1.1)),
)) z

pub stops_function_2 : (a b0 b1 b2 : Ahead) (p : Place) (x0 : List ℕ) (e : SyntaxFault) → head a.left ≡ Some token.Fn
    → Passes a p b0 → Gives AName b0 x0 b1 → Gives (Exactly mark.OpenRound) b1 tt b2 → Stops Params b2 e
    → Stops ADecl a e
unfolding Gives
stops_function_2 a b0 b1 b2 p x0 e h q g0 g1 z = stops_by ADecl Params a b2 e (λ st k. (
  (Exactly mark.CloseRound ∷ Exactly mark.Arrow ∷ AType ∷ ABlock ∷ st),
  (λ v. k (decl.Function p x0 v.0 v.1.1.1.0 v.1.1.1.1.0, v.1.1.1.1.1)),
  passes_to ADecl token.Fn a b0 p st (AName ∷ Exactly mark.OpenRound ∷ Params ∷ Exactly mark.CloseRound
      ∷ Exactly mark.Arrow ∷ AType ∷ ABlock ∷ st) (λ v. (
        decl.Function p v.0 v.1.1.0 v.1.1.1.1.1.0 v.1.1.1.1.1.1.0,
        v.1.1.1.1.1.1.1,
      )) h q refl k
      ∙ g0 (Exactly mark.OpenRound ∷ Params ∷ Exactly mark.CloseRound ∷ Exactly mark.Arrow ∷ AType ∷ ABlock ∷ st)
      (λ v. k (decl.Function p v.0 v.1.1.0 v.1.1.1.1.1.0 v.1.1.1.1.1.1.0, v.1.1.1.1.1.1.1))
      ∙ g1 (Params ∷ Exactly mark.CloseRound ∷ Exactly mark.Arrow ∷ AType ∷ ABlock ∷ st)
      (λ v. k (decl.Function p x0 v.1.0 v.1.1.1.1.0 v.1.1.1.1.1.0, v.1.1.1.1.1.1)),
)) z

pub stops_function_3 : (a b0 b1 b2 b3 : Ahead) (p : Place) (x0 : List ℕ) (x2 : List Part) (e : SyntaxFault)
    → head a.left ≡ Some token.Fn → Passes a p b0 → Gives AName b0 x0 b1 → Gives (Exactly mark.OpenRound) b1 tt b2
    → Gives Params b2 x2 b3 → Stops (Exactly mark.CloseRound) b3 e → Stops ADecl a e
unfolding Gives
stops_function_3 a b0 b1 b2 b3 p x0 x2 e h q g0 g1 g2 z = stops_by ADecl (Exactly mark.CloseRound) a b3 e (λ st k. (
  (Exactly mark.Arrow ∷ AType ∷ ABlock ∷ st),
  (λ v. k (decl.Function p x0 x2 v.1.1.0 v.1.1.1.0, v.1.1.1.1)),
  passes_to ADecl token.Fn a b0 p st (AName ∷ Exactly mark.OpenRound ∷ Params ∷ Exactly mark.CloseRound
      ∷ Exactly mark.Arrow ∷ AType ∷ ABlock ∷ st) (λ v. (
        decl.Function p v.0 v.1.1.0 v.1.1.1.1.1.0 v.1.1.1.1.1.1.0,
        v.1.1.1.1.1.1.1,
      )) h q refl k
      ∙ g0 (Exactly mark.OpenRound ∷ Params ∷ Exactly mark.CloseRound ∷ Exactly mark.Arrow ∷ AType ∷ ABlock ∷ st)
      (λ v. k (decl.Function p v.0 v.1.1.0 v.1.1.1.1.1.0 v.1.1.1.1.1.1.0, v.1.1.1.1.1.1.1))
      ∙ g1 (Params ∷ Exactly mark.CloseRound ∷ Exactly mark.Arrow ∷ AType ∷ ABlock ∷ st)
      (λ v. k (decl.Function p x0 v.1.0 v.1.1.1.1.0 v.1.1.1.1.1.0, v.1.1.1.1.1.1))
      ∙ g2 (Exactly mark.CloseRound ∷ Exactly mark.Arrow ∷ AType ∷ ABlock ∷ st)
      (λ v. k (decl.Function p x0 v.0 v.1.1.1.0 v.1.1.1.1.0, v.1.1.1.1.1)),
)) z

pub stops_function_4 : (a b0 b1 b2 b3 b4 : Ahead) (p : Place) (x0 : List ℕ) (x2 : List Part) (e : SyntaxFault)
    → head a.left ≡ Some token.Fn → Passes a p b0 → Gives AName b0 x0 b1 → Gives (Exactly mark.OpenRound) b1 tt b2
    → Gives Params b2 x2 b3 → Gives (Exactly mark.CloseRound) b3 tt b4 → Stops (Exactly mark.Arrow) b4 e
    → Stops ADecl a e
unfolding Gives
stops_function_4 a b0 b1 b2 b3 b4 p x0 x2 e h q g0 g1 g2 g3 z = stops_by ADecl (Exactly mark.Arrow) a b4 e (λ st k. (
  (AType ∷ ABlock ∷ st),
  (λ v. k (decl.Function p x0 x2 v.1.0 v.1.1.0, v.1.1.1)),
  passes_to ADecl token.Fn a b0 p st (AName ∷ Exactly mark.OpenRound ∷ Params ∷ Exactly mark.CloseRound
      ∷ Exactly mark.Arrow ∷ AType ∷ ABlock ∷ st) (λ v. (
        decl.Function p v.0 v.1.1.0 v.1.1.1.1.1.0 v.1.1.1.1.1.1.0,
        v.1.1.1.1.1.1.1,
      )) h q refl k
      ∙ g0 (Exactly mark.OpenRound ∷ Params ∷ Exactly mark.CloseRound ∷ Exactly mark.Arrow ∷ AType ∷ ABlock ∷ st)
      (λ v. k (decl.Function p v.0 v.1.1.0 v.1.1.1.1.1.0 v.1.1.1.1.1.1.0, v.1.1.1.1.1.1.1))
      ∙ g1 (Params ∷ Exactly mark.CloseRound ∷ Exactly mark.Arrow ∷ AType ∷ ABlock ∷ st)
      (λ v. k (decl.Function p x0 v.1.0 v.1.1.1.1.0 v.1.1.1.1.1.0, v.1.1.1.1.1.1))
      ∙ g2 (Exactly mark.CloseRound ∷ Exactly mark.Arrow ∷ AType ∷ ABlock ∷ st)
      (λ v. k (decl.Function p x0 v.0 v.1.1.1.0 v.1.1.1.1.0, v.1.1.1.1.1))
      ∙ g3 (Exactly mark.Arrow ∷ AType ∷ ABlock ∷ st) (λ v. k (decl.Function p x0 x2 v.1.1.0 v.1.1.1.0, v.1.1.1.1)),
)) z

pub stops_function_5 : (a b0 b1 b2 b3 b4 b5 : Ahead) (p : Place) (x0 : List ℕ) (x2 : List Part) (e : SyntaxFault)
    → head a.left ≡ Some token.Fn → Passes a p b0 → Gives AName b0 x0 b1 → Gives (Exactly mark.OpenRound) b1 tt b2
    → Gives Params b2 x2 b3 → Gives (Exactly mark.CloseRound) b3 tt b4 → Gives (Exactly mark.Arrow) b4 tt b5
    → Stops AType b5 e → Stops ADecl a e
unfolding Gives
stops_function_5 a b0 b1 b2 b3 b4 b5 p x0 x2 e h q g0 g1 g2 g3 g4 z = stops_by ADecl AType a b5 e (λ st k. (
  (ABlock ∷ st),
  (λ v. k (decl.Function p x0 x2 v.0 v.1.0, v.1.1)),
  passes_to ADecl token.Fn a b0 p st (AName ∷ Exactly mark.OpenRound ∷ Params ∷ Exactly mark.CloseRound
      ∷ Exactly mark.Arrow ∷ AType ∷ ABlock ∷ st) (λ v. (
        decl.Function p v.0 v.1.1.0 v.1.1.1.1.1.0 v.1.1.1.1.1.1.0,
        v.1.1.1.1.1.1.1,
      )) h q refl k
      ∙ g0 (Exactly mark.OpenRound ∷ Params ∷ Exactly mark.CloseRound ∷ Exactly mark.Arrow ∷ AType ∷ ABlock ∷ st)
      (λ v. k (decl.Function p v.0 v.1.1.0 v.1.1.1.1.1.0 v.1.1.1.1.1.1.0, v.1.1.1.1.1.1.1))
      ∙ g1 (Params ∷ Exactly mark.CloseRound ∷ Exactly mark.Arrow ∷ AType ∷ ABlock ∷ st)
      (λ v. k (decl.Function p x0 v.1.0 v.1.1.1.1.0 v.1.1.1.1.1.0, v.1.1.1.1.1.1))
      ∙ g2 (Exactly mark.CloseRound ∷ Exactly mark.Arrow ∷ AType ∷ ABlock ∷ st)
      (λ v. k (decl.Function p x0 v.0 v.1.1.1.0 v.1.1.1.1.0, v.1.1.1.1.1))
      ∙ g3 (Exactly mark.Arrow ∷ AType ∷ ABlock ∷ st) (λ v. k (decl.Function p x0 x2 v.1.1.0 v.1.1.1.0, v.1.1.1.1))
      ∙ g4 (AType ∷ ABlock ∷ st) (λ v. k (decl.Function p x0 x2 v.1.0 v.1.1.0, v.1.1.1)),
)) z

pub stops_function_6 : (a b0 b1 b2 b3 b4 b5 b6 : Ahead) (p : Place) (x0 : List ℕ) (x2 : List Part) (x5 : TypeTree)
    (e : SyntaxFault) → head a.left ≡ Some token.Fn → Passes a p b0 → Gives AName b0 x0 b1
    → Gives (Exactly mark.OpenRound) b1 tt b2 → Gives Params b2 x2 b3 → Gives (Exactly mark.CloseRound) b3 tt b4
    → Gives (Exactly mark.Arrow) b4 tt b5 → Gives AType b5 x5 b6 → Stops ABlock b6 e → Stops ADecl a e
unfolding Gives
stops_function_6 a b0 b1 b2 b3 b4 b5 b6 p x0 x2 x5 e h q g0 g1 g2 g3 g4 g5 z = stops_by ADecl ABlock a b6 e (λ st k. (
  (st),
  (λ v. k (decl.Function p x0 x2 x5 v.0, v.1)),
  passes_to ADecl token.Fn a b0 p st (AName ∷ Exactly mark.OpenRound ∷ Params ∷ Exactly mark.CloseRound
      ∷ Exactly mark.Arrow ∷ AType ∷ ABlock ∷ st) (λ v. (
        decl.Function p v.0 v.1.1.0 v.1.1.1.1.1.0 v.1.1.1.1.1.1.0,
        v.1.1.1.1.1.1.1,
      )) h q refl k
      ∙ g0 (Exactly mark.OpenRound ∷ Params ∷ Exactly mark.CloseRound ∷ Exactly mark.Arrow ∷ AType ∷ ABlock ∷ st)
      (λ v. k (decl.Function p v.0 v.1.1.0 v.1.1.1.1.1.0 v.1.1.1.1.1.1.0, v.1.1.1.1.1.1.1))
      ∙ g1 (Params ∷ Exactly mark.CloseRound ∷ Exactly mark.Arrow ∷ AType ∷ ABlock ∷ st)
      (λ v. k (decl.Function p x0 v.1.0 v.1.1.1.1.0 v.1.1.1.1.1.0, v.1.1.1.1.1.1))
      ∙ g2 (Exactly mark.CloseRound ∷ Exactly mark.Arrow ∷ AType ∷ ABlock ∷ st)
      (λ v. k (decl.Function p x0 v.0 v.1.1.1.0 v.1.1.1.1.0, v.1.1.1.1.1))
      ∙ g3 (Exactly mark.Arrow ∷ AType ∷ ABlock ∷ st) (λ v. k (decl.Function p x0 x2 v.1.1.0 v.1.1.1.0, v.1.1.1.1))
      ∙ g4 (AType ∷ ABlock ∷ st) (λ v. k (decl.Function p x0 x2 v.1.0 v.1.1.0, v.1.1.1))
      ∙ g5 (ABlock ∷ st) (λ v. k (decl.Function p x0 x2 v.0 v.1.0, v.1.1)),
)) z

pub ruleset steps_function = (
  gives_function,
  halts_function,
  stops_function_0,
  stops_function_1,
  stops_function_2,
  stops_function_3,
  stops_function_4,
  stops_function_5,
  stops_function_6,
  memory,
  reads_ok,
  reads_err,
)

open_text : (b : Ahead) (p : Place) (st : Stack) (k : Values (Text ∷ st) → Tree) → place_of b.left ≡ p
    → reading b.opened (Text ∷ st) k b.left ≡ reading b.opened (ADecl ∷ Decls ∷ st) (λ v. k (
      tree_of p v.0 v.1.0,
      v.1.1,
    )) b.left
open_text b p st k q = same_read b.opened (ADecl ∷ Decls ∷ st) (Text ∷ st) (λ v. (
  tree_of (place_of b.left) v.0 v.1.0,
  v.1.1,
)) k b.left (refl) ∙ ap (λ p. reading b.opened (ADecl ∷ Decls ∷ st) (λ v. k (tree_of p v.0 v.1.0, v.1.1))
    b.left) q

pub gives_text : (b0 b1 b2 : Ahead) (p : Place) (x0 : Decl) (x1 : List Decl) → place_of b0.left ≡ p
    → Gives ADecl b0 x0 b1 → Gives Decls b1 x1 b2 → Gives Text b0 (tree_of p x0 x1) b2
unfolding Gives
gives_text b0 b1 b2 p x0 x1 q g0 g1 = λ st k.
    open_text b0 p st k q
    ∙ g0 (Decls ∷ st) (λ v. k (tree_of p v.0 v.1.0, v.1.1))
    ∙ g1 (st) (λ v. k (tree_of p x0 v.0, v.1))

pub stops_text_0 : (b0 : Ahead) (p : Place) (e : SyntaxFault) → place_of b0.left ≡ p → Stops ADecl b0 e
    → Stops Text b0 e
stops_text_0 b0 p e q z = stops_by Text ADecl b0 b0 e (λ st k. (
  (Decls ∷ st),
  (λ v. k (tree_of p v.0 v.1.0, v.1.1)),
  open_text b0 p st k q,
)) z

pub stops_text_1 : (b0 b1 : Ahead) (p : Place) (x0 : Decl) (e : SyntaxFault) → place_of b0.left ≡ p
    → Gives ADecl b0 x0 b1 → Stops Decls b1 e → Stops Text b0 e
unfolding Gives
stops_text_1 b0 b1 p x0 e q g0 z = stops_by Text Decls b0 b1 e (λ st k. (
  (st),
  (λ v. k (tree_of p x0 v.0, v.1)),
  open_text b0 p st k q
      ∙ g0 (Decls ∷ st) (λ v. k (tree_of p v.0 v.1.0, v.1.1)),
)) z

pub ruleset steps_text = (gives_text, stops_text_0, stops_text_1, memory, reads_ok, reads_err)
