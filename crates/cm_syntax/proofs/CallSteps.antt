-- How the reader's steps add up. What stands for a call.
use Rattle.std.proofs.Common.{◌≡◌, ℕ, List, ◌∷◌, Some, refl, ap, ◌∙◌}
use Rattle.cm_model.specs.declared.place.Place.{Place}
use Rattle.cm_tokens.specs.declared.token.Token.TheVariants as token
use Rattle.cm_syntax.specs.declared.mark.Mark.TheVariants as mark
use Rattle.cm_syntax.specs.declared.tree.Tree.{Tree}
use Rattle.cm_syntax.specs.declared.tree.Decl.TheVariants as decl
use Rattle.cm_syntax.specs.declared.tree.Part.{Part}
use Rattle.cm_syntax.specs.declared.tree.«Type».{«Type» as TypeTree}
use Rattle.cm_syntax.specs.declared.tree.Block.{Block}
use Rattle.cm_syntax.specs.declared.fault.SyntaxFault.{SyntaxFault}
use Rattle.cm_syntax.specs.Text.{place_of}
use Rattle.cm_syntax.specs.inner.Machine.{Exactly, AName, AType, Params, Internals, ADecl, Decls, ABlock, Text, Stack}
use Rattle.cm_syntax.specs.inner.Machine.{Values, reading, Ahead, head, Gives, Stops, Passes, Halts, tree_of}
use Rattle.cm_syntax.proofs.Steps.{same_read, passes_to, halts_at, stops_by, memory, reads_ok, reads_err}

pub gives_call : (a b0 b1 b2 b3 b4 b5 b6 b7 b8 : Ahead) (p : Place) (x0 : List ℕ) (x2 : List Part) (x3 : List Part)
    (x6 : TypeTree) (x7 : Block) → head a.left ≡ Some token.Call → Passes a p b0 → Gives AName b0 x0 b1
    → Gives (Exactly mark.OpenRound) b1 tt b2 → Gives Params b2 x2 b3 → Gives Internals b3 x3 b4
    → Gives (Exactly mark.CloseRound) b4 tt b5 → Gives (Exactly mark.Arrow) b5 tt b6 → Gives AType b6 x6 b7
    → Gives ABlock b7 x7 b8 → Gives ADecl a (decl.Call p x0 x2 x3 x6 x7) b8
unfolding Gives
gives_call a b0 b1 b2 b3 b4 b5 b6 b7 b8 p x0 x2 x3 x6 x7 h q g0 g1 g2 g3 g4 g5 g6 g7 = λ st k.
    passes_to ADecl token.Call a b0 p st (AName ∷ Exactly mark.OpenRound ∷ Params ∷ Internals ∷ Exactly mark.CloseRound
    ∷ Exactly mark.Arrow ∷ AType ∷ ABlock ∷ st) (λ v. (
      decl.Call p v.0 v.1.1.0 v.1.1.1.0 v.1.1.1.1.1.1.0
          v.1.1.1.1.1.1.1.0,
      v.1.1.1.1.1.1.1.1,
    )) h q refl k
    ∙ g0 (Exactly mark.OpenRound ∷ Params ∷ Internals ∷ Exactly mark.CloseRound ∷ Exactly mark.Arrow
    ∷ AType ∷ ABlock ∷ st) (λ v. k (
      decl.Call p v.0 v.1.1.0 v.1.1.1.0 v.1.1.1.1.1.1.0 v.1.1.1.1.1.1.1.0,
      v.1.1.1.1.1.1.1.1,
    ))
    ∙ g1 (Params ∷ Internals ∷ Exactly mark.CloseRound ∷ Exactly mark.Arrow ∷ AType ∷ ABlock ∷ st)
    (λ v. k (decl.Call p x0 v.1.0 v.1.1.0 v.1.1.1.1.1.0 v.1.1.1.1.1.1.0, v.1.1.1.1.1.1.1))
    ∙ g2 (Internals ∷ Exactly mark.CloseRound ∷ Exactly mark.Arrow ∷ AType ∷ ABlock ∷ st)
    (λ v. k (decl.Call p x0 v.0 v.1.0 v.1.1.1.1.0 v.1.1.1.1.1.0, v.1.1.1.1.1.1))
    ∙ g3 (Exactly mark.CloseRound ∷ Exactly mark.Arrow ∷ AType ∷ ABlock ∷ st)
    (λ v. k (decl.Call p x0 x2 v.0 v.1.1.1.0 v.1.1.1.1.0, v.1.1.1.1.1))
    ∙ g4 (Exactly mark.Arrow ∷ AType ∷ ABlock ∷ st) (λ v. k (decl.Call p x0 x2 x3 v.1.1.0 v.1.1.1.0, v.1.1.1.1))
    ∙ g5 (AType ∷ ABlock ∷ st) (λ v. k (decl.Call p x0 x2 x3 v.1.0 v.1.1.0, v.1.1.1))
    ∙ g6 (ABlock ∷ st) (λ v. k (decl.Call p x0 x2 x3 v.0 v.1.0, v.1.1))
    ∙ g7 (st) (λ v. k (decl.Call p x0 x2 x3 x6 v.0, v.1))

pub halts_call : (a : Ahead) (e : SyntaxFault) → head a.left ≡ Some token.Call → Halts a e → Stops ADecl a e
halts_call a e h q = halts_at ADecl token.Call a e h q
    (λ p st. (
      (AName ∷ Exactly mark.OpenRound ∷ Params ∷ Internals ∷ Exactly mark.CloseRound ∷ Exactly mark.Arrow
          ∷ AType ∷ ABlock ∷ st),
      (λ v. (
        decl.Call p v.0 v.1.1.0 v.1.1.1.0 v.1.1.1.1.1.1.0 v.1.1.1.1.1.1.1.0,
        v.1.1.1.1.1.1.1.1,
      )),
      refl,
    ))

pub stops_call_0 : (a b0 : Ahead) (p : Place) (e : SyntaxFault) → head a.left ≡ Some token.Call → Passes a p b0
    → Stops AName b0 e → Stops ADecl a e
stops_call_0 a b0 p e h q z = stops_by ADecl AName a b0 e (λ st k. (
  (Exactly mark.OpenRound ∷ Params ∷ Internals ∷ Exactly mark.CloseRound ∷ Exactly mark.Arrow ∷ AType ∷ ABlock ∷ st),
  (λ v. k (decl.Call p v.0 v.1.1.0 v.1.1.1.0 v.1.1.1.1.1.1.0 v.1.1.1.1.1.1.1.0, v.1.1.1.1.1.1.1.1)),
  passes_to ADecl token.Call a b0 p st (AName ∷ Exactly mark.OpenRound ∷ Params ∷ Internals ∷ Exactly mark.CloseRound
      ∷ Exactly mark.Arrow ∷ AType ∷ ABlock ∷ st) (λ v. (
        decl.Call p v.0 v.1.1.0 v.1.1.1.0 v.1.1.1.1.1.1.0
            v.1.1.1.1.1.1.1.0,
        v.1.1.1.1.1.1.1.1,
      )) h q refl k,
)) z

pub stops_call_1 : (a b0 b1 : Ahead) (p : Place) (x0 : List ℕ) (e : SyntaxFault) → head a.left ≡ Some token.Call
    → Passes a p b0 → Gives AName b0 x0 b1 → Stops (Exactly mark.OpenRound) b1 e → Stops ADecl a e
unfolding Gives
stops_call_1 a b0 b1 p x0 e h q g0 z = stops_by ADecl (Exactly mark.OpenRound) a b1 e (λ st k. (
  (Params ∷ Internals ∷ Exactly mark.CloseRound ∷ Exactly mark.Arrow ∷ AType ∷ ABlock ∷ st),
  (λ v. k (decl.Call p x0 v.1.0 v.1.1.0 v.1.1.1.1.1.0 v.1.1.1.1.1.1.0, v.1.1.1.1.1.1.1)),
  passes_to ADecl token.Call a b0 p st (AName ∷ Exactly mark.OpenRound ∷ Params ∷ Internals ∷ Exactly mark.CloseRound
      ∷ Exactly mark.Arrow ∷ AType ∷ ABlock ∷ st) (λ v. (
        decl.Call p v.0 v.1.1.0 v.1.1.1.0 v.1.1.1.1.1.1.0
            v.1.1.1.1.1.1.1.0,
        v.1.1.1.1.1.1.1.1,
      )) h q refl k
      ∙ g0 (Exactly mark.OpenRound ∷ Params ∷ Internals ∷ Exactly mark.CloseRound ∷ Exactly mark.Arrow
      ∷ AType ∷ ABlock ∷ st) (λ v. k (
        decl.Call p v.0 v.1.1.0 v.1.1.1.0 v.1.1.1.1.1.1.0 v.1.1.1.1.1.1.1.0,
        v.1.1.1.1.1.1.1.1,
      )),
)) z

pub stops_call_2 : (a b0 b1 b2 : Ahead) (p : Place) (x0 : List ℕ) (e : SyntaxFault) → head a.left ≡ Some token.Call
    → Passes a p b0 → Gives AName b0 x0 b1 → Gives (Exactly mark.OpenRound) b1 tt b2 → Stops Params b2 e
    → Stops ADecl a e
unfolding Gives
stops_call_2 a b0 b1 b2 p x0 e h q g0 g1 z = stops_by ADecl Params a b2 e (λ st k. (
  (Internals ∷ Exactly mark.CloseRound ∷ Exactly mark.Arrow ∷ AType ∷ ABlock ∷ st),
  (λ v. k (decl.Call p x0 v.0 v.1.0 v.1.1.1.1.0 v.1.1.1.1.1.0, v.1.1.1.1.1.1)),
  passes_to ADecl token.Call a b0 p st (AName ∷ Exactly mark.OpenRound ∷ Params ∷ Internals ∷ Exactly mark.CloseRound
      ∷ Exactly mark.Arrow ∷ AType ∷ ABlock ∷ st) (λ v. (
        decl.Call p v.0 v.1.1.0 v.1.1.1.0 v.1.1.1.1.1.1.0
            v.1.1.1.1.1.1.1.0,
        v.1.1.1.1.1.1.1.1,
      )) h q refl k
      ∙ g0 (Exactly mark.OpenRound ∷ Params ∷ Internals ∷ Exactly mark.CloseRound ∷ Exactly mark.Arrow
      ∷ AType ∷ ABlock ∷ st) (λ v. k (
        decl.Call p v.0 v.1.1.0 v.1.1.1.0 v.1.1.1.1.1.1.0 v.1.1.1.1.1.1.1.0,
        v.1.1.1.1.1.1.1.1,
      ))
      ∙ g1 (Params ∷ Internals ∷ Exactly mark.CloseRound ∷ Exactly mark.Arrow ∷ AType ∷ ABlock ∷ st)
      (λ v. k (decl.Call p x0 v.1.0 v.1.1.0 v.1.1.1.1.1.0 v.1.1.1.1.1.1.0, v.1.1.1.1.1.1.1)),
)) z

pub stops_call_3 : (a b0 b1 b2 b3 : Ahead) (p : Place) (x0 : List ℕ) (x2 : List Part) (e : SyntaxFault)
    → head a.left ≡ Some token.Call → Passes a p b0 → Gives AName b0 x0 b1 → Gives (Exactly mark.OpenRound) b1 tt b2
    → Gives Params b2 x2 b3 → Stops Internals b3 e → Stops ADecl a e
unfolding Gives
stops_call_3 a b0 b1 b2 b3 p x0 x2 e h q g0 g1 g2 z = stops_by ADecl Internals a b3 e (λ st k. (
  (Exactly mark.CloseRound ∷ Exactly mark.Arrow ∷ AType ∷ ABlock ∷ st),
  (λ v. k (decl.Call p x0 x2 v.0 v.1.1.1.0 v.1.1.1.1.0, v.1.1.1.1.1)),
  passes_to ADecl token.Call a b0 p st (AName ∷ Exactly mark.OpenRound ∷ Params ∷ Internals ∷ Exactly mark.CloseRound
      ∷ Exactly mark.Arrow ∷ AType ∷ ABlock ∷ st) (λ v. (
        decl.Call p v.0 v.1.1.0 v.1.1.1.0 v.1.1.1.1.1.1.0
            v.1.1.1.1.1.1.1.0,
        v.1.1.1.1.1.1.1.1,
      )) h q refl k
      ∙ g0 (Exactly mark.OpenRound ∷ Params ∷ Internals ∷ Exactly mark.CloseRound ∷ Exactly mark.Arrow
      ∷ AType ∷ ABlock ∷ st) (λ v. k (
        decl.Call p v.0 v.1.1.0 v.1.1.1.0 v.1.1.1.1.1.1.0 v.1.1.1.1.1.1.1.0,
        v.1.1.1.1.1.1.1.1,
      ))
      ∙ g1 (Params ∷ Internals ∷ Exactly mark.CloseRound ∷ Exactly mark.Arrow ∷ AType ∷ ABlock ∷ st)
      (λ v. k (decl.Call p x0 v.1.0 v.1.1.0 v.1.1.1.1.1.0 v.1.1.1.1.1.1.0, v.1.1.1.1.1.1.1))
      ∙ g2 (Internals ∷ Exactly mark.CloseRound ∷ Exactly mark.Arrow ∷ AType ∷ ABlock ∷ st)
      (λ v. k (decl.Call p x0 v.0 v.1.0 v.1.1.1.1.0 v.1.1.1.1.1.0, v.1.1.1.1.1.1)),
)) z

pub stops_call_4 : (a b0 b1 b2 b3 b4 : Ahead) (p : Place) (x0 : List ℕ) (x2 : List Part) (x3 : List Part)
    (e : SyntaxFault) → head a.left ≡ Some token.Call → Passes a p b0 → Gives AName b0 x0 b1
    → Gives (Exactly mark.OpenRound) b1 tt b2 → Gives Params b2 x2 b3 → Gives Internals b3 x3 b4
    → Stops (Exactly mark.CloseRound) b4 e → Stops ADecl a e
unfolding Gives
stops_call_4 a b0 b1 b2 b3 b4 p x0 x2 x3 e h q g0 g1 g2 g3 z = stops_by ADecl (Exactly mark.CloseRound)
    a b4 e (λ st k. (
      (Exactly mark.Arrow ∷ AType ∷ ABlock ∷ st),
      (λ v. k (decl.Call p x0 x2 x3 v.1.1.0 v.1.1.1.0, v.1.1.1.1)),
      passes_to ADecl token.Call a b0 p st (AName ∷ Exactly mark.OpenRound ∷ Params ∷ Internals
          ∷ Exactly mark.CloseRound
          ∷ Exactly mark.Arrow ∷ AType ∷ ABlock ∷ st) (λ v. (
            decl.Call p v.0 v.1.1.0 v.1.1.1.0 v.1.1.1.1.1.1.0
                v.1.1.1.1.1.1.1.0,
            v.1.1.1.1.1.1.1.1,
          )) h q refl k
          ∙ g0 (Exactly mark.OpenRound ∷ Params ∷ Internals ∷ Exactly mark.CloseRound ∷ Exactly mark.Arrow
          ∷ AType ∷ ABlock ∷ st) (λ v. k (
            decl.Call p v.0 v.1.1.0 v.1.1.1.0 v.1.1.1.1.1.1.0 v.1.1.1.1.1.1.1.0,
            v.1.1.1.1.1.1.1.1,
          ))
          ∙ g1 (Params ∷ Internals ∷ Exactly mark.CloseRound ∷ Exactly mark.Arrow ∷ AType ∷ ABlock ∷ st)
          (λ v. k (decl.Call p x0 v.1.0 v.1.1.0 v.1.1.1.1.1.0 v.1.1.1.1.1.1.0, v.1.1.1.1.1.1.1))
          ∙ g2 (Internals ∷ Exactly mark.CloseRound ∷ Exactly mark.Arrow ∷ AType ∷ ABlock ∷ st)
          (λ v. k (decl.Call p x0 v.0 v.1.0 v.1.1.1.1.0 v.1.1.1.1.1.0, v.1.1.1.1.1.1))
          ∙ g3 (Exactly mark.CloseRound ∷ Exactly mark.Arrow ∷ AType ∷ ABlock ∷ st)
          (λ v. k (decl.Call p x0 x2 v.0 v.1.1.1.0 v.1.1.1.1.0, v.1.1.1.1.1)),
    )) z

pub stops_call_5 : (a b0 b1 b2 b3 b4 b5 : Ahead) (p : Place) (x0 : List ℕ) (x2 : List Part) (x3 : List Part)
    (e : SyntaxFault) → head a.left ≡ Some token.Call → Passes a p b0 → Gives AName b0 x0 b1
    → Gives (Exactly mark.OpenRound) b1 tt b2 → Gives Params b2 x2 b3 → Gives Internals b3 x3 b4
    → Gives (Exactly mark.CloseRound) b4 tt b5 → Stops (Exactly mark.Arrow) b5 e → Stops ADecl a e
unfolding Gives
stops_call_5 a b0 b1 b2 b3 b4 b5 p x0 x2 x3 e h q g0 g1 g2 g3 g4 z = stops_by ADecl (Exactly mark.Arrow)
    a b5 e (λ st k. (
      (AType ∷ ABlock ∷ st),
      (λ v. k (decl.Call p x0 x2 x3 v.1.0 v.1.1.0, v.1.1.1)),
      passes_to ADecl token.Call a b0 p st (AName ∷ Exactly mark.OpenRound ∷ Params ∷ Internals
          ∷ Exactly mark.CloseRound
          ∷ Exactly mark.Arrow ∷ AType ∷ ABlock ∷ st) (λ v. (
            decl.Call p v.0 v.1.1.0 v.1.1.1.0 v.1.1.1.1.1.1.0
                v.1.1.1.1.1.1.1.0,
            v.1.1.1.1.1.1.1.1,
          )) h q refl k
          ∙ g0 (Exactly mark.OpenRound ∷ Params ∷ Internals ∷ Exactly mark.CloseRound ∷ Exactly mark.Arrow
          ∷ AType ∷ ABlock ∷ st) (λ v. k (
            decl.Call p v.0 v.1.1.0 v.1.1.1.0 v.1.1.1.1.1.1.0 v.1.1.1.1.1.1.1.0,
            v.1.1.1.1.1.1.1.1,
          ))
          ∙ g1 (Params ∷ Internals ∷ Exactly mark.CloseRound ∷ Exactly mark.Arrow ∷ AType ∷ ABlock ∷ st)
          (λ v. k (decl.Call p x0 v.1.0 v.1.1.0 v.1.1.1.1.1.0 v.1.1.1.1.1.1.0, v.1.1.1.1.1.1.1))
          ∙ g2 (Internals ∷ Exactly mark.CloseRound ∷ Exactly mark.Arrow ∷ AType ∷ ABlock ∷ st)
          (λ v. k (decl.Call p x0 v.0 v.1.0 v.1.1.1.1.0 v.1.1.1.1.1.0, v.1.1.1.1.1.1))
          ∙ g3 (Exactly mark.CloseRound ∷ Exactly mark.Arrow ∷ AType ∷ ABlock ∷ st)
          (λ v. k (decl.Call p x0 x2 v.0 v.1.1.1.0 v.1.1.1.1.0, v.1.1.1.1.1))
          ∙ g4 (Exactly mark.Arrow ∷ AType ∷ ABlock ∷ st) (λ v. k (decl.Call p x0 x2 x3 v.1.1.0 v.1.1.1.0, v.1.1.1.1)),
    )) z

pub stops_call_6 : (a b0 b1 b2 b3 b4 b5 b6 : Ahead) (p : Place) (x0 : List ℕ) (x2 : List Part) (x3 : List Part)
    (e : SyntaxFault) → head a.left ≡ Some token.Call → Passes a p b0 → Gives AName b0 x0 b1
    → Gives (Exactly mark.OpenRound) b1 tt b2 → Gives Params b2 x2 b3 → Gives Internals b3 x3 b4
    → Gives (Exactly mark.CloseRound) b4 tt b5 → Gives (Exactly mark.Arrow) b5 tt b6 → Stops AType b6 e
    → Stops ADecl a e
unfolding Gives
stops_call_6 a b0 b1 b2 b3 b4 b5 b6 p x0 x2 x3 e h q g0 g1 g2 g3 g4 g5 z = stops_by ADecl AType a b6 e (λ st k. (
  (ABlock ∷ st),
  (λ v. k (decl.Call p x0 x2 x3 v.0 v.1.0, v.1.1)),
  passes_to ADecl token.Call a b0 p st (AName ∷ Exactly mark.OpenRound ∷ Params ∷ Internals ∷ Exactly mark.CloseRound
      ∷ Exactly mark.Arrow ∷ AType ∷ ABlock ∷ st) (λ v. (
        decl.Call p v.0 v.1.1.0 v.1.1.1.0 v.1.1.1.1.1.1.0
            v.1.1.1.1.1.1.1.0,
        v.1.1.1.1.1.1.1.1,
      )) h q refl k
      ∙ g0 (Exactly mark.OpenRound ∷ Params ∷ Internals ∷ Exactly mark.CloseRound ∷ Exactly mark.Arrow
      ∷ AType ∷ ABlock ∷ st) (λ v. k (
        decl.Call p v.0 v.1.1.0 v.1.1.1.0 v.1.1.1.1.1.1.0 v.1.1.1.1.1.1.1.0,
        v.1.1.1.1.1.1.1.1,
      ))
      ∙ g1 (Params ∷ Internals ∷ Exactly mark.CloseRound ∷ Exactly mark.Arrow ∷ AType ∷ ABlock ∷ st)
      (λ v. k (decl.Call p x0 v.1.0 v.1.1.0 v.1.1.1.1.1.0 v.1.1.1.1.1.1.0, v.1.1.1.1.1.1.1))
      ∙ g2 (Internals ∷ Exactly mark.CloseRound ∷ Exactly mark.Arrow ∷ AType ∷ ABlock ∷ st)
      (λ v. k (decl.Call p x0 v.0 v.1.0 v.1.1.1.1.0 v.1.1.1.1.1.0, v.1.1.1.1.1.1))
      ∙ g3 (Exactly mark.CloseRound ∷ Exactly mark.Arrow ∷ AType ∷ ABlock ∷ st)
      (λ v. k (decl.Call p x0 x2 v.0 v.1.1.1.0 v.1.1.1.1.0, v.1.1.1.1.1))
      ∙ g4 (Exactly mark.Arrow ∷ AType ∷ ABlock ∷ st) (λ v. k (decl.Call p x0 x2 x3 v.1.1.0 v.1.1.1.0, v.1.1.1.1))
      ∙ g5 (AType ∷ ABlock ∷ st) (λ v. k (decl.Call p x0 x2 x3 v.1.0 v.1.1.0, v.1.1.1)),
)) z

pub stops_call_7 : (a b0 b1 b2 b3 b4 b5 b6 b7 : Ahead) (p : Place) (x0 : List ℕ) (x2 : List Part) (x3 : List Part)
    (x6 : TypeTree) (e : SyntaxFault) → head a.left ≡ Some token.Call → Passes a p b0 → Gives AName b0 x0 b1
    → Gives (Exactly mark.OpenRound) b1 tt b2 → Gives Params b2 x2 b3 → Gives Internals b3 x3 b4
    → Gives (Exactly mark.CloseRound) b4 tt b5 → Gives (Exactly mark.Arrow) b5 tt b6 → Gives AType b6 x6 b7
    → Stops ABlock b7 e → Stops ADecl a e
unfolding Gives
stops_call_7 a b0 b1 b2 b3 b4 b5 b6 b7 p x0 x2 x3 x6 e h q g0 g1 g2 g3 g4 g5 g6 z =
    stops_by ADecl ABlock a b7 e (λ st k. (
      (st),
      (λ v. k (decl.Call p x0 x2 x3 x6 v.0, v.1)),
      passes_to ADecl token.Call a b0 p st (AName ∷ Exactly mark.OpenRound ∷ Params ∷ Internals
          ∷ Exactly mark.CloseRound
          ∷ Exactly mark.Arrow ∷ AType ∷ ABlock ∷ st) (λ v. (
            decl.Call p v.0 v.1.1.0 v.1.1.1.0 v.1.1.1.1.1.1.0
                v.1.1.1.1.1.1.1.0,
            v.1.1.1.1.1.1.1.1,
          )) h q refl k
          ∙ g0 (Exactly mark.OpenRound ∷ Params ∷ Internals ∷ Exactly mark.CloseRound ∷ Exactly mark.Arrow
          ∷ AType ∷ ABlock ∷ st) (λ v. k (
            decl.Call p v.0 v.1.1.0 v.1.1.1.0 v.1.1.1.1.1.1.0 v.1.1.1.1.1.1.1.0,
            v.1.1.1.1.1.1.1.1,
          ))
          ∙ g1 (Params ∷ Internals ∷ Exactly mark.CloseRound ∷ Exactly mark.Arrow ∷ AType ∷ ABlock ∷ st)
          (λ v. k (decl.Call p x0 v.1.0 v.1.1.0 v.1.1.1.1.1.0 v.1.1.1.1.1.1.0, v.1.1.1.1.1.1.1))
          ∙ g2 (Internals ∷ Exactly mark.CloseRound ∷ Exactly mark.Arrow ∷ AType ∷ ABlock ∷ st)
          (λ v. k (decl.Call p x0 v.0 v.1.0 v.1.1.1.1.0 v.1.1.1.1.1.0, v.1.1.1.1.1.1))
          ∙ g3 (Exactly mark.CloseRound ∷ Exactly mark.Arrow ∷ AType ∷ ABlock ∷ st)
          (λ v. k (decl.Call p x0 x2 v.0 v.1.1.1.0 v.1.1.1.1.0, v.1.1.1.1.1))
          ∙ g4 (Exactly mark.Arrow ∷ AType ∷ ABlock ∷ st) (λ v. k (decl.Call p x0 x2 x3 v.1.1.0 v.1.1.1.0, v.1.1.1.1))
          ∙ g5 (AType ∷ ABlock ∷ st) (λ v. k (decl.Call p x0 x2 x3 v.1.0 v.1.1.0, v.1.1.1))
          ∙ g6 (ABlock ∷ st) (λ v. k (decl.Call p x0 x2 x3 v.0 v.1.0, v.1.1)),
    )) z

pub ruleset steps_call = (
  gives_call,
  halts_call,
  stops_call_0,
  stops_call_1,
  stops_call_2,
  stops_call_3,
  stops_call_4,
  stops_call_5,
  stops_call_6,
  stops_call_7,
  memory,
  reads_ok,
  reads_err,
)
