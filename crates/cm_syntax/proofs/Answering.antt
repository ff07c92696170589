-- From the reader's steps to the answer to a whole text.
use Rattle.std.proofs.Common.{◌≡◌, ℕ, List, [], ◌∷◌, Some, None, Result, Ok, Err, refl, sym, ap, ◌∙◌}
use Rattle.cm_tokens.specs.declared.token.Token.{Token}
use Rattle.cm_tokens.specs.declared.token.Placed.{Placed}
use Rattle.cm_syntax.specs.declared.tree.Tree.{Tree}
use Rattle.cm_syntax.specs.declared.fault.SyntaxFault.{SyntaxFault}
use Rattle.cm_syntax.specs.declared.fault.SyntaxFault.TheVariants as fault
use Rattle.cm_syntax.specs.Text.{place_of, IsRight, GivesAnswer}
use Rattle.cm_syntax.specs.inner.Machine.{Text, Values, head, reading, Syntax, Ahead, Gives, Stops, Answers}
use Rattle.cm_syntax.proofs.Laws.{tree_reads, syntax_is, deep_is}
use Rattle.cm_syntax.proofs.Exact.{one_right}
use Rattle.cm_syntax.proofs.Steps.{reads_ok, reads_err}

nothing_left : (n : ℕ) (k : Values [] → Tree) (ps : List Placed) → head ps ≡ None → reading n [] k ps ≡ Ok (k tt)
nothing_left n k [] e = refl
nothing_left n k (p ∷ ps) e = cc

more_left : (n : ℕ) (k : Values [] → Tree) (ps : List Placed) (t : Token) → head ps ≡ Some t
    → reading n [] k ps ≡ Err (Syntax ps)
more_left n k [] t e = cc
more_left n k (p ∷ ps) t e = refl

pub answers_tree : (a b : Ahead) (t : Tree) → a.opened ≡ 0 → Gives Text a t b → head b.left ≡ None
    → Answers a.left (Ok t)
unfolding Answers Gives
answers_tree a b t z g e = ap (λ n. reading n (Text ∷ []) (λ v. v.0) a.left) (sym z) ∙ g [] (λ v. v.0)
    ∙ nothing_left b.opened (λ v. t) b.left e

pub answers_more : (a b : Ahead) (t : Tree) (u : Token) → a.opened ≡ 0 → Gives Text a t b → head b.left ≡ Some u
    → Answers a.left (Err (fault.Syntax (place_of b.left)))
unfolding Answers Gives
answers_more a b t u z g e = (
  b.left,
  refl,
  ap (λ n. reading n (Text ∷ []) (λ v. v.0) a.left) (sym z)
      ∙ g [] (λ v. v.0) ∙ more_left b.opened (λ v. t) b.left u e,
)

pub answers_fault : (a : Ahead) (e : SyntaxFault) → a.opened ≡ 0 → Stops Text a e → Answers a.left (Err e)
unfolding Answers Stops
answers_fault a fault.Memory z h = tt
answers_fault a (fault.Syntax place) z h = (
  h.0,
  h.1,
  ap (λ n. reading n (Text ∷ []) (λ v. v.0) a.left) (sym z)
      ∙ h.2 [] (λ v. v.0),
)
answers_fault a (fault.Deep place) z h = (
  h.0,
  h.1,
  ap (λ n. reading n (Text ∷ []) (λ v. v.0) a.left) (sym z)
      ∙ h.2 [] (λ v. v.0),
)

pub answers_memory : (text : List Placed) → Answers text (Err fault.Memory)
unfolding Answers
answers_memory text = tt

pub ruleset answers = (answers_tree, answers_more, answers_fault, answers_memory, reads_ok, reads_err)

-- The answer is right.
pub right_of : (text : List Placed) (r : Result Tree SyntaxFault) → Answers text r → IsRight text r
unfolding Answers
right_of text (Ok t) h = tree_reads text t h
right_of text (Err fault.Memory) h = tt
right_of text (Err (fault.Syntax place)) h = syntax_is text h.0 place h.2 h.1
right_of text (Err (fault.Deep place)) h = deep_is text h.0 place h.2 h.1

-- Whatever is right is the answer.
pub exact_of : (text : List Placed) (r result : Result Tree SyntaxFault) → Answers text result → IsRight text r
    → GivesAnswer r result
exact_of text r result h right = one_right text r result right (right_of text result h)
