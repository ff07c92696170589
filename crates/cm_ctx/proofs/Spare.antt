-- With the spare there is room for the outcome of any question.
use Rattle.std.proofs.Common.{IsTrue}
use Rattle.cm_term.specs.declared.question.Question.{Question}
use Rattle.cm_term.specs.declared.question.Question.TheVariants as question
use Rattle.cm_ctx.specs.Contexts.{Context, HasSpare}

pub room : (c : Context) → IsTrue c.classes.spare → (q : Question) → HasSpare c q
room c h (question.Elems x y) = h
room c h (question.Nums a b) = tt
room c h (question.Range a lo hi) = tt
room c h (question.TagOf a) = tt
room c h (question.OptOf a) = tt
