use Rattle.std.proofs.Common.{List, [], ◌∷◌, ◌++◌, ap, sym, ◌∙◌, arith}
use Rattle.cm_model.specs.declared.body.Call.{Call}
use Rattle.cm_samples.specs.Depth.{firsts, deep_fun}
use Rattle.cm_samples.proofs.Firsts.{firsts-none, firsts-more}
use Rattle.cm_samples.proofs.depth.functions.Goals as goal

pub functions-init : goal.functions-init
functions-init c = (omega arith, c.new-funs.ensures ∙ sym (firsts-none deep_fun))

pub functions-preserved : goal.functions-preserved
functions-preserved c =
    let below = c.functions-test.true in (
      omega (arith, below),
      c.in_ok-push.ensures.ok
          ∙ ap (λ (fs : List Call). fs ++ c.in_ok-fun.fun ∷ []) c.functions.invariant.1
          ∙ ap (λ (f : Call). firsts deep_fun c.functions.n ++ f ∷ []) c.in_ok-fun.ensures.exact
          ∙ sym (firsts-more deep_fun c.functions.n),
    )
