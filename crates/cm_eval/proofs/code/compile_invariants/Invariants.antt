-- The codes that were made.
use Rattle.std.proofs.Common.{◌≡◌, ◌++◌, drop, map}
use Rattle.cm_eval.specs.Compiled.{invariant_code_of}
use Rattle.cm_eval.proofs.code.compile_invariants.Given as goal

abbrev pub invariant-loop-state : goal.invariant-loop-state
invariant-loop-state l =
    l.codes ++ map (λ d. invariant_code_of l.ints d.inv) (drop l.state-index l.states)
    ≡ map (λ d. invariant_code_of l.ints d.inv) l.fn.states
