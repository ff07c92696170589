use Rattle.std.proofs.Common.{◌≡◌, ◌++◌, drop}
use Rattle.cm_cond_text.specs.inner.Lines.{literal_lines_in}
use Rattle.cm_cond_text.proofs.report.push_literals.Given as goal

-- with what is left it is the whole
abbrev pub invariant-literals : goal.invariant-literals
invariant-literals l =
    l.to.items ++ literal_lines_in l.scope (drop l.literal-index l.literals)
    ≡ l.fn.to.items ++ literal_lines_in l.scope l.literals
