use Rattle.std.proofs.Common.{◌≡◌, ◌++◌, flat_map, drop}
use Rattle.cm_cond_text.specs.Reports.{text_of_case}
use Rattle.cm_cond_text.proofs.report.push_cases.Given as goal

-- with what is left it is the whole
abbrev pub invariant-cases : goal.invariant-cases
invariant-cases l =
    l.to.items ++ flat_map (text_of_case l.model l.pair) (drop l.case-index l.cases)
    ≡ l.fn.to.items ++ flat_map (text_of_case l.model l.pair) l.cases
