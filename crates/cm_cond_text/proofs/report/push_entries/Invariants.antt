use Rattle.std.proofs.Common.{◌≡◌, ◌++◌, flat_map, drop}
use Rattle.cm_cond_text.specs.Reports.{text_of_entry}
use Rattle.cm_cond_text.proofs.report.push_entries.Given as goal

-- with what is left it is the whole
abbrev pub invariant-entries : goal.invariant-entries
invariant-entries l =
    l.to.items ++ flat_map (text_of_entry l.model) (drop l.entry-index l.entries)
    ≡ l.fn.to.items ++ flat_map (text_of_entry l.model) l.entries
