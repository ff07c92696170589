use Rattle.std.proofs.Common.{◌≡◌, ◌++◌, codes, flat_map, take}
use Rattle.cm_top.specs.Output.{conflict_text}
use Rattle.cm_top.proofs.output.push_section.Given as goal

-- the section's line, and the conflict lines so far
abbrev pub invariant-loop-line : goal.invariant-loop-line
invariant-loop-line l = l.to.items ≡ l.fn.to.items ++ (codes "test " ++ l.name ++ codes "\n" ++ flat_map conflict_text
    (take l.line-index l.lines))
