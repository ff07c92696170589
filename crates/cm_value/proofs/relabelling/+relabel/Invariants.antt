-- The values before the index are made.
use Rattle.std.proofs.Common.{◌≡◌, ◌++◌, map, drop}
use Rattle.cm_value.specs.Relabelling.{relabel_of, each_relabelled}
use Rattle.cm_value.proofs.relabelling.+relabel.Given as goal

abbrev pub invariant-relabel_parts-loop-i : goal.invariant-relabel_parts-loop-i
invariant-relabel_parts-loop-i l =
    l.values ++ each_relabelled (map (relabel_of l.model l.by) (drop l.i l.parts)) (map (λ p. p.ty) (drop l.i l.fields))
    ≡ each_relabelled (map (relabel_of l.fn.model l.fn.by) l.fn.parts) (map (λ p. p.ty) l.fn.fields)
