use Rattle.cm_samples.proofs.Deep.{fun_name-utf8}
use Rattle.cm_samples.proofs.depth.numbered.Goals as goal

pub unreachable-requires : goal.unreachable-requires
unreachable-requires c = c.in_default.ensures.cases.0 (fun_name-utf8 c.args.n c.requires.few)
