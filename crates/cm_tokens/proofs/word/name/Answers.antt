use Rattle.cm_tokens.proofs.Runs.{name_utf8}
use Rattle.cm_tokens.proofs.word.name.Goals as goal

pub unreachable-requires : goal.unreachable-requires
unreachable-requires c = c.in_default.ensures.cases.0 (name_utf8 c.args.run.now c.requires)
