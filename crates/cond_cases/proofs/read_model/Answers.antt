use Rattle.cond_cases.proofs.read_model.Goals as goal

pub checked-requires : goal.checked-requires
checked-requires c = record { read = (c.args.text.now, c.in-Ok.ensures.right) }
