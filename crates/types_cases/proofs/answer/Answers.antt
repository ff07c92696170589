use Rattle.types_cases.proofs.answer.Goals as goal

pub checked-requires : goal.checked-requires
checked-requires c = record { read = (c.args.text.now, c.in-Ok.ensures.right) }
