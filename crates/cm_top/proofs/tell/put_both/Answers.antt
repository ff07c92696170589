use Rattle.cm_top.proofs.Parts.{part_first, part_last}
use Rattle.cm_top.proofs.tell.put_both.Goals as goal

pub returns-in-Err-put-clause-taken : goal.returns-in-Err-put-clause-taken
returns-in-Err-put-clause-taken g c =
    part_last (g.O.Sink.written c.args.out.now) (g.O.Sink.written c.put.new.self)
    (g.O.Sink.written c.put-in-Ok.new.self) c.args.first.now c.args.second.now c.in-Ok.ensures.taken
    c.in-Err-put.ensures.taken

pub returns-in-Err-clause-taken : goal.returns-in-Err-clause-taken
returns-in-Err-clause-taken g c =
    part_first (g.O.Sink.written c.args.out.now)
    (g.O.Sink.written c.put.new.self) c.args.first.now c.args.second.now c.in-Err.ensures.taken
