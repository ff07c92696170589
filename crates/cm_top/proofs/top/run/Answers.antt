use Rattle.std.proofs.Common.{subst, sym}
use Rattle.cm_top.specs.Endings.{IsEnding, Outside}
use Rattle.cm_top.proofs.top.run.Goals as goal

pub returns-in-Posix : goal.returns-in-Posix
returns-in-Posix g c =
    let o : Outside = record {
      held = g.S.Shelf.held c.args.shelf.now;
      before = g.S.Shelf.faults c.args.shelf.now;
      now = g.S.Shelf.faults c.args.shelf.now;
      old = g.O.Sink.written c.args.out.now;
      new = g.O.Sink.written c.run-in-Posix.new.out;
      put_before = g.O.Sink.faults c.args.out.now;
      put_now = g.O.Sink.faults c.run-in-Posix.new.out;
    } in
    subst (λ t. IsEnding t o c.run-in-Posix.result) (sym c.in-Posix.is) (c.run-in-Posix.ensures o.held o.before o.now)
