use Rattle.std.proofs.Common.{arith, ◌∷◌, ◌++◌, [], subst, sym}
use Rattle.std.proofs.lemmas.Result.{err_from_is_err_and}
use Rattle.cm_mtrace.specs.inner.Reading.{Reads, Steps}
use Rattle.cm_mtrace.proofs.Pieces.{stops_refused}
use Rattle.cm_mtrace.proofs.Stepping.{reads_push, shorter}
use Rattle.cm_mtrace.proofs.step.read_lines.Goals as goal

pub lines-preserved : goal.lines-preserved
lines-preserved c =
    let s = subst (Steps c.in_ok-known.known c.in_ok-known.behind.now c.read_entries.new.to.items
    c.next_step.new.to.items) c.in-Some.is c.in_ok-after.ensures.steps in
    let e = c.lines.invariant.done in
    let d = c.in_ok-known.ensures.reads c.args.before c.args.text.now e.0 c.args.to.now.items e.1 in
    record {
      room = omega (
        arith,
        c.lines.invariant.room,
        c.in_ok-known.ensures.counted,
        shorter c.in_ok-known.behind.now s.0 c.in-Some.after.now s.3,
      );
      done = (
        d.0 ++ s.0 ∷ [],
        reads_push c.args.before c.args.text.now d.0 c.in_ok-known.behind.now
            s.0 c.in-Some.after.now c.args.to.now.items c.read_entries.new.to.items c.next_step.new.to.items
            s.1 c.in_ok-known.known d.1 s.2 s.3 s.4 s.5,
      );
    }

pub returns-in-None-clause-ends : goal.returns-in-None-clause-ends
returns-in-None-clause-ends c =
    let s = subst (Steps c.in_ok-known.known c.in_ok-known.behind.now c.read_entries.new.to.items
    c.next_step.new.to.items) c.in-None.is c.in_ok-after.ensures.steps in
    let e = c.lines.invariant.done in
    let d = c.in_ok-known.ensures.reads c.args.before c.args.text.now e.0 c.args.to.now.items e.1 in (
      d.0,
      subst (λ n. Reads c.args.before c.args.text.now d.0 c.in_ok-known.behind.now c.args.to.now.items
          n c.in_ok-known.known) (sym s.1) d.1,
      s.0,
    )

pub returns-in_err-after-clause-stops : goal.returns-in_err-after-clause-stops
returns-in_err-after-clause-stops c =
    let p = err_from_is_err_and c.from_residual-in_err-after.result c.from_residual-in_err-after.ensures.1 in
    let e = c.lines.invariant.done in
    let d = c.in_ok-known.ensures.reads c.args.before c.args.text.now e.0 c.args.to.now.items e.1 in
    rw (p.1, p.2) (stops_refused c.args.before c.args.text.now d.0 c.in_ok-known.behind.now c.args.to.now.items
    c.read_entries.new.to.items c.next_step.new.to.items c.in_ok-known.known c.in_err-after.field-0.0 d.1
    c.in_err-after.ensures.refuses)
