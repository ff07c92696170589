use Rattle.std.proofs.Common.{◌++◌, subst}
use Rattle.std.proofs.lemmas.Result.{err_from_is_err_and}
use Rattle.cm_mtrace.specs.inner.Reading.{IsTooLong}
use Rattle.cm_mtrace.proofs.Pieces.{stops_long}
use Rattle.cm_mtrace.proofs.piece.read_on.Goals as goal

pub returns-in_err-keep-clause-stops : goal.returns-in_err-keep-clause-stops
returns-in_err-keep-clause-stops c =
    let p = err_from_is_err_and c.from_residual-in_err-keep.result c.from_residual-in_err-keep.ensures.1 in
    let e = c.in_ok-lines in
    let f = c.in_err-keep.field-0.0 in
    rw (p.1, p.2) (stops_long c.args.before c.args.text.now e.rest.now c.args.to.now.items c.read_lines.new.to.items
    e.lines f e.ensures.ends (subst (λ l. IsTooLong e.lines (l ++ e.rest.now) f) c.requires.empty
    c.in_err-keep.ensures.long))
