use Rattle.std.proofs.Common.{◌++◌, sym, subst}
use Rattle.cm_mtrace.specs.Reader.{GaveEarlier, Progress, StandsFor}
use Rattle.cm_mtrace.proofs.Streams.{earlier_told, first_told, given_on, seen_told, stands_on, valid_items}
use Rattle.cm_mtrace.proofs.reader.Reader.feed.Goals as goal

pub returns-in-Ok-clause-stands : goal.returns-in-Ok-clause-stands
returns-in-Ok-clause-stands c text stands =
    let i = c.self.inside in
    let p : Progress = record { lines = i.lines; left = i.left.items; fault = i.fault } in
    let s = subst (λ q. StandsFor q text) (sym c.self.view_is) stands in
    let on = stands_on p c.args.piece.now c.args.to.now.items c.read_piece.new.to.items c.in-Ok.lines
    c.read_piece.new.left.items c.in-Ok.ensures.reaches text s in
    subst (λ f. StandsFor (record { lines = c.in-Ok.lines; left = c.read_piece.new.left.items; fault = f })
    (text ++ c.args.piece.now)) (sym s.fault) on

pub returns-in-Ok-clause-given : goal.returns-in-Ok-clause-given
returns-in-Ok-clause-given c =
    let i = c.self.inside in
    let p : Progress = record { lines = i.lines; left = i.left.items; fault = i.fault } in
    let r = c.in-Ok.ensures.reaches in
    let g = r.0.1.given in (
      g.0,
      g.1,
      valid_items i.lines r.0.0 g.0 g.2,
      λ text items stands give.
          given_on p c.args.piece.now c.args.to.now.items c.read_piece.new.to.items c.in-Ok.lines
          c.read_piece.new.left.items r text items (subst (λ q. StandsFor q text) (sym c.self.view_is) stands) give,
    )

pub returns-in-Err-clause-first : goal.returns-in-Err-clause-first
returns-in-Err-clause-first c =
    let i = c.self.inside in
    let p : Progress = record { lines = i.lines; left = i.left.items; fault = i.fault } in
    rw c.fail.ensures.result
    (λ text stands. first_told p c.args.piece.now c.args.to.now.items c.read_piece.new.to.items c.in-Err.fault
    c.in-Err.ensures.stops text (subst (λ q. StandsFor q text) (sym c.self.view_is) stands))

pub returns-in-Err-clause-seen : goal.returns-in-Err-clause-seen
returns-in-Err-clause-seen c =
    let i = c.self.inside in
    let p : Progress = record { lines = i.lines; left = i.left.items; fault = i.fault } in
    rw c.fail.ensures.result
    (λ text stands. seen_told p c.args.piece.now c.args.to.now.items c.read_piece.new.to.items c.in-Err.fault
    c.in-Err.ensures.stops text (subst (λ q. StandsFor q text) (sym c.self.view_is) stands))

pub returns-in-Err-clause-earlier : goal.returns-in-Err-clause-earlier
returns-in-Err-clause-earlier c =
    let i = c.self.inside in
    let p : Progress = record { lines = i.lines; left = i.left.items; fault = i.fault } in
    let told = earlier_told p c.args.piece.now c.args.to.now.items c.read_piece.new.to.items c.in-Err.fault
    c.in-Err.ensures.stops in
    rw c.fail.ensures.result (subst (λ q. GaveEarlier q c.args.piece.now c.args.to.now.items
    c.read_piece.new.to.items c.in-Err.fault) c.self.view_is told)
