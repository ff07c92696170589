use Rattle.std.proofs.Common.{subst, ap, ◌∙◌, inr}
use Rattle.std.specs.Io.KnownBytes.{Appends}
use Rattle.cm_top.specs.Output.{TakesFront, joined, judge_status}
use Rattle.cm_top.specs.inner.Pieces.{pieces_of}
use Rattle.cm_top.proofs.Judgements.{judged_part, judged_whole, lines_of_all}
use Rattle.cm_top.proofs.judge.judge_file.Goals as goal

pub returns-in-Ok-put_all-clause-judged : goal.returns-in-Ok-put_all-clause-judged
returns-in-Ok-put_all-clause-judged g c =
    let told = g.S.Shelf.held c.args.shelf.now c.args.file.now in
    let old = g.O.Sink.written c.args.out.now in
    let new = g.O.Sink.written c.put_all.new.out in
    let judged = c.in-Ok.judged.items in
    let taken = subst (λ j. Appends old new (joined (pieces_of j))) c.deref.ensures.value
    c.in-Ok-put_all.ensures.taken in
    judged_whole told old new judged c.status_for.result c.in-Ok.ensures.judged taken
    (c.status_for.ensures.value ∙ ap (λ j. judge_status (lines_of_all j)) c.deref-in-Ok-put_all.ensures.value)

pub returns-in-Err-WriteFault-clause-cut_short : goal.returns-in-Err-WriteFault-clause-cut_short
returns-in-Err-WriteFault-clause-cut_short g c is =
    let old = g.O.Sink.written c.args.out.now in
    let new = g.O.Sink.written c.put_all.new.out in
    judged_part (g.S.Shelf.held c.args.shelf.now c.args.file.now) old new c.in-Ok.judged.items c.in-Ok.ensures.judged
    (subst (λ j. TakesFront old new (pieces_of j)) c.deref.ensures.value c.in-Err-WriteFault.ensures.taken)

pub returns-clause-memory : goal.returns-clause-memory
returns-clause-memory g c is =
    let old = g.O.Sink.written c.args.out.now in
    let new = g.O.Sink.written c.put_all.new.out in
    inr (judged_part (g.S.Shelf.held c.args.shelf.now c.args.file.now) old new c.in-Ok.judged.items
    c.in-Ok.ensures.judged (subst
    (λ j. TakesFront old new (pieces_of j)) c.deref.ensures.value c.in-Err-Memory.ensures.taken))
