use Rattle.std.proofs.Common.{◌≡◌, subst}
use Rattle.cm_top.specs.Judging.{IsRefusedAt}
use Rattle.cm_top.proofs.Files.{of_file}
use Rattle.cm_top.proofs.Judgements.{refused_at}
use Rattle.cm_top.proofs.judge.judged_file.Goals as goal

pub returns-in-Err-BadLine-clause-refused : goal.returns-in-Err-BadLine-clause-refused
returns-in-Err-BadLine-clause-refused g c line is =
    let told = g.S.Shelf.held c.args.shelf.now c.args.file.now in
    let same : c.in-Err-BadLine.line ≡ line = cc in
    let read = c.in-Ok.ensures.read in
    let bad = rw c.in-Err-BadLine.field-0-is at c.in-Err-BadLine.ensures.bad in
    of_file told (IsRefusedAt line) read.0 read.2
    (subst (λ l. IsRefusedAt l read.0) same (refused_at c.in-Err-BadLine.line read.0 read.1 (bad read.0 read.3)))
