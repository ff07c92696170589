use Rattle.std.proofs.Common.{arith, take}
use Rattle.std.proofs.lemmas.List.{length-take}
use Rattle.cm_top.proofs.Files.{front_more}
use Rattle.cm_top.proofs.fetch.take_piece.Goals as goal

pub returns-in-Ok-feed-clause-reads : goal.returns-in-Ok-feed-clause-reads
returns-in-Ok-feed-clause-reads g c text size front has =
    let told = g.S.Shelf.held c.args.shelf.now c.args.name.now in
    let n = c.in-Ok.n in
    let buf = c.fetch.new.buf in (
      take n buf,
      omega (arith, length-take n buf, c.in-Ok.ensures.bound),
      front_more told text buf n c.args.from size
          c.in-Ok.ensures.bytes front,
      c.in-Ok-feed.ensures.reads text has,
    )
