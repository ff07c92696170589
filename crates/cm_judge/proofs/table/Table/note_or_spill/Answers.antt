use Rattle.std.proofs.Common.{inr, refl}
use Rattle.cm_judge.specs.Summary.{no_cores}
use Rattle.cm_judge.proofs.Keeps.{Keep-elsewhere, Keep-here, Replaces-push}
use Rattle.cm_judge.proofs.table.Table.note_or_spill.Goals as goal

pub returns-clause-noted : goal.returns-clause-noted
returns-clause-noted c =
    let r = c.of_first.result in
    let first = c.of_first.ensures.first in
    let step = Replaces-push c.args.self.now c.args.spill.now.items r in
    rw (c.if-note_within.ensures.none refl, c.in-Ok.ensures.items)
    record {
      here = λ entries h. Keep-here _ _ r entries c.args.e.now c.args.line first.line_is step c.requires.covered
          first.small (no_cores, inr refl, first.own) (λ who kind judged apart. inr (first.others who kind apart)) h;
      elsewhere = λ entries other aligned apart h. Keep-elsewhere _ _ r entries other aligned step
          (rw first.line_is apart) h;
    }
