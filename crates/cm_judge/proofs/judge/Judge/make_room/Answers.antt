use Rattle.cm_judge.proofs.Merges.{Keep-same}
use Rattle.cm_judge.proofs.judge.Judge.make_room.Goals as goal

pub returns : goal.returns
returns c = record {
  stands = λ entries s line aligned.
      let before = c.self.inside in
      Keep-same before.table c.make_room_ahead.new.self before.spill.items entries line aligned
      c.make_room_ahead.ensures
      (rw c.self.view_is (s line aligned));
}
