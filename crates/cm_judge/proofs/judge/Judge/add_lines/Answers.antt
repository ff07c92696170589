use Rattle.cm_judge.specs.Judge.{KeepLine}
use Rattle.std.proofs.Common.{◌≡◌, ℕ, ◌%◌, ◌++◌, ◌∷◌, []}
use Rattle.cm_judge.proofs.Merges.{Keep-same}
use Rattle.cm_judge.proofs.judge.Judge.add_lines.Goals as goal

pub returns-clause-ok : goal.returns-clause-ok
returns-clause-ok c entries stands line aligned =
    let e = c.args.e.now in
    let before = c.self.inside in
    let roomy : (l : ℕ) → l % 64 ≡ 0 → KeepLine (c.make_room.new.self ++ before.spill.items) entries l =
    λ l is. Keep-same before.table c.make_room.new.self before.spill.items entries l is c.make_room.ensures.same
    (rw c.self.view_is (stands l is)) in
    let noted = c.note_lines.ensures entries (λ l is. rw c.in_ok-reserve.ensures.items (roomy l is)) line aligned in
    c.trim.ensures c.note_lines.new.table (entries ++ e ∷ []) line aligned noted
