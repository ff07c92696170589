use Rattle.std.proofs.Common.{◌≡◌, ◌≤◌, ◌<◌, ◌*◌, length, ap, arith}
use Rattle.std.proofs.lemmas.Result.{on_ok_weaker, on_err_weaker}
use Rattle.cm_sorts.specs.Partition.{Partition}
use Rattle.cm_sorts.specs.inner.Pairs.{pairs_below}
use Rattle.cm_sorts.specs.inner.Words.{labels_of, sorts_of}
use Rattle.cm_sorts.proofs.Joining.{roomy, unroomy, same_proper}
use Rattle.cm_sorts.proofs.Sorting.{same_sorted}
use Rattle.cm_sorts.proofs.classes.Classes.reserve.Goals as goal

pub invariant_of-self : goal.invariant_of-self
invariant_of-self c =
    let vs = c.self.inside.variables.items in
    let words = c.self.inside.words.items in
    let new = c.make_room.new.words.items in
    record {
      proper = same_proper (labels_of vs) words new c.make_room.ensures.kept c.self.invariant.proper;
      sorted = same_sorted (sorts_of vs) (labels_of vs) words new c.make_room.ensures.kept c.self.invariant.sorted;
    }

pub returns-clause-room : goal.returns-clause-room
returns-clause-room c =
    let long : c.len.result ≡ length c.self.inside.variables.items = omega arith in
    on_ok_weaker c.make_room.result
    (λ (room : pairs_below c.len.result ≤ 64 * length c.make_room.new.words.items). rw (← c.self.view_is)
    (roomy c.self.inside.variables.items c.self.inside.words.items c.make_room.new.words.items
    c.make_room.ensures.kept (rw (ap pairs_below long) at room)))
    c.make_room.ensures.room

pub returns-clause-unchanged : goal.returns-clause-unchanged
returns-clause-unchanged c =
    let long : c.len.result ≡ length c.self.inside.variables.items = omega arith in
    let longer : length c.self.inside.words.items ≤ length c.make_room.new.words.items = c.make_room.ensures.longer in
    on_err_weaker c.make_room.result
    (λ (short : 64 * length c.make_room.new.words.items < pairs_below c.len.result). rw (← c.self.view_is)
    (let new_short = rw (ap pairs_below long) at short in
    unroomy c.self.inside.variables.items c.self.inside.words.items c.make_room.new.words.items
    c.make_room.ensures.kept (omega arith) new_short))
    c.make_room.ensures.short

pub returns-clause-sorts : goal.returns-clause-sorts
returns-clause-sorts c = ap (λ (p : Partition). p.sorts) c.self.view_is
