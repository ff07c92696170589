use Rattle.std.proofs.Common.{arith, ◌≢◌, ◌∙◌, get_or}
use Rattle.cm_text.proofs.Places.{kept_newline, kept_other, place_bounds, read_at}
use Rattle.cm_text.proofs.cursor.Cursor.next.Goals as goal

pub overflow_add-self-then-byte-eq10 : goal.overflow_add-self-then-byte-eq10
overflow_add-self-then-byte-eq10 c =
    omega (
      arith,
      (place_bounds c.self.inside.bytes.now c.self.inside.at).2,
      c.self.invariant.the_line,
      (read_at c.self.inside.bytes.now c.self.inside.at c.in-Some.byte c.args.self.now c.self.view_is
          c.in-Some.ensures).0,
      c.self.invariant.short,
    )

pub invariant_of-self : goal.invariant_of-self
invariant_of-self c =
    let read = read_at c.self.inside.bytes.now c.self.inside.at c.in-Some.byte c.args.self.now c.self.view_is
    c.in-Some.ensures in
    kept_newline c.self.inside.bytes.now c.self.inside.at c.self.inside.line c.self.inside.before c.self.invariant
    read.0 (read.1 ∙ c.if-byte-eq10.true)

pub invariant_of-self-else-byte-eq10 : goal.invariant_of-self-else-byte-eq10
invariant_of-self-else-byte-eq10 c =
    let read = read_at c.self.inside.bytes.now c.self.inside.at c.in-Some.byte c.args.self.now c.self.view_is
    c.in-Some.ensures in
    let other : get_or c.self.inside.bytes.now c.self.inside.at 0 ≢ 10 = omega (arith, read.1, c.if-byte-eq10.false) in
    kept_other c.self.inside.bytes.now c.self.inside.at c.self.inside.line c.self.inside.before c.self.invariant
    read.0 other
