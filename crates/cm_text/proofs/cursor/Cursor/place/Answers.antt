use Rattle.std.proofs.Common.{arith, ◌+◌, ◌-◌}
use Rattle.cm_text.proofs.Places.{place_bounds, place_of}
use Rattle.cm_text.proofs.cursor.Cursor.place.Goals as goal

pub overflow_sub-result : goal.overflow_sub-result
overflow_sub-result c = omega (
  arith,
  (place_bounds c.self.inside.bytes.now c.self.inside.at).1,
  c.self.invariant.the_col,
)

pub returns : goal.returns
returns c =
    rw (← c.self.view_is)
    (place_of c.self.inside.bytes.now c.self.inside.at c.self.inside.line (c.self.inside.at - c.self.inside.before + 1)
    c.self.invariant.the_line
    (omega (arith, (place_bounds c.self.inside.bytes.now c.self.inside.at).1, c.self.invariant.the_col)))
