use Rattle.std.proofs.Common.{◌+ℤ◌, ◌-ℤ◌, ◌≡◌, ◌∙◌, refl, FitsSigned, w32, rules, arith}
use Rattle.std.proofs.lemmas.Int.{to_z-of_z}
use Rattle.cm_order.specs.inner.Shells.{entry}
use Rattle.cm_order.proofs.Filling.{above_fits, below_fits, filled_all, filled_more}
use Rattle.cm_order.proofs.Places.{place_in}
use Rattle.cm_order.proofs.shells.fill_shell.Goals as goal

pub entry-requires-clause-within : goal.entry-requires-clause-within
entry-requires-clause-within c =
    place_in c.args.count 0 c.cells.k c.cells.entries c.requires.proper.some c.cells-test.true
    (omega (arith, c.requires.proper.long, c.cells.auto.entries))

pub overflow_add-above : goal.overflow_add-above
overflow_add-above c =
    let result : FitsSigned w32 c.entry.result = search rules in
    rw (
      to_z-of_z w32 c.args.hi c.ranges.hi,
      to_z-of_z w32 c.entry.result result,
      c.entry.ensures,
      c.cells.invariant.same 0 c.cells.k c.requires.proper.some c.cells-test.true,
    )
    (above_fits c.args.count c.cells.k (entry c.args.entries.now) c.args.lo c.args.hi c.requires.proper.closed
    c.cells-test.true c.requires.low c.requires.order c.requires.high)

pub entry-requires-in-cells-clause-within : goal.entry-requires-in-cells-clause-within
entry-requires-in-cells-clause-within c =
    place_in c.args.count c.cells.k 0 c.cells.entries c.cells-test.true c.requires.proper.some
    (omega (arith, c.requires.proper.long, c.cells.auto.entries))

pub overflow_sub-below : goal.overflow_sub-below
overflow_sub-below c =
    let result : FitsSigned w32 c.entry-in-cells.result = search rules in
    rw (
      to_z-of_z w32 c.args.lo c.ranges.lo,
      to_z-of_z w32 c.entry-in-cells.result result,
      c.entry-in-cells.ensures,
      c.cells.invariant.same c.cells.k 0 c.cells-test.true c.requires.proper.some,
    )
    (below_fits c.args.count c.cells.k (entry c.args.entries.now) c.args.lo c.args.hi c.requires.proper.closed
    c.cells-test.true c.requires.low c.requires.order c.requires.high)

pub cells-preserved : goal.cells-preserved
cells-preserved c =
    let n = c.args.count in
    let k = c.cells.k in
    let d = entry c.args.entries.now in
    let first : FitsSigned w32 c.entry.result = search rules in
    let second : FitsSigned w32 c.entry-in-cells.result = search rules in
    let first_is = c.entry.ensures ∙ c.cells.invariant.same 0 k c.requires.proper.some c.cells-test.true in
    let second_is = c.entry-in-cells.ensures ∙ c.cells.invariant.same k 0 c.cells-test.true c.requires.proper.some in
    let above = above_fits n k d c.args.lo c.args.hi c.requires.proper.closed c.cells-test.true c.requires.low
    c.requires.order c.requires.high in
    let below = below_fits n k d c.args.lo c.args.hi c.requires.proper.closed c.cells-test.true c.requires.low
    c.requires.order c.requires.high in
    let filled = rw (to_z-of_z w32 c.args.lo c.ranges.lo, to_z-of_z w32 c.args.hi c.ranges.hi) at c.cells.invariant in
    rw (
      to_z-of_z w32 c.args.hi c.ranges.hi,
      to_z-of_z w32 c.args.lo c.ranges.lo,
      to_z-of_z w32 c.entry.result first,
      to_z-of_z w32 c.entry-in-cells.result second,
      first_is,
      second_is,
      to_z-of_z w32 (c.args.hi +ℤ d 0 k) above,
      to_z-of_z w32 (d k 0 -ℤ c.args.lo) below,
    )
    (filled_more n k c.args.entries.now c.cells.entries c.args.lo c.args.hi (c.args.hi +ℤ d 0 k) (d k 0 -ℤ c.args.lo)
    c.cells-test.true (omega (arith, c.requires.proper.long, c.cells.auto.entries)) filled refl refl)

pub returns : goal.returns
returns c =
    let all : c.cells.k ≡ c.args.count = omega arith in
    filled_all c.args.count c.args.entries.now c.cells.entries c.args.lo c.args.hi
    (omega (arith, c.requires.proper.long, c.cells.auto.entries))
    (rw (to_z-of_z w32 c.args.lo c.ranges.lo, to_z-of_z w32 c.args.hi c.ranges.hi, all) at c.cells.invariant)
