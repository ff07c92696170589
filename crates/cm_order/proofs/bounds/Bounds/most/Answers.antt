use Rattle.std.proofs.Common.{◌≡◌, ◌∙◌, FitsSigned, of_z, to_z, w32, w64, arith, rules}
use Rattle.std.proofs.lemmas.Int.{to_z-of_z}
use Rattle.cm_order.proofs.Closing.{entry_high, entry_low}
use Rattle.cm_order.proofs.Places.{place_in}
use Rattle.cm_order.proofs.Valuations.{count_of_rows, most_at, rows_closed}
use Rattle.cm_order.specs.inner.Shells.{entry}
use Rattle.cm_order.proofs.bounds.Bounds.most.Goals as goal
use Rattle.cm_order.proofs.bounds.Bounds.most.Goals.{After-from}

pub entry-requires-clause-x : goal.entry-requires-clause-x
entry-requires-clause-x c =
    let n = c.self.inside.count in
    let xn = rw (← c.self.view_is, count_of_rows n c.self.inside.entries.items) at c.requires.x in
    omega (arith, c.self.invariant.few)

pub entry-requires-clause-y : goal.entry-requires-clause-y
entry-requires-clause-y c =
    let n = c.self.inside.count in
    let yn = rw (← c.self.view_is, count_of_rows n c.self.inside.entries.items) at c.requires.y in
    omega (arith, c.self.invariant.few)

pub entry-requires-clause-within : goal.entry-requires-clause-within
entry-requires-clause-within c =
    let n = c.self.inside.count in
    let xn = rw (← c.self.view_is, count_of_rows n c.self.inside.entries.items) at c.requires.x in
    let yn = rw (← c.self.view_is, count_of_rows n c.self.inside.entries.items) at c.requires.y in
    rw c.as_slice.ensures.value (place_in n c.args.x.0 c.args.y.0 c.self.inside.entries.items xn yn
    c.self.invariant.long)

-- what the calls make of the entry
result_is : (c : After-from) → to_z w64 (of_z w64 c.from.result) ≡ entry c.self.inside.entries.items
    c.args.x.0 c.args.y.0
result_is c =
    let narrow : FitsSigned w32 c.entry.result = search rules in
    let wide : FitsSigned w64 c.from.result = search rules in
    to_z-of_z w64 c.from.result wide ∙ c.from.ensures ∙ to_z-of_z w32 c.entry.result narrow
    ∙ rw c.as_slice.ensures.value at c.entry.ensures

pub returns-clause-value : goal.returns-clause-value
returns-clause-value c =
    let xs = rw (← c.self.view_is) at c.requires.x in
    let ys = rw (← c.self.view_is) at c.requires.y in
    rw (result_is c, ← c.self.view_is) (most_at c.self.inside.count c.self.inside.entries.items c.args.x.0
    c.args.y.0 xs ys)

pub returns-clause-low : goal.returns-clause-low
returns-clause-low c =
    let n = c.self.inside.count in
    let xn = rw (← c.self.view_is, count_of_rows n c.self.inside.entries.items) at c.requires.x in
    let yn = rw (← c.self.view_is, count_of_rows n c.self.inside.entries.items) at c.requires.y in
    rw (result_is c) (entry_low n (entry c.self.inside.entries.items) c.self.invariant.closed c.self.invariant.some
    c.args.x.0 c.args.y.0 xn yn)

pub returns-clause-high : goal.returns-clause-high
returns-clause-high c =
    let n = c.self.inside.count in
    let xn = rw (← c.self.view_is, count_of_rows n c.self.inside.entries.items) at c.requires.x in
    let yn = rw (← c.self.view_is, count_of_rows n c.self.inside.entries.items) at c.requires.y in
    rw (result_is c) (entry_high n (entry c.self.inside.entries.items) c.self.invariant.closed c.self.invariant.some
    c.args.x.0 c.args.y.0 xn yn)

pub returns-clause-closed : goal.returns-clause-closed
returns-clause-closed c = rw (← c.self.view_is) (rows_closed c.self.inside.count c.self.inside.entries.items
    c.self.invariant)
