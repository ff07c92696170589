use Rattle.std.proofs.Common.{◌∙◌, ap, length, FitsSigned, w32, w64, arith}
use Rattle.std.proofs.lemmas.Int.{ints, to_z-of_z}
use Rattle.std.proofs.lemmas.List.{with_items_is}
use Rattle.std.specs.Vec.{with_items}
use Rattle.cm_order.proofs.Closing.{fits_between}
use Rattle.cm_order.proofs.Valuations.{count_of_rows, edge_keeps, edge_proper, satisfiable}
use Rattle.cm_order.proofs.bounds.Bounds.add_edge.Goals as goal

pub add_edge-requires-clause-x : goal.add_edge-requires-clause-x
add_edge-requires-clause-x c = rw (← c.self.view_is, count_of_rows c.self.inside.count c.self.inside.entries.items)
    at c.requires.x

pub add_edge-requires-clause-y : goal.add_edge-requires-clause-y
add_edge-requires-clause-y c = rw (← c.self.view_is, count_of_rows c.self.inside.count c.self.inside.entries.items)
    at c.requires.y

pub invariant_of-self : goal.invariant_of-self
invariant_of-self c =
    let xs = rw (← c.self.view_is) at c.requires.x in
    let ys = rw (← c.self.view_is) at c.requires.y in
    let may = rw (← c.self.view_is) at c.requires.may in
    let narrow : FitsSigned w32 c.args.most = fits_between c.args.most (omega (arith, ints)) (omega (arith, ints)) in
    let edges = rw (
      c.deref_mut.ensures.value,
      to_z-of_z w64 c.args.most c.ranges.most,
      to_z-of_z w32 c.args.most narrow,
    ) at c.add_edge.ensures in
    rw (with_items_is c.self.inside.entries c.add_edge.new.entries (c.add_edge.auto.entries ∙ c.deref_mut.ensures.len))
    (edge_proper c.self.inside.count c.self.inside.entries.items c.add_edge.new.entries c.self.invariant
    (c.add_edge.auto.entries ∙ ap length c.deref_mut.ensures.value) c.args.x.0 c.args.y.0 c.args.most
    xs ys may edges)

pub returns-clause-kept : goal.returns-clause-kept
returns-clause-kept c =
    let xs = rw (← c.self.view_is) at c.requires.x in
    let ys = rw (← c.self.view_is) at c.requires.y in
    let narrow : FitsSigned w32 c.args.most = fits_between c.args.most (omega (arith, ints)) (omega (arith, ints)) in
    let edges = rw (
      c.deref_mut.ensures.value,
      to_z-of_z w64 c.args.most c.ranges.most,
      to_z-of_z w32 c.args.most narrow,
    ) at c.add_edge.ensures in
    rw (
      ← c.self.view_is,
      with_items_is c.self.inside.entries c.add_edge.new.entries (c.add_edge.auto.entries
          ∙ c.deref_mut.ensures.len),
    )
    (edge_keeps c.self.inside.count c.self.inside.entries.items c.add_edge.new.entries c.self.invariant
    c.args.x.0 c.args.y.0 c.args.most xs ys edges)

pub returns-clause-satisfiable : goal.returns-clause-satisfiable
returns-clause-satisfiable c = satisfiable c.self.inside.count (with_items c.self.inside.entries
    c.add_edge.new.entries).items (invariant_of-self c)
