use Rattle.std.proofs.Common.{◌+◌, ◌∙◌, ap, sym, length, FitsSigned, w32, w64, arith}
use Rattle.std.proofs.lemmas.Int.{ints, to_z-of_z}
use Rattle.std.proofs.lemmas.List.{with_items_is}
use Rattle.std.specs.Vec.{with_items}
use Rattle.cm_order.proofs.Closing.{fits_between}
use Rattle.cm_order.proofs.Extending.{fresh_keeps, fresh_proper, same_shell}
use Rattle.cm_order.proofs.Valuations.{count_of_rows, satisfiable}
use Rattle.cm_order.proofs.bounds.Bounds.fresh.Goals as goal

pub invariant_of-self-2 : goal.invariant_of-self-2
invariant_of-self-2 c =
    let n = c.self.inside.count in
    let low : FitsSigned w32 c.args.lo = fits_between c.args.lo (omega (arith, ints)) (omega (arith, ints)) in
    let high : FitsSigned w32 c.args.hi = fits_between c.args.hi (omega (arith, ints)) (omega (arith, ints)) in
    let written = rw (
      c.deref_mut.ensures.value,
      to_z-of_z w64 c.args.lo c.ranges.lo,
      to_z-of_z w64 c.args.hi c.ranges.hi,
      to_z-of_z w32 c.args.lo low,
      to_z-of_z w32 c.args.hi high,
    )
    at c.fill_shell.ensures in
    let shell = same_shell n c.append_zeros.new.entries.items c.self.inside.entries.items c.fill_shell.new.entries
    c.args.lo c.args.hi c.append_zeros.ensures.kept written in
    let long = c.fill_shell.auto.entries ∙ ap length c.deref_mut.ensures.value in
    rw (with_items_is c.append_zeros.new.entries c.fill_shell.new.entries (c.fill_shell.auto.entries
    ∙ c.deref_mut.ensures.len))
    (fresh_proper n c.self.inside.entries.items c.fill_shell.new.entries c.args.lo c.args.hi c.self.invariant
    (omega arith) (sym (long ∙ c.in_ok-append_zeros.ensures.long)) c.requires.low c.requires.order
    c.requires.high shell)

pub returns-clause-number : goal.returns-clause-number
returns-clause-number c = sym (count_of_rows c.self.inside.count c.self.inside.entries.items) ∙ ap length c.self.view_is

pub returns-clause-count : goal.returns-clause-count
returns-clause-count c = rw (← c.self.view_is) (count_of_rows (c.self.inside.count + 1) _
    ∙ ap (λ n. n + 1) (sym (count_of_rows c.self.inside.count c.self.inside.entries.items)))

pub returns-clause-kept : goal.returns-clause-kept
returns-clause-kept c =
    let n = c.self.inside.count in
    let low : FitsSigned w32 c.args.lo = fits_between c.args.lo (omega (arith, ints)) (omega (arith, ints)) in
    let high : FitsSigned w32 c.args.hi = fits_between c.args.hi (omega (arith, ints)) (omega (arith, ints)) in
    let written = rw (
      c.deref_mut.ensures.value,
      to_z-of_z w64 c.args.lo c.ranges.lo,
      to_z-of_z w64 c.args.hi c.ranges.hi,
      to_z-of_z w32 c.args.lo low,
      to_z-of_z w32 c.args.hi high,
    )
    at c.fill_shell.ensures in
    let shell = same_shell n c.append_zeros.new.entries.items c.self.inside.entries.items c.fill_shell.new.entries
    c.args.lo c.args.hi c.append_zeros.ensures.kept written in
    rw (
      ← c.self.view_is,
      count_of_rows n c.self.inside.entries.items,
      with_items_is c.append_zeros.new.entries c.fill_shell.new.entries (c.fill_shell.auto.entries
          ∙ c.deref_mut.ensures.len),
    )
    (fresh_keeps n c.self.inside.entries.items c.fill_shell.new.entries c.args.lo c.args.hi c.self.invariant shell)

pub returns-clause-satisfiable : goal.returns-clause-satisfiable
returns-clause-satisfiable c = satisfiable (c.self.inside.count + 1) (with_items c.append_zeros.new.entries
    c.fill_shell.new.entries).items (invariant_of-self-2 c)
