use Rattle.cm_ctx.proofs.Starting.{other_spare}
use Rattle.cm_ctx.proofs.context.Ctx.try_copy.Goals as goal

pub invariant_of-result : goal.invariant_of-result
invariant_of-result c =
    rw (
      c.in_ok-classes.ensures.equal,
      c.in_ok-try_copy.ensures,
      c.in_ok-from_slice.ensures.items,
      c.as_slice.ensures.value,
      c.in_ok-from_slice-2.ensures.items,
      c.as_slice-2.ensures.value,
      c.in_ok-share.ensures.value,
    )
    (other_spare c.self.inside.counts c.self.inside.classes c.self.inside.bounds c.self.inside.tags.items
    c.self.inside.options.items c.self.inside.asked c.in_ok-classes.classes.spare c.self.invariant)
