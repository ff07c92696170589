use Rattle.cm_sorts.proofs.Valuations.{may_equal_exact}
use Rattle.cm_sorts.proofs.classes.Classes.may_equal.Goals as goal

pub returns : goal.returns
returns c =
    let xs = rw (← c.self.view_is) at c.requires.x in
    let ys = rw (← c.self.view_is) at c.requires.y in
    rw (
      c.are_marked.ensures,
      c.label_at-a.ensures.value,
      c.label_at-b.ensures.value,
      c.as_slice.ensures.value,
      c.as_slice-2.ensures.value,
      c.as_slice-3.ensures.value,
      ← c.self.view_is,
    )
    (may_equal_exact c.self.inside.variables.items c.self.inside.words.items c.self.invariant.proper
    c.args.x.0 c.args.y.0 xs ys)
