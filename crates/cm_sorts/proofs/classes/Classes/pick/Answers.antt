use Rattle.cm_sorts.proofs.Valuations.{pick_same, pick_least}
use Rattle.cm_sorts.proofs.classes.Classes.pick.Goals as goal

pub returns-clause-same : goal.returns-clause-same
returns-clause-same c =
    let xs = rw (← c.self.view_is) at c.requires in
    rw (c.label_at.ensures.value, c.as_slice.ensures.value, ← c.self.view_is)
    (pick_same c.self.inside.variables.items c.self.inside.words.items c.args.x.0 xs)

pub returns-clause-least : goal.returns-clause-least
returns-clause-least c =
    let xs = rw (← c.self.view_is) at c.requires in
    rw (c.label_at.ensures.value, c.as_slice.ensures.value, ← c.self.view_is)
    (λ y. pick_least c.self.inside.variables.items c.self.inside.words.items c.self.invariant.proper c.args.x.0 y xs)
