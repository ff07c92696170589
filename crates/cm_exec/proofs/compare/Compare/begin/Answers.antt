use Rattle.std.proofs.Common.{rules, ◌≡◌, drop, slice_get, Some, None, sym, ap, ◌∙◌}
use Rattle.cm_exec.specs.Settling.{Needs, needing, settling_from}
use Rattle.cm_exec.specs.Comparing.{asking}
use Rattle.cm_exec.specs.Pairing.{at_progress, settling}
use Rattle.cm_exec.specs.Asking.{asks_of}
use Rattle.cm_exec.proofs.Pairs.{begun, ended}
use Rattle.cm_exec.proofs.compare.Compare.begin.Goals as goal

pub returns-in_ok-self-in-Some-clause-turned : goal.returns-in_ok-self-in-Some-clause-turned
returns-in_ok-self-in-Some-clause-turned c = λ ps.
    let here : slice_get c.args.self.now.pairs c.args.self.now.at ≡ Some c.in-Some.sides.now = search (rules) in
    let shared : c.in_ok-sides-in-Some.sides ≡ c.in-Some.sides.now = c.in_ok-sides-in-Some.ensures.same in
    ap (λ p. at_progress ps p c.args.self.now.needed (drop c.args.self.now.at c.args.self.now.pairs)) c.requires.between
    ∙ begun ps c.args.self.now.needed c.args.self.now.pairs c.args.self.now.at c.in-Some.sides.now
    c.new-comparison.result here
    (c.new-comparison.ensures.asks ps ∙ ap (λ s. asks_of ps s.left s.right) shared)
    ∙ sym (ap (settling ps) c.set.ensures
    ∙ ap (λ n. needing c.args.self.now.needed (asking ps c.new-comparison.result)
    (λ fs. settling_from ps fs (drop n c.args.self.now.pairs))) c.in_ok-self-in-Some.ensures)

pub returns-in_ok-needed-in-None-clause-comes : goal.returns-in_ok-needed-in-None-clause-comes
returns-in_ok-needed-in-None-clause-comes c = λ ps.
    let none : slice_get c.args.self.now.pairs c.args.self.now.at ≡ None = search (rules) in
    let same : c.in_ok-needed-in-None.needed ≡ c.args.self.now.needed = search (rules) in
    ap (λ p. at_progress ps p c.args.self.now.needed (drop c.args.self.now.at c.args.self.now.pairs)) c.requires.between
    ∙ ended ps c.args.self.now.needed c.args.self.now.pairs c.args.self.now.at none
    ∙ sym (ap Needs same)
