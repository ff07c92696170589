use Rattle.std.proofs.Common.{arith, ◌+◌, length, ap, sym, subst, inl, inr}
use Rattle.cm_mtrace.specs.Reader.{StandsFor}
use Rattle.cm_mtrace.specs.Trace.{IsFirstBad}
use Rattle.cm_mtrace.proofs.Bad.{first_bad_open, good_trace, no_bytes, none_bad}
use Rattle.cm_mtrace.proofs.Streams.{is_empty, not_empty}
use Rattle.cm_mtrace.proofs.reader.Reader.finish.Goals as goal

pub returns-then-not-is_empty-clause-bad : goal.returns-then-not-is_empty-clause-bad
returns-then-not-is_empty-clause-bad c =
    rw c.fail.ensures.result
    (λ text stands.
    let s = subst (λ q. StandsFor q text) (sym c.self.view_is) stands in
    let some = not_empty _ c.self.inside.left.items c.self.inside.left.ok.0 c.if-not-is_empty.ensures in
    subst (λ n. IsFirstBad text (n + 1)) (sym s.lines) (first_bad_open text s.good
    (inl (omega (arith, some, ap length s.left)))))

pub returns-then-self-eq0-clause-bad : goal.returns-then-self-eq0-clause-bad
returns-then-self-eq0-clause-bad c =
    rw c.fail-then-self-eq0.ensures.result
    (λ text stands.
    let s = subst (λ q. StandsFor q text) (sym c.self.view_is) stands in
    let none = is_empty _ c.self.inside.left.items c.self.inside.left.ok.0 c.if-not-is_empty.ensures in
    subst (λ n. IsFirstBad text (n + 1)) (sym s.lines) (first_bad_open text s.good
    (inr (no_bytes text (omega (arith, s.lines, c.if-self-eq0.true)) (omega (arith, none, ap length s.left))))))

pub returns-clause-trace : goal.returns-clause-trace
returns-clause-trace c text items stands give =
    let s = subst (λ q. StandsFor q text) (sym c.self.view_is) stands in
    let none = is_empty _ c.self.inside.left.items c.self.inside.left.ok.0 c.if-not-is_empty.ensures in
    good_trace text items (none_bad text s.good (omega (arith, none, ap length s.left))
    (omega (arith, s.lines, c.if-self-eq0.false))) give

pub returns-clause-none_bad : goal.returns-clause-none_bad
returns-clause-none_bad c text stands =
    let s = subst (λ q. StandsFor q text) (sym c.self.view_is) stands in
    let none = is_empty _ c.self.inside.left.items c.self.inside.left.ok.0 c.if-not-is_empty.ensures in
    none_bad text s.good (omega (arith, none, ap length s.left)) (omega (arith, s.lines, c.if-self-eq0.false))
