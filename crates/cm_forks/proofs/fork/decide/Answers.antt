-- An answered question keeps what remains.
use Rattle.std.proofs.Common.{◌≡◌, ◌+◌, ◌∷◌, [], ◌++◌, ℕ, List, arith, Some, OnOk}
use Rattle.cm_forks.specs.Paths.{Path}
use Rattle.cm_forks.specs.inner.Stack.{Fork, Ready, Same, Remains, Kept}
use Rattle.cm_forks.specs.inner.View.{fork, forks}
use Rattle.cm_forks.proofs.Forks.{ok_map, ok_both, only, decided, followed_to, outcome_there}
use Rattle.cm_forks.proofs.fork.decide.Given.{Over}
use Rattle.cm_forks.proofs.fork.decide.Goals.{After-follow, After-branch-node}
use Rattle.cm_forks.proofs.fork.decide.Goals as goal

-- ready, and the same paths remain
abbrev goes : (P : Path → Type 0) → Path → List Fork → Path → List Fork → ℕ → Type 0
goes P front ks front' new added =
    Ready P (Some front') new added × Same P (Remains (Some front) ks) (Remains (Some front') new)

pub unreachable-requires : goal.unreachable-requires
unreachable-requires g c =
    let node = g.N.Node in
    outcome_there (node.has_path (node.about c.args.node.now)) _ (node.prefix c.args.node.now)
    c.outcomes-mask.result.0 c.args.added.now c.requires.ready c.requires.goes_on c.outcomes-mask.ensures.covers
    (λ x has. c.in-None.ensures.none x (omega arith) has)

pub follow-requires-clause-alone : goal.follow-requires-clause-alone
follow-requires-clause-alone g c = λ x begins.
    only c.outcomes-mask.result.0 c.in-Some.outcome c.in-Some.ensures.found.2 c.in-None-least.ensures.none x
    ((c.outcomes-mask.ensures.covers x).1 begins)

pub branch-node-requires-clause-several : goal.branch-node-requires-clause-several
branch-node-requires-clause-several g c =
    let next = c.in-Some-least.field-0 in
    let above = c.in-Some-least.ensures.found.0 in (
      next,
      (λ same. omega (arith, above, same)),
      (c.outcomes-mask.ensures.covers next).0 c.in-Some-least.ensures.found.1,
    )

one : (g : Over) (c : After-follow g) → OnOk c.follow.result (goes
    (g.N.Node.has_path (g.N.Node.about c.args.node.now))
    (g.N.Node.prefix c.args.node.now) (forks g.N.Node.prefix c.args.stack.now.items)
    (g.N.Node.prefix c.follow.new.self) (forks g.N.Node.prefix c.args.stack.now.items) c.args.added.now)
one g c =
    let node = g.N.Node in
    let d = c.in-Some.outcome in
    ok_map c.follow.result _ _ (λ (is : node.prefix c.follow.new.self ≡ node.prefix c.args.node.now ++ d ∷ []).
    followed_to (node.has_path (node.about c.args.node.now)) (forks node.prefix c.args.stack.now.items)
    (node.prefix c.args.node.now) (node.prefix c.follow.new.self) c.outcomes-mask.result.0 d c.args.added.now
    c.requires.ready c.requires.goes_on c.outcomes-mask.ensures.covers c.in-Some.ensures.found.1
    (only c.outcomes-mask.result.0 d c.in-Some.ensures.found.2 c.in-None-least.ensures.none) is)
    c.follow.ensures.prefix

several : (g : Over) (c : After-branch-node g) → OnOk c.branch-node.result (goes
    (g.N.Node.has_path (g.N.Node.about c.args.node.now))
    (g.N.Node.prefix c.args.node.now) (forks g.N.Node.prefix c.args.stack.now.items)
    (g.N.Node.prefix c.branch-node.new.node) (forks g.N.Node.prefix c.branch-node.new.stack.items)
    c.branch-node.new.added)
several g c =
    let node = g.N.Node in
    let d = c.in-Some.outcome in
    let mask = c.outcomes-mask.result.0 in
    let ks = forks node.prefix c.args.stack.now.items in
    let new = forks node.prefix c.branch-node.new.stack.items in
    let Kept_now : Type 0 = Kept (fork (node.prefix c.args.node.now) mask d) ks new in
    let Is_prefix : Type 0 = node.prefix c.branch-node.new.node ≡ node.prefix c.args.node.now ++ d ∷ [] in
    let Is_added : Type 0 = c.branch-node.new.added ≡ c.args.added.now + 1 in
    ok_map c.branch-node.result (Kept_now × (Is_prefix × Is_added)) _ (λ (h : Kept_now × (Is_prefix × Is_added)).
    decided (node.has_path (node.about c.args.node.now)) ks new (node.prefix c.args.node.now)
    (node.prefix c.branch-node.new.node) mask d c.in-Some-least.field-0 c.args.added.now c.branch-node.new.added
    c.requires.ready c.requires.goes_on c.outcomes-mask.ensures.covers c.in-Some.ensures.found.1
    (λ x has. c.in-Some.ensures.found.2 x (omega arith) has) c.in-Some-least.ensures.found.1
    (omega (arith, c.in-Some-least.ensures.found.0)) h.0 h.1.0 h.1.1)
    (ok_both c.branch-node.result Kept_now (Is_prefix × Is_added) c.branch-node.ensures.kept
    (ok_both c.branch-node.result Is_prefix Is_added c.branch-node.ensures.prefix c.branch-node.ensures.added))

pub returns-in-None-least-clause-ready : goal.returns-in-None-least-clause-ready
returns-in-None-least-clause-ready g c = ok_map c.follow.result _ _ (λ h. h.0) (one g c)

pub returns-in-None-least-clause-same : goal.returns-in-None-least-clause-same
returns-in-None-least-clause-same g c = ok_map c.follow.result _ _ (λ h. h.1) (one g c)

pub returns-in-Some-least-clause-ready : goal.returns-in-Some-least-clause-ready
returns-in-Some-least-clause-ready g c = ok_map c.branch-node.result _ _ (λ h. h.0) (several g c)

pub returns-in-Some-least-clause-same : goal.returns-in-Some-least-clause-same
returns-in-Some-least-clause-same g c = ok_map c.branch-node.result _ _ (λ h. h.1) (several g c)
