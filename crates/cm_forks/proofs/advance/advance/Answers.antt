-- A leaf is given, or nothing is left.
use Rattle.std.proofs.Common.{arith, Some, option_map}
use Rattle.std.proofs.lemmas.Bool.Decides.{nat_tests}
use Rattle.cm_forks.specs.Paths.{Path, IsNext, IsPast, Ends}
use Rattle.cm_forks.specs.Counts.{AtLeast, IsOpen}
use Rattle.cm_forks.specs.inner.Stack.{Ready, Same, Remains}
use Rattle.cm_forks.specs.inner.Sound.{Fine}
use Rattle.cm_forks.specs.inner.View.{forks, path_in}
use Rattle.cm_forks.proofs.Forks.{open_now}
use Rattle.cm_forks.proofs.Told.{open_here, right_of, too_many_here, leaf_next, leaf_sane}
use Rattle.cm_forks.proofs.Told.{all_fine, all_given, over_here}
use Rattle.cm_forks.proofs.advance.advance.Given.{Over}
use Rattle.cm_forks.proofs.advance.advance.Goals.{In-Ok-Some, In-Ok-None}
use Rattle.cm_forks.proofs.advance.advance.Goals as goal

pub returns-in-Err-clause-right : goal.returns-in-Err-clause-right
returns-in-Err-clause-right g c =
    let P = g.N.Node.has_path c.args.subject in
    let F = Fine (g.N.Node.shown c.args.subject) c.args.limits.decisions in
    let h = rw c.take-taken.ensures.value at c.in-Err.ensures.right in
    right_of _ _ _ _ (λ w. too_many_here P F _ _ _ c.args.given.now c.args.added.now c.args.limits.paths
    c.requires.sane (let e = w.0 in grind (arith, nat_tests)) w.1 w.2 w.3) c.in-Err.fault h

-- what the leaf's node is
module _ (g : Over) (c : In-Ok-Some g) where
  abbrev P : Path → Type 0
  P = g.N.Node.has_path c.args.subject

  abbrev F : Path → Type 0
  F = Fine (g.N.Node.shown c.args.subject) c.args.limits.decisions

  abbrev leaf : Path
  leaf = g.N.Node.prefix c.in-Ok-Some.leaf

  ready_leaf : Ready P (Some leaf) (forks g.N.Node.prefix c.next_leaf.new.stack.items) c.next_leaf.new.added
  ready_leaf = rw c.in-Ok-Some.field-0-is at c.in-Ok-Some.ensures.ready

  same_leaf : Same P
      (Remains (option_map g.N.Node.prefix c.args.hand.now) (forks g.N.Node.prefix c.args.stack.now.items))
      (Remains (Some leaf) (forks g.N.Node.prefix c.next_leaf.new.stack.items))
  same_leaf = rw (c.in-Ok-Some.field-0-is, c.take-taken.ensures.value) at c.in-Ok-Some.ensures.same

  ends_leaf : Ends P leaf
  ends_leaf = rw c.in-Ok-Some.field-0-is at c.in-Ok-Some.ensures.ends

  fine_leaf : F leaf
  fine_leaf = rw c.in-Ok-Some.field-0-is at c.in-Ok-Some.ensures.fine

  next_here : IsNext P (path_in c.args.last.now) leaf
  next_here = leaf_next P F _ _ _ _ c.args.given.now c.args.added.now c.next_leaf.new.added c.args.limits.paths _
      c.requires.sane ready_leaf same_leaf ends_leaf

  open_leaf : AtLeast (IsOpen P) c.next_leaf.new.added
  open_leaf = open_now P _ _ _ ready_leaf

pub returns-in_err-remember-in-Ok-Some-clause-are_open : goal.returns-in_err-remember-in-Ok-Some-clause-are_open
returns-in_err-remember-in-Ok-Some-clause-are_open g c =
    open_leaf g (goal.at.returns-in_err-remember-in-Ok-Some-clause-are_open g c).In-Ok-Some

pub returns-in_ok-remember-in-Ok-Some-clause-are_open : goal.returns-in_ok-remember-in-Ok-Some-clause-are_open
returns-in_ok-remember-in-Ok-Some-clause-are_open g c =
    open_leaf g (goal.at.returns-in_ok-remember-in-Ok-Some-clause-are_open g c).In-Ok-Some

pub returns-in_ok-remember-in-Ok-Some-clause-next : goal.returns-in_ok-remember-in-Ok-Some-clause-next
returns-in_ok-remember-in-Ok-Some-clause-next g c =
    next_here g (goal.at.returns-in_ok-remember-in-Ok-Some-clause-next g c).In-Ok-Some

pub returns-in_ok-remember-in-Ok-Some-clause-short : goal.returns-in_ok-remember-in-Ok-Some-clause-short
returns-in_ok-remember-in-Ok-Some-clause-short g c =
    (fine_leaf g (goal.at.returns-in_ok-remember-in-Ok-Some-clause-short g c).In-Ok-Some).1

pub returns-in_ok-remember-in-Ok-Some-clause-sane : goal.returns-in_ok-remember-in-Ok-Some-clause-sane
returns-in_ok-remember-in-Ok-Some-clause-sane g c =
    let here = (goal.at.returns-in_ok-remember-in-Ok-Some-clause-sane g c).In-Ok-Some in
    let room = rw c.in-Ok-Some.field-0-is at c.in-Ok-Some.ensures.room_left in
    rw (c.take-taken.ensures.after, c.in_ok-remember-in-Ok-Some.ensures.ok)
    (leaf_sane (P g here) (F g here) _ _ _ _ c.args.given.now c.args.added.now c.next_leaf.new.added
    c.args.limits.paths _ c.requires.sane (ready_leaf g here) (same_leaf g here) (ends_leaf g here)
    (fine_leaf g here) (grind (arith, nat_tests)) c.in-Ok-Some.ensures.added)

pub returns-in-Ok-None-clause-are_open : goal.returns-in-Ok-None-clause-are_open
returns-in-Ok-None-clause-are_open g c =
    let h = rw c.in-Ok-None.field-0-is at c.in-Ok-None.ensures.stays_added in
    rw h (open_here (g.N.Node.has_path c.args.subject) (Fine (g.N.Node.shown c.args.subject) c.args.limits.decisions)
    _ _ _ _ _ _ c.requires.sane)

pub returns-in_ok-remember-in-Ok-Some-clause-few : goal.returns-in_ok-remember-in-Ok-Some-clause-few
returns-in_ok-remember-in-Ok-Some-clause-few g c =
    let room = rw c.in-Ok-Some.field-0-is at c.in-Ok-Some.ensures.room_left in
    grind (arith, nat_tests)

abbrev fine_of : (g : Over) → In-Ok-None g → Path → Type 0
fine_of g c = Fine (g.N.Node.shown c.args.subject) c.args.limits.decisions

-- nothing was left
past : (g : Over) (c : In-Ok-None g) → IsPast (g.N.Node.has_path c.args.subject) (path_in c.args.last.now)
past g c =
    let P = g.N.Node.has_path c.args.subject in
    let F = Fine (g.N.Node.shown c.args.subject) c.args.limits.decisions in
    let empty = rw c.in-Ok-None.field-0-is at c.in-Ok-None.ensures.over in
    let none = rw (c.in-Ok-None.field-0-is, c.take-taken.ensures.value) at c.in-Ok-None.ensures.no_hand in
    over_here P F _ _ _ _ (rw (none, empty) at c.requires.sane)

pub returns-in-Ok-None-clause-not_many : goal.returns-in-Ok-None-clause-not_many
returns-in-Ok-None-clause-not_many g c =
    let here = (goal.at.returns-in-Ok-None-clause-not_many g c).In-Ok-None in
    all_given (g.N.Node.has_path c.args.subject) (fine_of g here) _ _ _ c.requires.sane.told c.requires.sane.few
    (past g here)

pub returns-in-Ok-None-clause-not_long : goal.returns-in-Ok-None-clause-not_long
returns-in-Ok-None-clause-not_long g c = λ l.
    let here = (goal.at.returns-in-Ok-None-clause-not_long g c).In-Ok-None in
    let fine = all_fine (g.N.Node.has_path c.args.subject) (fine_of g here) _ _ c.requires.sane.told (past g here)
    l.path l.is_path in
    omega (arith, fine.1, l.long)

pub returns-in-Ok-None-clause-shown : goal.returns-in-Ok-None-clause-shown
returns-in-Ok-None-clause-shown g c = λ path is.
    let here = (goal.at.returns-in-Ok-None-clause-shown g c).In-Ok-None in
    (all_fine (g.N.Node.has_path c.args.subject) (fine_of g here) _ _ c.requires.sane.told (past g here) path is).0
