use denote.Enum.Bare.{same_true}
use Rattle.cm_mtrace.specs.contracts.item.Who.{the_type}
use Rattle.std.proofs.Common.{rules, Ok, Err, OnOk, Result, sym}
use Rattle.cm_judge.proofs.Notes.{stands_other}
use Rattle.cm_judge.proofs.judge.Judge.add.Goals as goal

pub returns-then-eq-clause-ok : goal.returns-then-eq-clause-ok
returns-then-eq-clause-ok c entries stands =
    stands_other c.args.self.now entries c.args.e.now
    (same_true the_type (search rules) _ _ (sym c.if-eq.ensures)) stands

pub returns-then-note_one-clause-ok : goal.returns-then-note_one-clause-ok
returns-then-note_one-clause-ok c entries stands =
    c.note_one.ensures.noted c.if-note_one.true c.self.inside.spill.items entries
    (λ l is. rw c.self.view_is (stands l is))

on_ok : {T E : Type 0} (P Q : Type 0) (r : Result T E) → (P → Q) → OnOk r P → OnOk r Q
on_ok P Q (Ok x) f p = f p
on_ok P Q (Err e) f p = tt

pub returns-clause-ok : goal.returns-clause-ok
returns-clause-ok c =
    on_ok _ _ c.add_lines.result
    (λ ok entries stands. ok entries
    (λ l is. rw (c.note_one.ensures.none c.if-note_one.false, c.self.view_is) (stands l is)))
    c.add_lines.ensures.ok
