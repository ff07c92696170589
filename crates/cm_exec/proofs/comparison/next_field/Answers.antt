use Rattle.std.proofs.Common.{◌∙◌, sym}
use Rattle.cm_exec.proofs.Records.{one_field, no_field, left_shorter, right_shorter, lighter}
use Rattle.cm_exec.proofs.comparison.next_field.Goals as goal

pub returns-in-Some-Some-clause-stepped : goal.returns-in-Some-Some-clause-stepped
returns-in-Some-Some-clause-stepped c = λ ps.
    one_field ps c.args.frames.now c.push_rest.new.frames c.args.fields c.in-Some-Some.left c.in-Some-Some.right
    (sym (c.in_ok-left.ensures.there) ∙ c.in-Some-Some.is-0) (sym (c.in_ok-right.ensures.there) ∙ c.in-Some-Some.is-1)
    (c.in_ok-push_rest-in-Some-Some.ensures)

pub returns-in-Some-Some-clause-left : goal.returns-in-Some-Some-clause-left
returns-in-Some-Some-clause-left c =
    lighter c.args.frames.now c.push_rest.new.frames c.args.fields c.in-Some-Some.left
    (sym (c.in_ok-left.ensures.there) ∙ c.in-Some-Some.is-0) (c.in_ok-push_rest-in-Some-Some.ensures)

pub returns-in-None-None-clause-stepped : goal.returns-in-None-None-clause-stepped
returns-in-None-None-clause-stepped c = λ ps.
    no_field ps c.args.frames.now c.args.fields
    (sym (c.in_ok-left.ensures.there) ∙ c.in-None-None.is-0) (sym (c.in_ok-right.ensures.there) ∙ c.in-None-None.is-1)

pub returns-in-None-Some-clause-stepped : goal.returns-in-None-Some-clause-stepped
returns-in-None-Some-clause-stepped c = λ ps.
    left_shorter ps c.args.frames.now c.args.fields c.in-None-Some.field-0-1
    (sym (c.in_ok-left.ensures.there) ∙ c.in-None-Some.is-0) (sym (c.in_ok-right.ensures.there) ∙ c.in-None-Some.is-1)

pub returns-clause-stepped : goal.returns-clause-stepped
returns-clause-stepped c = λ ps.
    right_shorter ps c.args.frames.now c.args.fields c.in-Some-None.field-0-0
    (sym (c.in_ok-left.ensures.there) ∙ c.in-Some-None.is-0) (sym (c.in_ok-right.ensures.there) ∙ c.in-Some-None.is-1)
