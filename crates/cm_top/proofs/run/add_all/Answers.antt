use Rattle.std.proofs.Common.{◌≡◌, ◌++◌, [], ap, sym, subst, ◌∙◌, append_assoc, append-nil, rules}
use Rattle.std.proofs.lemmas.List.{nil_from_length}
use Rattle.std.specs.List.{All}
use Rattle.std.specs.Slice.Iter.{chunks_rest}
use Rattle.cm_mtrace.specs.Trace.{IsItem}
use Rattle.cm_top.specs.inner.Sections.{Have}
use Rattle.cm_top.proofs.Runs.{all_parts}
use Rattle.cm_top.proofs.run.add_all.Goals as goal

pub loop-batch-init : goal.loop-batch-init
loop-batch-init c =
    let rest : chunks_rest c.into_iter-batch-iterator.result ≡ c.args.items.now = search rules in (
      search rules,
      tt,
      [],
      rest,
      subst (All IsItem) (sym rest) c.requires,
      λ before all have is. subst (Have c.args.sections.now) (sym (append-nil before)) have,
    )

pub add_batch-requires : goal.add_batch-requires
add_batch-requires c =
    let steps = c.in-Some.ensures.steps in
    (all_parts c.in-Some.batch.now (chunks_rest c.next.new.self)
    (subst (All IsItem) steps.1.0 c.loop-batch.invariant.4)).0

pub loop-batch-preserved : goal.loop-batch-preserved
loop-batch-preserved c =
    let steps = c.in-Some.ensures.steps in
    let so_far = c.loop-batch.invariant in
    let done = so_far.2 in
    let batch = c.in-Some.batch.now in
    let rest = chunks_rest c.next.new.self in (
      search rules,
      tt,
      done ++ batch,
      append_assoc done batch rest ∙ ap (λ l. done ++ l) (sym steps.1.0) ∙ so_far.3,
      (all_parts batch rest (subst (All IsItem) steps.1.0 so_far.4)).1,
      λ before all have is.
          let spelled = is ∙ ap (λ l. before ++ l) (sym so_far.3 ∙ ap (λ l. done ++ l) steps.1.0)
          ∙ sym (append_assoc before done (batch ++ rest)) ∙ sym (append_assoc (before ++ done) batch rest) in
          subst (Have c.add_batch.new.sections) (append_assoc before done batch)
          (c.in_ok-add_batch.ensures (before ++ done) rest all (so_far.5 before all have is) spelled),
    )

pub returns : goal.returns
returns c before all have is =
    let so_far = c.loop-batch.invariant in
    let none = nil_from_length (chunks_rest c.loop-batch.batch-iterator) c.in-None.ensures.steps.1.0 in
    let whole : so_far.2 ≡ c.args.items.now = sym (append-nil so_far.2) ∙ ap (λ l. so_far.2 ++ l) (sym none) ∙
    so_far.3 in
    subst (λ l. Have c.loop-batch.sections (before ++ l)) whole (so_far.5 before all have is)
