use Rattle.std.proofs.Common.{◌≡◌, ◌≢◌, ℕ, ◌+◌, ◌<◌, List, ◌∷◌, ◌++◌, [], length, drop, get_or, subst}
use Rattle.std.proofs.lemmas.List.{drop_more}
use Rattle.cm_mtrace.specs.declared.item.Who.{Who}
use Rattle.cm_mtrace.specs.declared.item.Who.TheVariants.{Other}
use Rattle.cm_mtrace.specs.declared.item.Kind.{Kind}
use Rattle.cm_judge.specs.declared.slots.Record.{Record}
use Rattle.cm_judge.specs.declared.summary.LineSummary.{LineSummary}
use Rattle.cm_judge.specs.Summary.{cores_of, union_of}
use Rattle.cm_judge.proofs.Merges.{IsJoined, join_first, join_push, join_union, one_more_each}
use Rattle.cm_judge.proofs.merge.joined.Goals as goal
use Rattle.cm_judge.proofs.merge.joined.Goals.{then-record-last, else-record-last+in_ok-push}

pub loop-record-init : goal.loop-record-init
loop-record-init c =
    let is = c.in-Some.ensures.cases.0 in
    rw (is, c.new-all.ensures.items) (join_first c.in-Some.first.now c.in-Some.others.now (rw is at c.requires))

union_at : (sorted all others : List Record) (last : Record) (i : ℕ) (d : Record) (s : LineSummary) → i < length others
    → (get_or others i d).line ≡ last.line
    → ((who : Who) (kind : Kind) → who ≢ Other
    → cores_of s who kind ≡ union_of (cores_of last.summary who kind) (cores_of (get_or others i d).summary who kind))
    → IsJoined sorted all last (drop i others)
    → IsJoined sorted all record { line = last.line; summary = s } (drop (i + 1) others)
union_at sorted all others last i d s within is union h =
    join_union sorted all last (get_or others i d) (drop (i + 1) others) s is union
    (subst (λ (l : List Record). IsJoined sorted all last l) (drop_more others i d within) h)

push_at : (sorted all others : List Record) (last : Record) (i : ℕ) (d : Record) → i < length others
    → ((get_or others i d).line ≡ last.line → ⊥) → IsJoined sorted all last (drop i others)
    → IsJoined sorted (all ++ last ∷ []) (get_or others i d) (drop (i + 1) others)
push_at sorted all others last i d within apart h =
    join_push sorted all last (get_or others i d) (drop (i + 1) others) apart
    (subst (λ (l : List Record). IsJoined sorted all last l) (drop_more others i d within) h)

pub loop-record-preserved : goal.loop-record-preserved
loop-record-preserved c =
    let i = c.loop-record.record-index in
    elim c.if-record-last.branch [
      | then-record-last w ↦ rw (w.last-is, w.all-is)
          (union_at c.args.sorted.now c.loop-record.all.items c.in-Some.others.now c.loop-record.last i _
          w.union-last.result c.loop-record-test.true w.if-record-last.true w.union-last.ensures
          c.loop-record.invariant)
      | else-record-last+in_ok-push w ↦ rw (w.last-is, w.all-is, w.in_ok-push.ensures.items)
          (push_at c.args.sorted.now c.loop-record.all.items c.in-Some.others.now c.loop-record.last i _
          c.loop-record-test.true w.if-record-last.false c.loop-record.invariant)
    ]

pub returns-clause-one_each : goal.returns-clause-one_each
returns-clause-one_each c =
    rw c.in_ok-push-2.ensures.items
    (one_more_each c.loop-record.all.items c.loop-record.last c.loop-record.invariant.below
    c.loop-record.invariant.one_each)
