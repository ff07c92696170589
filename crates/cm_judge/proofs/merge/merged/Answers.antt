use Rattle.std.proofs.lemmas.List.Sorted.{answers_always, IsNonDecreasingBy-from_sort}
use Rattle.std.proofs.Common.{rules, IfOk, Ok, Err, Result}
use Rattle.cm_judge.specs.declared.slots.Record.{Record}
use Rattle.cm_judge.proofs.Merges.{KeepWhat-permutation}
use Rattle.cm_judge.proofs.merge.merged.Goals as goal

pub joined-requires : goal.joined-requires
joined-requires c = rw c.as_slice.ensures.value
    (IsNonDecreasingBy-from_sort (λ (r : Record). r.line) _
    (c.sort_unstable_by_key.ensures.sorted (λ (r : Record). r.line) (answers_always _ _ _ (λ f a r g h. search rules))))

if_ok : {T E : Type 0} (P Q : T → Type 0) (r : Result T E) → ((x : T) → P x → Q x) → IfOk r P → IfOk r Q
if_ok P Q (Ok x) f p = f x p
if_ok P Q (Err e) f p = tt

pub returns-clause-keep : goal.returns-clause-keep
returns-clause-keep c =
    if_ok _ _ c.joined.result
    (λ joined keep others entries line is h. keep others entries line is
    (rw c.as_slice.ensures.value
    (KeepWhat-permutation c.args.records.items c.sort_unstable_by_key.new.self.items
    c.sort_unstable_by_key.ensures.permutation others entries line is h))) c.joined.ensures.keep
