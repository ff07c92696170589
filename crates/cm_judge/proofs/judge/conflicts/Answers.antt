use Rattle.std.proofs.Common.{List, [], ◌∷◌, IfOk, Ok, Err, Result, ◌≡◌, length, arith, refl, sym, subst}
use Rattle.std.proofs.lemmas.List.{append-nil}
use Rattle.std.proofs.lemmas.Bool.{eqb-true}
use Rattle.cm_judge.specs.declared.slots.Record.{Record}
use Rattle.cm_judge.specs.inner.Table.{HasOneEach}
use Rattle.cm_judge.proofs.Merges.{Keep-same}
use Rattle.cm_judge.proofs.judge.conflicts.Goals as goal

no_items : (xs : List Record) → length xs ≡ 0 → xs ≡ []
no_items [] e = refl
no_items (x ∷ xs) e = absurd (omega (arith, e))

pub returns-then-is_empty : goal.returns-then-is_empty
returns-then-is_empty c =
    rw (
      no_items c.args.spill.now
          (eqb-true (length c.args.spill.now) 0 (sym c.if-is_empty.ensures)),
      append-nil c.args.table.now,
    )
    c.conflicts.ensures

if_ok : {T E : Type 0} (P Q : T → Type 0) (r : Result T E) → ((x : T) → P x → Q x) → IfOk r P → IfOk r Q
if_ok P Q (Ok x) f p = f x p
if_ok P Q (Err e) f p = tt

pub conflict_lines-requires : goal.conflict_lines-requires
conflict_lines-requires c = subst HasOneEach (sym c.as_slice.ensures.value) c.in_ok-records-2.ensures.one_each

pub returns : goal.returns
returns c =
    let spill = c.args.spill.now in
    if_ok _ _ c.conflict_lines.result
    (λ lines found entries stands. found entries
    (λ line is. rw c.as_slice.ensures.value (c.in_ok-records-2.ensures.keep [] entries line is
    (rw c.in_ok-extend_from_slice.ensures.items
    (Keep-same c.args.table.now c.in_ok-records.records.items spill entries line is c.in_ok-records.ensures
    (stands line is))))))
    c.conflict_lines.ensures
