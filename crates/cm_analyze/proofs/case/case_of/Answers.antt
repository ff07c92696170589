-- The case of a leaf.
use Rattle.std.proofs.Common.{◌≡◌, List, Option, Some, None, IfSome, IfNone, IfOk, Result, Ok, Err, sym, subst}
use Rattle.std.specs.List.{AllByRecursion}
use Rattle.cm_term.specs.declared.question.Fact.{Fact}
use Rattle.cm_cells.specs.CellTable.{Place}
use Rattle.cm_cond.specs.declared.report.Case.{Case}
use Rattle.cm_model.specs.declared.memory.NoMemory.{NoMemory}
use Rattle.cm_term.specs.Valuation.{Valuation}
use Rattle.cm_term.specs.Questions.{AreEqual}
use Rattle.cm_ctx.specs.Contexts.{Satisfies}
use Rattle.cm_pick.specs.Picking.{ArePicked}
use Rattle.cm_name.specs.Naming.{KeyHasSymbols}
use Rattle.cm_case.specs.Named.{IsNamedAfter}
use Rattle.cm_case.specs.Right.{CommutesOn, IsRightCase}
use Rattle.cm_analyze.proofs.case.case_of.Goals as goal

pub case_with-requires-clause-keys : goal.case_with-requires-clause-keys
case_with-requires-clause-keys c =
    subst (λ ps. AllByRecursion (λ (q : Place). KeyHasSymbols ps q.key) c.args.leaf.cells.places)
    (sym c.in_ok-picked.ensures.pieces)
    (c.cases_are_right.ensures.keys c.args.leaf _ c.requires.leaf c.in-If.is c.has_valuation.ensures.satisfiable)

pub returns-clause-right : goal.returns-clause-right
returns-clause-right c =
    by c.case_with.result (subst (λ fs. IfOk c.case_with.result (λ case. IfSome case (λ k. (more : List Fact)
    × (c.in_ok-picked.picked ≡ Some more)
    × IsNamedAfter c.pick.new.ctx.pieces c.args.leaf.cells.places fs more k))) c.as_slice-2.ensures c.case_with.ensures.some)
  where
    right : (more : List Fact) (k : Case) → c.in_ok-picked.picked ≡ Some more
        → IsNamedAfter c.pick.new.ctx.pieces c.args.leaf.cells.places c.args.leaf.facts more k
        → IsRightCase c.args.model.now c.args.pair c.args.leaf.path k
    right more k is named =
        c.cases_are_right.ensures.right c.args.leaf c.in-If.equalities more k c.requires.leaf c.len.ensures.table.few
        c.in-If.is
        (subst (λ es. ArePicked c.args.leaf.ctx es more) c.as_slice.ensures
        (subst (λ o. IfSome o (λ fs. ArePicked c.args.leaf.ctx c.as_slice.result.now fs)) is c.in_ok-picked.ensures.picked))
        (subst (λ ps. IsNamedAfter ps c.args.leaf.cells.places c.args.leaf.facts more k) c.in_ok-picked.ensures.pieces named)

    by : (r : Result (Option Case) NoMemory)
        → IfOk r (λ case. IfSome case (λ k. (more : List Fact) × (c.in_ok-picked.picked ≡ Some more)
        × IsNamedAfter c.pick.new.ctx.pieces c.args.leaf.cells.places c.args.leaf.facts more k))
        → IfOk r (λ case. IfSome case (λ k. IsRightCase c.args.model.now c.args.pair c.args.leaf.path k))
    by (Ok (Some k)) h = right h.0 k h.1 h.2
    by (Ok None) h = tt
    by (Err e) h = tt

pub returns-clause-none : goal.returns-clause-none
returns-clause-none c = by c.case_with.result c.case_with.ensures.none
  where
    none : c.in_ok-picked.picked ≡ None → CommutesOn c.args.model.now c.args.pair c.args.leaf.path → ⊥
    none is =
        c.cases_are_right.ensures.impossible c.args.leaf c.in-If.equalities c.requires.leaf c.in-If.is
        (subst (λ es. (v : Valuation) → Satisfies c.args.leaf.ctx v → AllByRecursion (AreEqual v) es → ⊥)
        c.as_slice.ensures
        (subst (λ o. IfNone o ((v : Valuation) → Satisfies c.args.leaf.ctx v
        → AllByRecursion (AreEqual v) c.as_slice.result.now → ⊥)) is c.in_ok-picked.ensures.never))

    by : (r : Result (Option Case) NoMemory) → IfOk r (λ case. IfNone case (c.in_ok-picked.picked ≡ None))
        → IfOk r (λ case. IfNone case (CommutesOn c.args.model.now c.args.pair c.args.leaf.path → ⊥))
    by (Ok (Some k)) h = tt
    by (Ok None) h = none h
    by (Err e) h = tt
