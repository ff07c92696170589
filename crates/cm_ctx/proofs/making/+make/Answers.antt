use Rattle.std.proofs.Common.{arith, List, ap, subst, length, ◌≤◌}
use Rattle.std.proofs.lemmas.Result.{IfOk-weaker}
use Rattle.cm_model.specs.declared.ty.Part.{Part}
use Rattle.cm_term.specs.declared.symbol.Step.{Step}
use Rattle.cm_ctx.specs.Making.{place, counted}
use Rattle.cm_ctx.specs.Growth.{maker_of, Adds}
use Rattle.cm_ctx.proofs.Measures.{load_at, size_at, sizes}
use Rattle.cm_ctx.proofs.Growing.{going_step, adds_nothing, adds_record}
use Rattle.cm_ctx.proofs.making.+make.Goals as goal

pub make_fields-make-requires : goal.make_fields-make-requires
make_fields-make-requires t c =
    let fits = size_at c.args.fields.now c.fields.i c.index-fields-i.result (omega arith) in
    (omega arith, tt)

pub make_fields-fields-preserved : goal.make_fields-fields-preserved
make_fields-fields-preserved t c =
    let m = c.args.making.now in
    let added = subst (λ (q : List Step). Adds (maker_of m c.args.records.now (c.index-fields-i.result).ty
    (place m.root q (counted m.from c.fields.to))) c.fields.to c.make.new.to c.in_ok-term.term)
    (c.in_ok-inner.ensures)
    (rw (c.index-fields-i.is) c.in_ok-term.ensures) in
    rw (c.in_ok-push.ensures.ok) (going_step m.root c.args.path.now m.from
    (maker_of m c.args.records.now) c.args.fields.now c.args.to.now c.fields.to c.make.new.to c.fields.i
    c.index-fields-i.result
    c.fields.terms c.in_ok-term.term (c.index-fields-i.result).ty (omega arith)
    (ap (λ (p : Part). p.ty) c.index-fields-i.is) c.fields.invariant added)

pub make_record-returns-then-index-records : goal.make_record-returns-then-index-records
make_record-returns-then-index-records t c =
    let m = c.args.making.now in
    IfOk-weaker c.record_of.result _ _
    (λ u is. adds_nothing m.ints.now m.enums.now c.args.records.now c.args.rec _ c.args.to.now u c.new.result
    (subst (λ r. length c.args.records.now ≤ r) c.from-index.ensures c.if-index-records.true) c.new.ensures is)
    c.record_of.ensures

pub make_record-make_fields-requires : goal.make_record-make_fields-requires
make_record-make_fields-requires t c =
    let fits = load_at c.args.records.now c.from-index.result c.index-records-index.result (omega arith) in
    let same = ap sizes c.as_slice-fields.ensures in
    (omega arith, tt)

pub make_record-returns : goal.make_record-returns
make_record-returns t c =
    let m = c.args.making.now in
    IfOk-weaker c.record_of-2.result _ _
    (λ u is. adds_record m.ints.now m.enums.now c.args.records.now c.args.rec c.index-records-index.result
    c.from-index.result _ c.args.to.now c.make_fields.new.to u c.in_ok-terms.terms c.as_slice-fields.result.now
    (omega arith) c.from-index.ensures c.as_slice-fields.ensures is c.in_ok-terms.ensures)
    c.record_of-2.ensures
