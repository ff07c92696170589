use Rattle.std.proofs.Common.{◌≡◌, ◌<◌, ◌≤◌, List, [], map, length, drop, arith, sym, ap, ◌∙◌}
use Rattle.std.proofs.lemmas.List.{drop_all}
use Rattle.cm_model.specs.declared.ty.Part.{Part}
use Rattle.cm_cond.specs.Keys.{fields_after}
use Rattle.cm_cond.specs.declared.cell.KeyTerm.{KeyTerm}
use Rattle.cm_cond.specs.inner.Known.{key_values, record_of}
use Rattle.cm_cond.proofs.Keys.{left_over}
use Rattle.cm_cond.proofs.key.+key.Goals as goal

pub fields_value-returns-then-parts-fields : goal.fields_value-returns-then-parts-fields
fields_value-returns-then-parts-fields t c =
    let parts = c.args.parts.now in
    let fields = c.args.fields.now in
    let done : length parts ≤ c.parts.i = c.parts-test.false in
    let end : c.parts.i ≤ length parts = c.parts.auto.i-end in
    let fewer : length parts < length fields = c.if-parts-fields.true in
    let within : c.parts.i < length fields = omega (arith, end, fewer) in
    sym (ap record_of (sym c.parts.invariant
    ∙ ap (λ (ks : List KeyTerm). fields_after c.parts.values (key_values c.args.known.now ks)
    (map (λ (p : Part). p.ty) (drop c.parts.i fields))) (drop_all c.parts.i parts done)
    ∙ left_over c.parts.values fields c.parts.i within))
