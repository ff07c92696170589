use Rattle.std.proofs.Common.{◌+◌, ◌*◌}
use Rattle.cm_model.specs.declared.ty.Ty.{size-Ty}
use Rattle.cm_ctx.specs.Growth.{field_makers}
use Rattle.cm_ctx.proofs.Measures.{sizes, load}
use Rattle.cm_ctx.proofs.Growing.{Going}
use Rattle.cm_ctx.proofs.making.+make.Given as goal

abbrev pub decreases-make : goal.decreases-make
decreases-make l = 2 * size-Ty l.ty.now + load l.records.now

abbrev pub decreases-make_option : goal.decreases-make_option
decreases-make_option l = 2 * size-Ty l.payload.now + 1 + load l.records.now

abbrev pub decreases-make_record : goal.decreases-make_record
decreases-make_record l = 1 + load l.records.now

abbrev pub decreases-make_fields : goal.decreases-make_fields
decreases-make_fields l = 2 * sizes l.fields.now + 1 + load l.records.now

abbrev pub invariant-make_fields-fields : goal.invariant-make_fields-fields
invariant-make_fields-fields l =
    Going l.fn.making.root l.fn.path l.fn.making.from
    (field_makers l.fn.making l.fn.records l.fn.fields) l.fn.to l.i l.terms l.to
