-- More or fewer values than fields are none of a record.
use Rattle.std.proofs.Common.{sym}
use Rattle.cm_value.proofs.Members.{uneven}
use Rattle.cm_value.proofs.membership.+member.Goals as goal

pub are_members-returns-then-fields-parts : goal.are_members-returns-then-fields-parts
are_members-returns-then-fields-parts t c =
    record { exact = sym (uneven c.args.model.now c.args.parts.now c.args.fields.now c.if-fields-parts.true) }
