-- A record's fields are of earlier records, and the values before the index are made.
use Rattle.std.proofs.Common.{◌≡◌, ◌+◌, ◌*◌, map, take, length}
use Rattle.cm_value.specs.Least.{least_in, least_records}
use Rattle.cm_value.proofs.least_value.+least.Given as goal

abbrev pub decreases-least_in : goal.decreases-least_in
decreases-least_in l = 3 * length l.records.now + 1

abbrev pub decreases-least_record : goal.decreases-least_record
decreases-least_record l = 3 * length l.records.now

abbrev pub decreases-least_fields : goal.decreases-least_fields
decreases-least_fields l = 3 * length l.records.now + 2

abbrev pub invariant-least_fields-loop-field : goal.invariant-least_fields-loop-field
invariant-least_fields-loop-field l =
    l.parts ≡ map (λ p. least_in l.fn.ints (least_records l.fn.ints l.fn.records) p.ty) (take l.field-index l.fn.fields)
