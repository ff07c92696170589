-- The record at the number is made of the least values of its fields.
use Rattle.std.proofs.Common.{arith}
use Rattle.cm_value.proofs.LeastRecords.{record_at}
use Rattle.cm_value.proofs.least_value.+least.Goals as goal

pub least_record-returns : goal.least_record-returns
least_record-returns t c = record {
  exact = record_at c.args.ints.now c.args.records.now c.args.rec c.from-at.result
      c.index-records-at.result c.as_slice-fields.result.now c.in_ok-parts.parts (omega arith) c.from-at.ensures
      c.as_slice-fields.ensures c.in_ok-parts.ensures.exact;
}
