-- Without a type a value stays as it is.
use Rattle.std.proofs.Common.{sym, ◌∙◌, arith}
use Rattle.std.specs.Option.{option_copied}
use Rattle.cm_value.specs.Relabelling.{relabel_of}
use Rattle.cm_value.proofs.Parts.{one_more}
use Rattle.cm_value.proofs.Untyped.{untyped}
use Rattle.cm_value.proofs.relabelling.+relabel.Goals as goal

pub relabel_typed-returns-in_ok-value-in-None : goal.relabel_typed-returns-in_ok-value-in-None
relabel_typed-returns-in_ok-value-in-None t c =
    record {
      exact = rw c.in-None.is (c.in_ok-value-in-None.ensures.equal
          ∙ sym (untyped c.args.model.now c.args.by.now c.args.part.now));
    }

pub relabel_parts-loop-i-preserved : goal.relabel_parts-loop-i-preserved
relabel_parts-loop-i-preserved t c =
    one_more (relabel_of c.args.model.now c.args.by.now) c.args.parts.now c.args.fields.now c.loop-i.i
    c.index-parts-i.result c.in_ok-value.value
    (option_copied c.type_at.result) c.loop-i.values c.push.new.self _ (omega arith) c.index-parts-i.is
    c.type_at.ensures.exact c.in_ok-value.ensures.exact
    c.in_ok-push.ensures.ok c.loop-i.invariant
