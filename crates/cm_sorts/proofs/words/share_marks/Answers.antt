use Rattle.std.proofs.Common.{◌∙◌}
use Rattle.cm_sorts.proofs.Sharing.{still_unmarked, share_more}
use Rattle.cm_sorts.proofs.words.share_marks.Goals as goal

pub share_mark-requires-clause-may : goal.share_mark-requires-clause-may
share_mark-requires-clause-may c = c.others.invariant c.args.gone c.args.keep
    ∙ still_unmarked c.args.words.now c.args.keep c.args.gone c.others.other c.requires.lesser c.requires.may

pub others-preserved : goal.others-preserved
others-preserved c = share_more c.args.words.now c.others.words c.share_mark.new.words c.args.keep c.args.gone
    c.others.other c.requires.lesser c.others.invariant c.share_mark.ensures
