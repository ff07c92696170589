use Rattle.std.proofs.Common.{sym, ◌∙◌}
use Rattle.cm_sorts.proofs.Sharing.{mark_room}
use Rattle.cm_sorts.proofs.words.share_mark.Goals as goal

pub mark-requires-clause-room : goal.mark-requires-clause-room
mark-requires-clause-room c = mark_room c.args.words.now c.args.keep c.args.gone c.args.other c.requires.lesser
    c.requires.may (sym c.are_marked.ensures ∙ c.if-are_marked.true)
