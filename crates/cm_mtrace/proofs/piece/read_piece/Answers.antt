use Rattle.std.proofs.Common.{◌+◌, ◌++◌, ◌∷◌, [], codes, sym, subst, IfErr, IfOk}
use Rattle.std.proofs.lemmas.Result.{err_from_is_err_and, IfErr-weaker, IfOk-weaker}
use Rattle.cm_mtrace.specs.inner.Reading.{Reads, Reaches, Refuses, Stops}
use Rattle.cm_mtrace.proofs.LineTexts.{all_append}
use Rattle.cm_mtrace.proofs.Pieces.{ends_line, ends_none, reaches_on, refuses_on, stops_long}
use Rattle.cm_mtrace.proofs.Pieces.{stops_on, stops_refused}
use Rattle.cm_mtrace.proofs.Stepping.{reads_none}
use Rattle.cm_mtrace.proofs.piece.read_piece.Goals as goal

pub returns-in_err-keep-clause-stops : goal.returns-in_err-keep-clause-stops
returns-in_err-keep-clause-stops c =
    let p = err_from_is_err_and c.from_residual.result c.from_residual.ensures.1 in
    let text = c.args.left.now.items ++ c.args.piece.now in
    let to = c.args.to.now.items in
    rw (p.1, p.2) (stops_long c.args.before text text to to c.args.before c.in_err-keep.field-0.0
    (ends_none c.args.before text to (all_append _ c.args.left.now.items c.args.piece.now c.requires.kept.line
    c.in_default.ensures)) c.in_err-keep.ensures.long)

pub returns-in_err-ended_step-clause-stops : goal.returns-in_err-ended_step-clause-stops
returns-in_err-ended_step-clause-stops c =
    let p = err_from_is_err_and c.from_residual-in_err-ended_step.result c.from_residual-in_err-ended_step.ensures.1 in
    let left = c.args.left.now.items in
    let front = c.in-Some.front.now in
    let after = c.in-Some.after.now in
    let text = left ++ c.args.piece.now in
    let old = c.args.to.now.items in
    let new = c.ended_step.new.to.items in
    let f = c.in_err-ended_step.field-0.0 in
    let refuses = refuses_on c.args.before (left ++ front ++ codes "\n") after old new f
    (subst (λ l. Refuses c.args.before (l ++ front ++ codes "\n") old new f) c.deref.ensures.value
    c.in_err-ended_step.ensures.refuses) in
    rw (p.1, p.2) (stops_refused c.args.before text [] text old old new c.args.before f
    (reads_none c.args.before text old) (subst (λ t. Refuses c.args.before t old new f)
    (sym (ends_line left c.args.piece.now front after c.in-Some.ensures.1)) refuses))

pub returns-clause-reaches : goal.returns-clause-reaches
returns-clause-reaches c =
    let left = c.args.left.now.items in
    let front = c.in-Some.front.now in
    let after = c.in-Some.after.now in
    let old = c.args.to.now.items in
    let mid = c.ended_step.new.to.items in
    let new = c.read_on-2.new.to.items in
    let line = left ++ front ++ codes "\n" in
    let reads = subst (λ l. Reads c.args.before (l ++ front ++ codes "\n") ((l ++ front) ∷ []) [] old
    mid (c.args.before + 1)) c.deref.ensures.value c.in_ok-ended_step.ensures.reads in
    subst (λ t. IfOk c.read_on-2.result (λ n. Reaches c.args.before t old new n c.read_on-2.new.left.items))
    (sym (ends_line left c.args.piece.now front after c.in-Some.ensures.1))
    (IfOk-weaker c.read_on-2.result
    (λ n. Reaches (c.args.before + 1) after mid new n c.read_on-2.new.left.items)
    (λ n. Reaches c.args.before (line ++ after) old new n c.read_on-2.new.left.items)
    (λ n r. reaches_on c.args.before line after ((left ++ front) ∷ []) old mid new (c.args.before + 1) n
    c.read_on-2.new.left.items reads r) c.read_on-2.ensures.reaches)

pub returns-clause-stops : goal.returns-clause-stops
returns-clause-stops c =
    let left = c.args.left.now.items in
    let front = c.in-Some.front.now in
    let after = c.in-Some.after.now in
    let old = c.args.to.now.items in
    let mid = c.ended_step.new.to.items in
    let new = c.read_on-2.new.to.items in
    let line = left ++ front ++ codes "\n" in
    let reads = subst (λ l. Reads c.args.before (l ++ front ++ codes "\n") ((l ++ front) ∷ []) [] old
    mid (c.args.before + 1)) c.deref.ensures.value c.in_ok-ended_step.ensures.reads in
    subst (λ t. IfErr c.read_on-2.result (Stops c.args.before t old new))
    (sym (ends_line left c.args.piece.now front after c.in-Some.ensures.1))
    (IfErr-weaker c.read_on-2.result (Stops (c.args.before + 1) after mid new)
    (Stops c.args.before (line ++ after) old new) (λ f s. stops_on c.args.before line after ((left ++ front) ∷ []) old
    mid new (c.args.before + 1) f reads s) c.read_on-2.ensures.stops)
