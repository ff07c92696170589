-- One argument after another.
use Rattle.std.proofs.Common.{◌+◌, get_or, map, sym, ap, ◌∙◌, subst}
use Rattle.std.proofs.lemmas.Option.{slice_get-get_or, slice_get-map}
use Rattle.std.proofs.Common.{option_map}
use Rattle.cm_model.specs.declared.ty.Part.{Part}
use Rattle.cm_walk.proofs.AskedFor.{HasAsked, none_asked, one_more_at}
use Rattle.cm_walk.proofs.arguments.ask_for.Goals as goal

pub params-init : goal.params-init
params-init c =
    let t = c.args.model.now in
    let us = map (λ (q : Part). q.ty) c.args.params.now in
    subst (HasAsked t c.args.side us c.args.known.now 0 c.args.known.now) (sym c.new-terms.ensures)
    (none_asked t c.args.side us c.args.known.now c.requires.new)

pub params-preserved : goal.params-preserved
params-preserved c =
    let t = c.args.model.now in
    let us = map (λ (q : Part). q.ty) c.args.params.now in
    let told = c.in_ok-term.ensures in
    let one = c.index-params-i.result in
    subst (HasAsked t c.args.side us c.args.known.now (c.params.i + 1) c.fresh_of.new.self) (sym c.in_ok-push.ensures.ok)
    (one_more_at t c.args.side us c.args.known.now c.params.i
    (get_or c.args.params.now c.params.i one).ty c.params.known c.fresh_of.new.self c.params.terms
    (slice_get-map (λ (q : Part). q.ty) c.args.params.now c.params.i
    ∙ ap (option_map (λ (q : Part). q.ty))
    (slice_get-get_or c.args.params.now c.params.i one c.params-test.true))
    c.in_ok-at.at.root c.in_ok-term.term c.in_ok-at.ensures.root told.term told.pieces told.counts told.kept
    c.params.invariant)
