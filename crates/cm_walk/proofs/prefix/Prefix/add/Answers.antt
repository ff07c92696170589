-- One of several outcomes is taken.
use Rattle.std.proofs.Common.{length, refl, ap, ◌∙◌, true}
use Rattle.cm_ctx.specs.Contexts.{Context}
use Rattle.cm_walk.proofs.Going.{added, only_open, outcomes_are, spared}
use Rattle.cm_walk.proofs.prefix.Prefix.add.Goals as goal

pub add-requires-clause-may : goal.add-requires-clause-may
add-requires-clause-may g c =
    let t = c.args.model.now in
    let x = c.args.self.now in
    let q = c.in-Some.question in
    let h = only_open t c.args.pair x q c.in-Some.is c.requires.open in
    let same = c.in_ok-tell.ensures.known ∙ c.in_ok-reserve.ensures.room in
    let may = (outcomes_are t c.args.pair x q c.nodes_are_right.ensures.node h c.args.outcome).1 c.requires.begins in
    (may.0, (spared x.known c.tell.new.self.known true same may.0).1 may.1, may.2)

pub returns-clause-prefix : goal.returns-clause-prefix
returns-clause-prefix g c =
    let t = c.args.model.now in
    let x = c.args.self.now in
    let q = c.in-Some.question in
    let h = only_open t c.args.pair x q c.in-Some.is c.requires.open in
    let same = c.in_ok-tell.ensures.known ∙ c.in_ok-reserve.ensures.room in
    let told = c.in_ok-tell.ensures in
    let put = c.add.ensures in
    added t c.args.pair x _ q c.args.outcome h.is_prefix h.asked told.decisions told.cells
    (told.coded t h.is_prefix.coded) (told.told t q h.is_prefix.coded h.asked) c.nodes_are_right.ensures.node
    c.requires.several (told.facts ∙ c.in_ok-push.ensures.ok) (put.pieces ∙ ap (λ (k : Context). k.pieces) same)
    (rw (
      ap length (put.sorts ∙ ap (λ (k : Context). k.classes.sorts) same),
      put.bounds ∙ ap (λ (k : Context). length k.bounds) same,
      put.tags ∙ ap (λ (k : Context). length k.tags) same,
      put.options ∙ ap (λ (k : Context). length k.options) same,
    ) refl)
    (λ v.
    let one = put.kept v in
    let two = spared x.known c.tell.new.self.known true same v in
    ((λ s. let r = one.0 s in (two.0 r.0, r.1)), (λ r. one.1 (two.1 r.0, r.1))))
