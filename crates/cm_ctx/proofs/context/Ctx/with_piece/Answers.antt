use Rattle.std.proofs.Common.{◌≡◌, ◌++◌, ◌∷◌, [], List, subst, sym, ap, ◌∙◌}
use Rattle.cm_ctx.specs.declared.piece.Piece.{Piece}
use Rattle.cm_ctx.specs.Contexts.{Context, context, counts_of}
use Rattle.cm_ctx.specs.Asking.{IsNew}
use Rattle.cm_ctx.specs.Grown.{Grows}
use Rattle.cm_ctx.proofs.Piecing.{grows_given, proper_given}
use Rattle.cm_ctx.proofs.context.Ctx.with_piece.Goals as goal

pub with_numbers-requires : goal.with_numbers-requires
with_numbers-requires c = rw (c.as_slice-2.ensures) c.requires.fits.numbers

pub with-requires-clause-new : goal.with-requires-clause-new
with-requires-clause-new c = rw (c.get.ensures.value) (subst (λ (x : Context). IsNew x.pieces c.args.piece.root)
    (sym c.self.view_is) c.requires.new)

pub invariant_of-result : goal.invariant_of-result
invariant_of-result c =
    let q = c.args.piece in
    let old : Context =
    context c.self.inside.classes c.self.inside.bounds c.self.inside.tags.items c.self.inside.options.items
    c.self.inside.asked in
    let from : q.from ≡ counts_of old = subst (λ (x : Context). q.from
    ≡ counts_of x) (sym c.self.view_is) c.requires.from in
    let sorts = rw (c.as_slice.ensures) at c.in_ok-classes.ensures.sorts in
    let numbers = rw (c.as_slice-2.ensures) at c.in_ok-bounds.ensures.count in
    let kept = rw (c.as_slice-2.ensures) at c.in_ok-bounds.ensures.kept in
    let tags = rw (c.as_slice-3.ensures.value, c.as_slice-4.ensures) at c.in_ok-tags.ensures in
    let options = rw (c.as_slice-5.ensures.value, c.as_slice-6.ensures) at c.in_ok-options.ensures in
    let pieces : c.in_ok-asked-2.asked ≡ c.self.inside.asked ++ q ∷ [] = c.in_ok-asked-2.ensures.value
    ∙ c.in_ok-asked.ensures ∙ ap (λ (ps : List Piece). ps ++ q ∷ []) c.get.ensures.value in
    proper_given c.self.inside.counts old c.self.invariant q c.requires.fits from c.in_ok-classes.classes
    c.in_ok-bounds.bounds sorts c.in_ok-classes.ensures.kept numbers kept
    c.in_ok-counts.counts c.in_ok-tags.tags.items c.in_ok-options.options.items c.in_ok-asked-2.asked
    c.in_ok-counts.ensures tags options pieces c.in_ok-classes.ensures.satisfiable
    c.in_ok-bounds.ensures.satisfiable

pub returns : goal.returns
returns c =
    let q = c.args.piece in
    let old : Context =
    context c.self.inside.classes c.self.inside.bounds c.self.inside.tags.items c.self.inside.options.items
    c.self.inside.asked in
    let from : q.from ≡ counts_of old = subst (λ (x : Context). q.from
    ≡ counts_of x) (sym c.self.view_is) c.requires.from in
    let sorts = rw (c.as_slice.ensures) at c.in_ok-classes.ensures.sorts in
    let numbers = rw (c.as_slice-2.ensures) at c.in_ok-bounds.ensures.count in
    let kept = rw (c.as_slice-2.ensures) at c.in_ok-bounds.ensures.kept in
    let tags = rw (c.as_slice-3.ensures.value, c.as_slice-4.ensures) at c.in_ok-tags.ensures in
    let options = rw (c.as_slice-5.ensures.value, c.as_slice-6.ensures) at c.in_ok-options.ensures in
    let pieces : c.in_ok-asked-2.asked ≡ c.self.inside.asked ++ q ∷ [] = c.in_ok-asked-2.ensures.value
    ∙ c.in_ok-asked.ensures ∙ ap (λ (ps : List Piece). ps ++ q ∷ []) c.get.ensures.value in
    record {
      context = subst (λ (x : Context). Grows x q
          (context c.in_ok-classes.classes c.in_ok-bounds.bounds c.in_ok-tags.tags.items c.in_ok-options.options.items
          c.in_ok-asked-2.asked)) c.self.view_is
          (grows_given c.self.inside.counts old c.self.invariant q c.requires.fits from c.in_ok-classes.classes
          c.in_ok-bounds.bounds sorts c.in_ok-classes.ensures.kept numbers kept
          c.in_ok-counts.counts c.in_ok-tags.tags.items c.in_ok-options.options.items c.in_ok-asked-2.asked
          c.in_ok-counts.ensures tags options pieces);
    }
