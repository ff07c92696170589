use Rattle.std.proofs.Common.{◌≡◌, ◌<◌, length, slice_get, Some, subst, sym, arith}
use Rattle.cm_ctx.specs.declared.naming.Kind.TheVariants as kind
use Rattle.cm_ctx.specs.Contexts.{Context, context, counts_of}
use Rattle.cm_ctx.specs.Naming.{syms_of}
use Rattle.cm_ctx.specs.Making.{first_counts}
use Rattle.cm_ctx.proofs.Names.{tags_named}
use Rattle.cm_ctx.proofs.context.Ctx.sym_of_tag.Goals as goal

pub sym_of-requires : goal.sym_of-requires
sym_of-requires c =
    let old : Context =
    context c.self.inside.classes c.self.inside.bounds c.self.inside.tags.items c.self.inside.options.items
    c.self.inside.asked in
    let all = tags_named first_counts (counts_of old) c.self.inside.asked c.self.invariant.row in
    let lt : c.args.x.0 < length old.tags = subst (λ (x : Context). c.args.x.0
    < length x.tags) (sym c.self.view_is) c.requires in
    rw (c.get.ensures.value) (omega arith)

pub returns : goal.returns
returns c = record {
  symbol = subst (λ (x : Context). slice_get (syms_of kind.Tag x.pieces) c.args.x.0
      ≡ Some c.sym_of.result.now) c.self.view_is (rw (c.get.ensures.value) at c.sym_of.ensures);
}
