use Rattle.std.proofs.Common.{subst, sym}
use Rattle.std.proofs.lemmas.Option.{slice_get_within}
use Rattle.cm_term.specs.declared.term.Term.{Term}
use Rattle.cm_ctx.specs.Contexts.{Context, payloads_of}
use Rattle.cm_ctx.specs.Asking.{IsPayload}
use Rattle.cm_ctx.proofs.Indexing.{the_same}
use Rattle.cm_ctx.proofs.Rows.{payload_found}
use Rattle.cm_ctx.proofs.context.Ctx.payload_by.Goals as goal

pub payload-requires : goal.payload-requires
payload-requires c =
    let ps = c.self.inside.asked in
    let w = subst (λ (x : Context). (t : Term) × IsPayload x.pieces c.args.o.0 t) (sym c.self.view_is) c.requires in
    rw (c.get.ensures.value) (slice_get_within (payloads_of ps) c.args.o.0 w.0
    (payload_found _ ps c.args.o.0 w.0 c.self.invariant.row w.1))

pub returns : goal.returns
returns c = record {
  term = λ t h.
      let ps = c.self.inside.asked in
      let k = subst (λ (x : Context). IsPayload x.pieces c.args.o.0 t) (sym c.self.view_is) h in
      the_same (payloads_of ps) c.args.o.0 c.payload.result.now t (rw (c.get.ensures.value) at c.payload.ensures)
      (payload_found _ ps c.args.o.0 t c.self.invariant.row k);
}
