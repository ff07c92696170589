use Rattle.std.proofs.Common.{Err, refl, subst, sym, ◌∙◌, inr, [], ◌∷◌}
use Rattle.std.specs.Io.KnownBytes.{Appends}
use Rattle.std.proofs.lemmas.List.{append-nil}
use Rattle.cm_io.specs.Sink.{TakesPart}
use Rattle.cm_posix.specs.Text.{posix_model}
use Rattle.cm_top.specs.declared.status.Status.TheVariants.{Done}
use Rattle.cm_top.proofs.Parts.{front_first}
use Rattle.cm_top.proofs.posix.run.Goals as goal

pub returns-in-Ok : goal.returns-in-Ok
returns-in-Ok g c held before now =
    let old = g.O.Sink.written c.args.out.now in
    let new = g.O.Sink.written c.put_piece.new.out in (
      tt,
      posix_model ∷ [],
      (refl, refl),
      subst (Appends old new)
          (c.posix_text.ensures ∙ sym (append-nil posix_model)) c.in-Ok.ensures.taken,
    )

pub returns-in-Err-WriteFault : goal.returns-in-Err-WriteFault
returns-in-Err-WriteFault g c held before now =
    let old = g.O.Sink.written c.args.out.now in
    let new = g.O.Sink.written c.put_piece.new.out in
    let part = subst (TakesPart old new) c.posix_text.ensures c.in-Err-WriteFault.ensures.taken in (
      c.in-Err-WriteFault.ensures.cause (λ i. Err (c.in-Err-WriteFault.field-0-is i)),
      (tt, Done, posix_model ∷ [], (refl, refl), front_first old new posix_model [] part),
    )

pub returns-in-Err-Memory : goal.returns-in-Err-Memory
returns-in-Err-Memory g c held before now =
    let old = g.O.Sink.written c.args.out.now in
    let new = g.O.Sink.written c.put_piece.new.out in
    let part = subst (TakesPart old new) c.posix_text.ensures c.in-Err-Memory.ensures.taken in
    inr (tt, Done, posix_model ∷ [], (refl, refl), front_first old new posix_model [] part)
