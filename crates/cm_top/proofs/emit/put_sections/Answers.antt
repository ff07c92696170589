use Rattle.std.proofs.Common.{arith, ◌++◌, ◌∷◌, ◌+◌, map, take, drop, ap, sym, subst, ◌∙◌}
use Rattle.std.specs.Io.KnownBytes.{Appends}
use Rattle.cm_top.specs.Output.{TakesFront, joined}
use Rattle.cm_top.specs.inner.Pieces.{piece_of}
use Rattle.cm_top.proofs.Parts.{around, both, front_behind, front_first, one_more}
use Rattle.cm_top.proofs.emit.put_sections.Goals as goal

pub returns-in-Err-clause-taken : goal.returns-in-Err-clause-taken
returns-in-Err-clause-taken g c =
    let xs = c.args.judged.now in
    let i = c.loop-section.section-index in
    let x = c.section-item.result in
    let old = g.O.Sink.written c.args.out.now in
    let mid = g.O.Sink.written c.loop-section.out in
    let new = g.O.Sink.written c.put_section.new.out in
    let pieces = around piece_of xs i x c.loop-section-test.true ∙
    ap (λ y. map piece_of (take i xs) ++ (piece_of y ∷ map piece_of (drop (i + 1) xs))) (sym c.section-item.is) in
    subst (TakesFront old new) (sym pieces)
    (front_behind old mid new (map piece_of (take i xs))
    (piece_of x ∷ map piece_of (drop (i + 1) xs)) c.loop-section.invariant.taken
    (front_first mid new (piece_of x) (map piece_of (drop (i + 1) xs)) c.in-Err.ensures.taken))

pub loop-section-preserved : goal.loop-section-preserved
loop-section-preserved g c =
    let xs = c.args.judged.now in
    let i = c.loop-section.section-index in
    let x = c.section-item.result in
    let old = g.O.Sink.written c.args.out.now in
    let mid = g.O.Sink.written c.loop-section.out in
    let new = g.O.Sink.written c.put_section.new.out in
    let more = one_more piece_of xs i x c.loop-section-test.true ∙
    ap (λ y. joined (map piece_of (take i xs)) ++ piece_of y) (sym c.section-item.is) in
    record {
      taken = subst (Appends old new) (sym more)
          (both old mid new (joined (map piece_of (take i xs)))
          (piece_of x) c.loop-section.invariant.taken c.in_default.ensures.taken);
      later = omega (arith, c.loop-section.invariant.later, c.in_default.ensures.later);
    }
