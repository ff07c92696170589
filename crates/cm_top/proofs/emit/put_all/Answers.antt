use Rattle.std.proofs.Common.{◌∷◌, ◌++◌, [], map, sym, subst}
use Rattle.std.specs.Io.KnownBytes.{Appends}
use Rattle.std.proofs.lemmas.List.{append-nil}
use Rattle.cm_top.specs.Output.{closing, header, joined}
use Rattle.cm_top.specs.inner.Pieces.{piece_of}
use Rattle.cm_top.proofs.Parts.{both, front_behind, front_first, front_more, last_piece}
use Rattle.cm_top.proofs.emit.put_all.Goals as goal

pub returns-in-Err-clause-taken : goal.returns-in-Err-clause-taken
returns-in-Err-clause-taken g c =
    front_first (g.O.Sink.written c.args.out.now) (g.O.Sink.written c.put_piece.new.out) header
    (map piece_of c.args.judged.now ++ closing ∷ []) c.in-Err.ensures.taken

pub returns-in-Err-put_sections-clause-taken : goal.returns-in-Err-put_sections-clause-taken
returns-in-Err-put_sections-clause-taken g c =
    let old = g.O.Sink.written c.args.out.now in
    let mid = g.O.Sink.written c.put_piece.new.out in
    let new = g.O.Sink.written c.put_sections.new.out in
    let pieces = map piece_of c.args.judged.now in
    front_behind old mid new (header ∷ []) (pieces ++ closing ∷ [])
    (subst (Appends old mid) (sym (append-nil header)) c.in_default.ensures.taken)
    (front_more mid new pieces (closing ∷ []) c.in-Err-put_sections.ensures.taken)

pub returns-clause-taken : goal.returns-clause-taken
returns-clause-taken g c =
    let old = g.O.Sink.written c.args.out.now in
    let mid = g.O.Sink.written c.put_piece.new.out in
    let last = g.O.Sink.written c.put_sections.new.out in
    let new = g.O.Sink.written c.put_piece-2.new.out in
    let pieces = map piece_of c.args.judged.now in
    last_piece old last new (header ∷ pieces) closing c.put_piece-2.result
    (both old mid last header (joined pieces) c.in_default.ensures.taken c.in_default-put_sections.ensures.taken)
    c.put_piece-2.ensures.taken
