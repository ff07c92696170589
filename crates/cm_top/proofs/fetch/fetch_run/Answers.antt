use Rattle.std.proofs.Common.{arith, ◌++◌, length, ap, subst, sym, ◌∙◌}
use Rattle.cm_top.specs.Fetch.{HoldsBytes, HoldsFront}
use Rattle.cm_top.specs.inner.Run.{HasRead}
use Rattle.cm_top.specs.declared.fetch.TheConstants.{LIMIT}
use Rattle.std.proofs.lemmas.List.{length-append}
use Rattle.cm_top.proofs.Files.{longer_file, no_bytes, same_length}
use Rattle.cm_top.proofs.fetch.fetch_run.Goals as goal

pub returns-then-n-eq0-clause-read : goal.returns-then-n-eq0-clause-read
returns-then-n-eq0-clause-read g c =
    let same = c.pieces.invariant.same c.args.name.now in
    let r = c.pieces.invariant.read in
    let front = subst (λ t. HoldsFront t r.0) (sym same) r.2 in
    let more = c.in_ok-n.ensures.reads r.0 r.1 front r.3 in
    let holds = subst (λ t. HoldsBytes t r.0) same (c.in_ok-n.ensures.end c.if-n-eq0.true r.0 r.1 front) in (
      r.0,
      omega (arith, r.1, c.pieces.invariant.short),
      holds,
      subst (HasRead c.take_piece.new.run)
          (no_bytes r.0 more.0 (more.1 ∙ c.if-n-eq0.true)) more.3,
    )

pub returns-then-from-gt-LIMIT-clause-too_long : goal.returns-then-from-gt-LIMIT-clause-too_long
returns-then-from-gt-LIMIT-clause-too_long g c is =
    let same = c.pieces.invariant.same c.args.name.now in
    let r = c.pieces.invariant.read in
    let front = subst (λ t. HoldsFront t r.0) (sym same) r.2 in
    let more = c.in_ok-n.ensures.reads r.0 r.1 front r.3 in
    longer_file (g.S.Shelf.held c.args.shelf.now c.args.name.now) (r.0 ++ more.0) LIMIT
    (subst (λ t. HoldsFront t (r.0 ++ more.0)) same more.2)
    (simp length-append (omega (arith, r.1, more.1, c.if-from-gt-LIMIT.true)))

pub pieces-preserved : goal.pieces-preserved
pieces-preserved g c =
    let same = c.pieces.invariant.same c.args.name.now in
    let r = c.pieces.invariant.read in
    let front = subst (λ t. HoldsFront t r.0) (sym same) r.2 in
    let more = c.in_ok-n.ensures.reads r.0 r.1 front r.3 in
    record {
      read = (
        r.0 ++ more.0,
        simp length-append (omega (arith, r.1, more.1)),
        subst
            (λ t. HoldsFront t (r.0 ++ more.0)) same more.2,
        more.3,
      );
      counted = c.in_ok-n.ensures.counted;
      short = omega (arith, c.if-from-gt-LIMIT.false);
      room = same_length c.pieces.buf.items c.take_piece.new.buf c.pieces.buf.len c.pieces.buf.ok.0
          (omega (arith, c.take_piece.auto.buf, ap length c.deref_mut.ensures.value)) ∙ c.pieces.invariant.room;
      same = λ name. c.in_ok-n.ensures.same name ∙ c.pieces.invariant.same name;
      later = λ name. omega (arith, c.in_ok-n.ensures.later name, c.pieces.invariant.later name);
    }
