use Rattle.std.proofs.Common.{arith, ◌≡◌, ◌↔◌, ℕ, ◌+◌, ◌*◌, refl, subst, ◌++◌}
use Rattle.cm_mtrace.specs.Lines.{Covers}
use Rattle.cm_judge.proofs.Notes.{IsOneOf, noted_all, noted_more}
use Rattle.cm_judge.proofs.judge.note_lines.Goals as goal

pub overflow_add-line : goal.overflow_add-line
overflow_add-line c =
    let here = (c.requires.lines (c.args.lines.first + 64 * c.from.result)).1
    (c.from.result, omega (arith, c.from.ensures, c.loop-k-test.true), refl) in
    omega (arith, here.byte.2, here.byte.3, c.requires.range.last)

pub note_or_spill-requires-clause-covered : goal.note_or_spill-requires-clause-covered
note_or_spill-requires-clause-covered c =
    (c.requires.lines (c.args.lines.first + 64 * c.from.result)).1
    (c.from.result, omega (arith, c.from.ensures, c.loop-k-test.true), refl)

pub loop-k-preserved : goal.loop-k-preserved
loop-k-preserved c = record {
  noted = noted_more (c.args.table.now ++ c.args.spill.now.items) (c.loop-k.table ++ c.loop-k.spill.items)
      (c.note_or_spill.new.self ++ c.note_or_spill.new.spill.items) c.args.lines.first c.loop-k.k
      (c.args.lines.first + 64 * c.from.result) c.args.e.now
      (omega (arith, c.from.ensures)) c.note_or_spill.ensures.noted c.loop-k.invariant.noted;
  room = omega (
    arith,
    c.loop-k.invariant.room,
    c.note_or_spill.ensures.one_more,
    c.note_or_spill.ensures.capacity,
    c.loop-k-test.true,
  );
}

pub returns : goal.returns
returns c =
    let all : c.args.lines.count ≡ c.loop-k.k = omega (arith, c.loop-k-test.false, c.loop-k.auto.k-end) in
    noted_all (c.args.table.now ++ c.args.spill.now.items)
    (c.loop-k.table ++ c.loop-k.spill.items) c.args.lines.first c.loop-k.k c.args.e.now
    (subst (λ (n : ℕ). (line : ℕ) → Covers c.args.e.now line
    ↔ IsOneOf c.args.lines.first n line) all c.requires.lines) c.loop-k.invariant.noted
