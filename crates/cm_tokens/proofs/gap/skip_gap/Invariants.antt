use Rattle.std.proofs.Common.{◌≡◌, ◌+◌, drop}
use Rattle.cm_tokens.specs.Gap.{gap_of}
use Rattle.cm_tokens.proofs.gap.skip_gap.Given as goal

abbrev pub invariant-gap : goal.invariant-gap
invariant-gap l = record {
  same : l.cursor.text ≡ l.initial.cursor.text;
  gap : l.cursor.at + gap_of (drop l.cursor.at l.cursor.text) ≡ l.initial.cursor.at + gap_of
      (drop l.initial.cursor.at l.initial.cursor.text);
}

abbrev pub decreases-gap : goal.decreases-gap
decreases-gap l = gap_of (drop l.cursor.at l.cursor.text)
