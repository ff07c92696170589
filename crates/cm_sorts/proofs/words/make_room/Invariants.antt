use Rattle.std.proofs.Common.{◌≡◌, ◌≤◌, ℕ, vec_len}
use Rattle.cm_sorts.specs.inner.Pairs.{is_set}
use Rattle.cm_sorts.proofs.words.make_room.Given as goal

abbrev pub invariant-zeros : goal.invariant-zeros
invariant-zeros l = record {
  same : (k : ℕ) → is_set l.words.items k ≡ is_set l.initial.words.items k;
  long : l.counter ≡ vec_len l.words;
  longer : vec_len l.initial.words ≤ vec_len l.words;
}
