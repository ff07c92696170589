use Rattle.std.proofs.Common.{◌≡◌, ◌||◌, ℕ}
use Rattle.cm_sorts.specs.inner.Pairs.{are_marked}
use Rattle.cm_sorts.specs.inner.Words.{is_shared}
use Rattle.cm_sorts.proofs.words.share_marks.Given as goal

abbrev pub invariant-others : goal.invariant-others
invariant-others l = (i j : ℕ) → are_marked l.words i j ≡ (are_marked l.initial.words i j
    || is_shared l.initial.words l.keep l.gone l.other i j)
