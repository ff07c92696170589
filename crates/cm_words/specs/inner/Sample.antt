-- A command that only the tests have, made of all parts that commands share.
use Rattle.std.specs.Prelude.{◌≡◌, ℕ, Bool, [], ◌∷◌, List, Option, Some, codes}
use Rattle.clap.specs.Words.{App, Text}
use Rattle.cm_words.specs.Forms.{IsTaken, flag, form, is_true, option, positional, value_at}
use Rattle.cm_words.specs.Values.{IsNumberOr, IsPairOr}
use Rattle.cm_words.specs.declared.pair.Two.{Two}

-- `sample FIRST SECOND`, the part of it that is made first
abbrev pub names_form : App
names_form = form (codes "sample") (positional (codes "FIRST") ∷ positional (codes "SECOND") ∷ [])

-- `sample FIRST SECOND [--count N] [--pair A,B] [--all]`, with N in 1..=100 and 7 where it is absent
abbrev pub sample_form : App
sample_form = form (codes "sample")
    (positional (codes "FIRST") ∷ positional (codes "SECOND") ∷ option (codes "count") ∷ option (codes "pair")
    ∷ flag (codes "all") ∷ [])

abbrev pub IsSample : List Text → Text → Text → ℕ → Option Two → Bool → Type 0
IsSample words first second count pair all =
    IsTaken sample_form words
    × (value_at sample_form words (codes "FIRST") ≡ Some first)
    × (value_at sample_form words (codes "SECOND") ≡ Some second)
    × IsNumberOr 7 1 100 (value_at sample_form words (codes "count")) count
    × IsPairOr (value_at sample_form words (codes "pair")) pair
    × (all ≡ is_true (value_at sample_form words (codes "all")))
