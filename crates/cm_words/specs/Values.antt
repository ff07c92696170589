-- What the text of an argument means.
use Rattle.std.specs.Prelude.{◌≡◌, ◌≤◌, ℕ, Option, Some, None, IsTrue, ◌++◌, ◌∷◌, decimal}
use Rattle.clap.specs.Words.{Text}
use Rattle.cm_model.specs.Names.{is_name}
use Rattle.cm_words.specs.declared.pair.Two.{Two}

-- the text is the numeral of a number in the range
abbrev pub IsNumberIn : ℕ → ℕ → Text → ℕ → Type 0
IsNumberIn least most text n = (text ≡ decimal n) × (least ≤ n) × (n ≤ most)

-- the number of an option: that of its text, or the first number here where the option is absent
abbrev pub IsNumberOr : ℕ → ℕ → ℕ → Option Text → ℕ → Type 0
IsNumberOr absent least most None n = n ≡ absent
IsNumberOr absent least most (Some text) n = IsNumberIn least most text n

-- the text is two names of the model language, with a comma between
abbrev pub IsPair : Text → Text → Text → Type 0
IsPair text first second = (text ≡ first ++ 44 ∷ second) × IsTrue (is_name first) × IsTrue (is_name second)

-- the pair of an option: that of its text, or none where the option is absent
abbrev pub IsPairOr : Option Text → Option Two → Type 0
IsPairOr None pair = pair ≡ None
IsPairOr (Some text) None = ⊥
IsPairOr (Some text) (Some two) = IsPair text two.first two.second
