-- A cursor: a text, and how many of its bytes are behind.
use Rattle.std.specs.Prelude.{◌≡◌, ℕ, ◌+◌, ◌-◌, ◌^◌, ◌<◌, ◌≤◌, List, length, refl}
use Rattle.std.specs.Coded.{Coded, code_by, coded×, coded_ℕ, coded_list}
use Rattle.cm_text.specs.Place.{place_in}

pub record Standing : Type 0 where
  pub text : List ℕ
  pub at : ℕ

abbrev pub standing_code : Coded Standing
standing_code = code_by (List ℕ × ℕ) (coded× (coded_list coded_ℕ) coded_ℕ) (λ s. (s.text, s.at))
    (λ p. record { text = p.0; at = p.1 }) (λ _. refl)

-- what a cursor keeps: the line that it is in, and how many bytes stand before that line
pub record IsKept (text : List ℕ) (at line before : ℕ) : Type 0 where
  pub short : length text < 2 ^ 32 - 1
  pub within : at ≤ length text
  pub the_line : (place_in text at).line ≡ line
  pub the_col : before + (place_in text at).col ≡ at + 1
