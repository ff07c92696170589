-- A walk, to its callers.
use Rattle.std.specs.Prelude.{ℕ, List, Option, refl}
use Rattle.std.specs.Coded.{Coded, code_by, coded×, coded_ℕ, coded_list, coded_option}
use Rattle.cm_model.specs.Tables.{Tables}
use Rattle.cm_model.specs.TablesCode.{tables_code}
use Rattle.cm_model.specs.declared.pair.Pair.{Pair}
use Rattle.cm_model.specs.contracts.pair.Pair as pair
use Rattle.cm_forks.specs.declared.fault.Fault.{Fault}
use Rattle.cm_forks.specs.contracts.fault.Fault as fault

-- whose paths they are, how many are given at most, the path given last, how many were given, how many additions were
-- made, and the fault
pub record Walking : Type 0 where
  pub model : Tables
  pub pair_of : Pair
  pub limit : ℕ
  pub last : Option (List ℕ)
  pub given : ℕ
  pub added : ℕ
  pub stopped : Option Fault

abbrev pub walking_code : Coded Walking
walking_code =
    code_by (Tables × (Pair × (ℕ × (Option (List ℕ) × (ℕ × (ℕ × Option Fault))))))
    (coded× tables_code (coded× pair.the_row.coded (coded× coded_ℕ (coded× (coded_option (coded_list coded_ℕ))
    (coded× coded_ℕ (coded× coded_ℕ (coded_option fault.the_row.coded)))))))
    (λ w. (w.model, (w.pair_of, (w.limit, (w.last, (w.given, (w.added, w.stopped)))))))
    (λ p. record {
      model = p.0;
      pair_of = p.1.0;
      limit = p.1.1.0;
      last = p.1.1.1.0;
      given = p.1.1.1.1.0;
      added = p.1.1.1.1.1.0;
      stopped = p.1.1.1.1.1.1;
    })
    (λ _. refl)
