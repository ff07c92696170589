-- A state as a value of contracts.
use Rattle.std.specs.Prelude.{List, refl}
use Rattle.std.specs.Coded.{Coded, code_by, coded×, coded_list}
use Rattle.cm_value.specs.declared.value.Value.{Value}
use Rattle.cm_value.specs.contracts.value.Value as value
use Rattle.cm_eval.specs.declared.state.Except.{Except}
use Rattle.cm_eval.specs.contracts.state.Except as except
use Rattle.cm_eval.specs.State.{Store}

abbrev pub coded_parts : Coded (List Value × List Except)
coded_parts = coded× (coded_list value.the_row.coded) (coded_list except.the_row.coded)

abbrev pub store_code : Coded Store
store_code = code_by (List Value × List Except) coded_parts (λ s. (s.defaults, s.exceptions))
    (λ p. record { defaults = p.0; exceptions = p.1 }) (λ _. refl)
