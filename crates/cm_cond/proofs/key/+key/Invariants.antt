use Rattle.std.proofs.Common.{◌≡◌, [], map, drop}
use Rattle.cm_cond.specs.Keys.{fields_after}
use Rattle.cm_cond.specs.inner.Known.{key_values}
use Rattle.cm_cond.proofs.key.+key.Given as goal

-- what is left to value decides
abbrev pub invariant-fields_value-parts : goal.invariant-fields_value-parts
invariant-fields_value-parts l =
    fields_after l.values (key_values l.known (drop l.i l.parts)) (map (λ p. p.ty) (drop l.i l.fields))
    ≡ fields_after [] (key_values l.known l.parts) (map (λ p. p.ty) l.fields)
