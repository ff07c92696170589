use Rattle.std.proofs.Common.{◌≡◌, ◌++◌, map, drop}
use Rattle.cm_cond_text.specs.Cells.{fields_text}
use Rattle.cm_cond_text.specs.inner.Scopes.{keys_in}
use Rattle.cm_cond_text.proofs.cell.+key.Given as goal

-- with what is left it is the whole
abbrev pub invariant-push_fields-parts : goal.invariant-push_fields-parts
invariant-push_fields-parts l =
    l.to.items ++ fields_text l.i (keys_in l.scope (drop l.i l.parts)) (map (λ p. p.ty) (drop l.i l.fields))
    ≡ l.fn.to.items ++ fields_text 0 (keys_in l.scope l.parts) (map (λ p. p.ty) l.fields)
