use Rattle.std.proofs.Common.{◌≡◌, ◌++◌, map, drop}
use Rattle.std.specs.List.{AllByRecursion}
use Rattle.cm_name.specs.Naming.{key_named, HasSymbols}
use Rattle.cm_name.proofs.key.+key.Given as goal

-- what is left to name decides
abbrev pub invariant-record_key-fields : goal.invariant-record_key-fields
invariant-record_key-fields l =
    (l.keys ++ map (key_named l.ctx.pieces) (drop l.field-index l.fields) ≡ map (key_named l.ctx.pieces) l.fields)
    × AllByRecursion (HasSymbols l.ctx.pieces) (drop l.field-index l.fields)
