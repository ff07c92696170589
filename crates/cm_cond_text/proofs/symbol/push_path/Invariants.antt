use Rattle.std.proofs.Common.{◌≡◌, ◌++◌, drop}
use Rattle.std.specs.Option.{option_copied}
use Rattle.cm_cond_text.specs.Symbols.{path_text}
use Rattle.cm_cond_text.proofs.symbol.push_path.Given as goal

-- with what is left it is the whole
abbrev pub invariant-steps : goal.invariant-steps
invariant-steps l =
    l.to.items ++ path_text l.model (option_copied l.part) (drop l.step-index l.path)
    ≡ l.fn.to.items ++ path_text l.model (option_copied l.fn.ty) l.path
