-- The code of a model.
use Rattle.std.specs.Prelude.{◌≡◌, List, map, Option, Some, None}
use Rattle.cm_model.specs.Tables.{Tables}
use Rattle.cm_model.specs.declared.ty.IntDecl.{IntDecl}
use Rattle.cm_model.specs.declared.body.Expr.{Expr}
use Rattle.cm_code.specs.declared.instr.Instr.{Instr}
use Rattle.cm_code.specs.Compiling.{bodies_code, invariant_code}
use Rattle.cm_eval.specs.declared.code.Code.{Code}

abbrev pub invariant_code_of : List IntDecl → Option Expr → Option (List Instr)
invariant_code_of ints (Some e) = Some (invariant_code ints e)
invariant_code_of ints None = None

-- of its functions, its calls and the invariants of its states
pub record IsCodeOf (t : Tables) (c : Code) : Type 0 where
  pub funs : c.funs ≡ bodies_code t.ints t.funs
  pub calls : c.calls ≡ bodies_code t.ints t.calls
  pub invariants : c.invariants ≡ map (λ d. invariant_code_of t.ints d.inv) t.states
