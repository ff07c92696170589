-- When a cell's invariant is true of a value, and when a state is sound.
use Rattle.std.specs.Prelude.{ℕ, Bool, true, false, List, slice_get, Option, Some, None, IsTrue}
use Rattle.cm_model.specs.Tables.{Tables}
use Rattle.cm_model.specs.declared.ty.IntDecl.{IntDecl}
use Rattle.cm_model.specs.declared.body.Expr.{Expr}
use Rattle.cm_model.specs.declared.body.StateDecl.{StateDecl}
use Rattle.cm_value.specs.declared.value.Value.{Value}
use Rattle.cm_eval.specs.Script.{Replies, Blocks, Decides, Reads, Writes}
use Rattle.cm_eval.specs.Evaluation.{Doing, invariant_of}

-- whether a script that touches no cell comes to a reply
abbrev pub replies : Doing → Bool
replies (Replies v) = true
replies Blocks = false
replies (Decides d k) = replies (k d)
replies (Reads c k) = false
replies (Writes c v k) = false

abbrev pub invariant_holds : List IntDecl → Option Expr → Value → Bool
invariant_holds ints None v = true
invariant_holds ints (Some e) v = replies (invariant_of ints e v)

abbrev pub declared_invariant : Option StateDecl → Option Expr
declared_invariant (Some d) = d.inv
declared_invariant None = None

-- the state has no invariant, or it is true of the value
abbrev pub MeetsInvariant : Tables → ℕ → Value → Type 0
MeetsInvariant t s v = IsTrue (invariant_holds t.ints (declared_invariant (slice_get t.states s)) v)
