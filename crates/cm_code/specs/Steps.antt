-- A bound on the instructions that a machine still does: each counts as one and all that the functions before its
-- own may do.
use Rattle.std.specs.Prelude.{◌<◌, ℕ, ◌+◌, List, [], ◌∷◌, drop, take, Option, Some}
use Rattle.cm_code.specs.declared.instr.Instr.{Instr}
use Rattle.cm_code.specs.declared.event.Event.{Event}
use Rattle.cm_code.specs.declared.event.Event.TheVariants as event
use Rattle.cm_code.specs.declared.event.Frame.{Frame}
use Rattle.cm_code.specs.declared.event.Machine.{Machine}
use Rattle.cm_code.specs.Machine.{code_at}

-- where each counts so much more than one
abbrev pub steps_of : ℕ → List Instr → ℕ
steps_of b [] = 0
steps_of b (i ∷ is) = 1 + b + steps_of b is

-- of functions, after those that do so much
abbrev pub steps_from : ℕ → List (List Instr) → ℕ
steps_from b [] = b
steps_from b (c ∷ cs) = steps_from (b + steps_of b c) cs

-- of the functions before one
abbrev pub steps_before : List (List Instr) → ℕ → ℕ
steps_before codes f = steps_from 0 (take f codes)

-- of a function from a place on
abbrev pub steps_at : List (List Instr) → ℕ → ℕ → ℕ
steps_at codes f n = steps_of (steps_before codes f) (drop n (code_at codes f))

abbrev pub steps_in : {V O : Type 0} → List (List Instr) → List (Frame V O) → ℕ
steps_in codes [] = 0
steps_in codes (f ∷ fs) = steps_at codes f.fun f.at + steps_in codes fs

abbrev pub steps_left : {V O : Type 0} → List (List Instr) → Machine V O → ℕ
steps_left codes m = steps_at codes m.top.fun m.top.at + steps_in codes m.callers

-- there is less to do, unless the machine is blocked
abbrev pub Falls : {V O : Type 0} → List (List Instr) → ℕ → Option (Event V O) → Machine V O → Type 0
Falls codes n (Some event.Blocks) m = Unit {0}
Falls codes n _ m = steps_left codes m < n
