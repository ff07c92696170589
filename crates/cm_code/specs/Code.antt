-- Flat code: its meaning is a fold from its end.
use Rattle.std.specs.Prelude.{ℕ, suc, zero, ◌-◌, Bool, true, false, not, List, [], ◌∷◌, ◌++◌}
use Rattle.std.specs.Prelude.{length, take, Option, Some, None, slice_get, if◌then◌else◌}
use Rattle.cm_code.specs.declared.instr.Instr.{Instr}
use Rattle.cm_code.specs.declared.instr.Instr.TheVariants as instr
use Rattle.cm_code.specs.Rules.{Rules}
use Rattle.cm_code.specs.Language.{Called, given, fun_at, compares_by}

module _ (V O S : Type 0) where
  -- a place in code: from the operands, the topmost first, the locals, and what is done at a return
  abbrev pub Point : Type 0
  Point = List O → List V → (V → S) → S

module _ (V O S : Type 0) (r : Rules V O S) where
  abbrev pub point : Option (Point V O S) → Point V O S
  point (Some p) = p
  point None = λ ops locals ret. r.blocks

  -- the n-th of the places behind
  abbrev pub behind_by : List (Point V O S) → ℕ → Point V O S
  behind_by ps n = point (slice_get ps n)

  -- the next of them
  abbrev pub next_of : List (Point V O S) → Point V O S
  next_of ps = behind_by ps 0

  -- the next of them, with a value as another operand
  abbrev pub next_with : List (Point V O S) → V → Point V O S
  next_with ps v ops locals ret = next_of ps (r.plain v ∷ ops) locals ret

  -- with the topmost operand
  abbrev pub one : List O → (O → List O → S) → S
  one [] k = r.blocks
  one (o ∷ ops) k = k o ops

  -- which is a value
  abbrev pub one_value : List O → (V → List O → S) → S
  one_value ops k = one ops (λ o rest. given V O S r (r.value o) (λ v. k v rest))

  -- with the two topmost, the lower one first
  abbrev pub two : List O → (O → O → List O → S) → S
  two ops k = one ops (λ y under. one under (λ x rest. k x y rest))

  -- with a key, where there is one
  abbrev pub key_on : Bool → List O → (Option V → List O → S) → S
  key_on false ops k = k None ops
  key_on true ops k = one_value ops (λ v rest. k (Some v) rest)

  -- with the n topmost, which are values, in the order in which they came
  abbrev pub many : ℕ → List O → List V → (List V → List O → S) → S
  many zero ops args k = k args ops
  many (suc n) ops args k = one_value ops (λ v rest. many n rest (v ∷ args) k)

  -- with a value in a field of the record below it
  abbrev pub replaced : ℕ → List O → (V → List O → S) → S
  replaced i ops k =
      one_value ops (λ w under. one_value under (λ v rest. given V O S r (r.with_field v i w) (λ u. k u rest)))

  -- where an option has a payload it is the last local, and else there is a jump
  abbrev pub opened : ℕ → List (Point V O S) → List O → List V → (V → S) → Option V → S
  opened n behind ops locals ret (Some v) = next_of behind ops (locals ++ v ∷ []) ret
  opened n behind ops locals ret None = behind_by behind n ops locals ret

  abbrev pub instr_of : List (Called V S) → Instr → List (Point V O S) → Point V O S
  instr_of funs (instr.Number n) behind ops locals ret = next_of behind (r.number n ∷ ops) locals ret
  instr_of funs (instr.Tag e i) behind ops locals ret = next_with behind (r.tag e i) ops locals ret
  instr_of funs (instr.Flag b) behind ops locals ret = next_with behind (r.flag b) ops locals ret
  instr_of funs instr.Nothing behind ops locals ret = next_with behind r.nothing ops locals ret
  instr_of funs (instr.Local i) behind ops locals ret =
      given V O S r (slice_get locals i) (λ v. next_with behind v ops locals ret)
  instr_of funs instr.Valued behind ops locals ret = one_value ops (λ v rest. next_with behind v rest locals ret)
  instr_of funs instr.Some behind ops locals ret = one_value ops (λ v rest. next_with behind (r.some v) rest locals ret)
  instr_of funs (instr.Make n) behind ops locals ret =
      many n ops [] (λ vs rest. next_with behind (r.make vs) rest locals ret)
  instr_of funs (instr.Field i) behind ops locals ret =
      one_value ops (λ v rest. given V O S r (r.field v i) (λ w. next_with behind w rest locals ret))
  instr_of funs (instr.SetField i) behind ops locals ret = replaced i ops (λ u rest. next_with behind u rest locals ret)
  instr_of funs (instr.Shift by) behind ops locals ret =
      one ops (λ o rest. given V O S r (r.shift o by) (λ p. next_of behind (p ∷ rest) locals ret))
  instr_of funs (instr.Into lo hi) behind ops locals ret =
      one ops (λ o rest. r.into lo hi o (λ v. next_with behind v rest locals ret))
  instr_of funs (instr.Compare op) behind ops locals ret =
      two ops (λ x y rest. compares_by V O S r op x y (λ s. next_with behind (r.flag s) rest locals ret))
  instr_of funs instr.Not behind ops locals ret =
      one ops (λ o rest. r.inspects o (λ s. next_with behind (r.flag (not s)) rest locals ret))
  instr_of funs (instr.Unless n) behind ops locals ret =
      one ops (λ o rest. r.inspects o (λ s.
      if s then next_of behind rest locals ret else behind_by behind n rest locals ret))
  instr_of funs (instr.When n) behind ops locals ret =
      one ops (λ o rest. r.inspects o (λ s.
      if s then behind_by behind n rest locals ret else next_of behind rest locals ret))
  instr_of funs (instr.Jump n) behind ops locals ret = behind_by behind n ops locals ret
  instr_of funs (instr.Read s keyed) behind ops locals ret =
      key_on keyed ops (λ c rest. r.reads s c (λ v. next_with behind v rest locals ret))
  instr_of funs (instr.Apply f n) behind ops locals ret =
      many n ops [] (λ args rest. fun_at V O S r funs f args (λ v. next_with behind v rest locals ret))
  instr_of funs instr.Let behind ops locals ret = one_value ops (λ v rest. next_of behind rest (locals ++ v ∷ []) ret)
  instr_of funs (instr.Leave n) behind ops locals ret = next_of behind ops (take (length locals - n) locals) ret
  instr_of funs (instr.Write s keyed) behind ops locals ret =
      one_value ops (λ v under. key_on keyed under (λ c rest. r.writes s c v (next_of behind rest locals ret)))
  instr_of funs (instr.Open n) behind ops locals ret =
      one_value ops (λ v rest. r.opens v (opened n behind rest locals ret))
  instr_of funs instr.Assume behind ops locals ret =
      one ops (λ o rest. r.inspects o (λ s. if s then next_of behind rest locals ret else r.blocks))
  instr_of funs instr.Return behind ops locals ret = one_value ops (λ v rest. ret v)
  instr_of funs instr.Block behind ops locals ret = r.blocks

  abbrev pub on_top : List (Called V S) → Instr → List (Point V O S) → List (Point V O S)
  on_top funs i behind = instr_of funs i behind ∷ behind

  -- the places of code, and those behind it
  abbrev pub places : List (Called V S) → List Instr → List (Point V O S) → List (Point V O S)
  places funs [] behind = behind
  places funs (i ∷ is) behind = on_top funs i (places funs is behind)

  -- what code does from its start
  abbrev pub code_meaning : List (Called V S) → List Instr → Called V S
  code_meaning funs code args ret = next_of (places funs code []) [] args ret

  -- the meanings of functions by their code, after those of the functions before them
  abbrev pub codes_from : List (Called V S) → List (List Instr) → List (Called V S)
  codes_from before [] = before
  codes_from before (c ∷ cs) = codes_from (before ++ code_meaning before c ∷ []) cs
