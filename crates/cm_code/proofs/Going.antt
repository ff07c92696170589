-- Places in code, functions by their numbers, and the bound on steps.
use Rattle.std.proofs.Common.{◌≡◌, ℕ, Bool, true, false, zero, suc, ◌+◌, ◌<◌, ◌≤◌, List, [], ◌∷◌}
use Rattle.std.proofs.Common.{◌++◌, length, take, drop, reverse, Option, Some, None, refl, sym, ap}
use Rattle.std.proofs.Common.{subst, ◌∙◌, add-one, arith, slice_get, append_assoc, drop-drop, ◌⊎◌}
use Rattle.std.proofs.lemmas.List.{append-nil, length-append, length-take}
use Rattle.std.proofs.lemmas.Option.{slice_get_past}
use Rattle.cm_code.specs.declared.instr.Instr.{Instr}
use Rattle.cm_code.specs.declared.event.Event.{Event}
use Rattle.cm_code.specs.declared.event.Did.{Did}
use Rattle.cm_code.specs.declared.event.Did.TheVariants as did
use Rattle.cm_code.specs.declared.event.Then.TheVariants as after
use Rattle.cm_code.specs.declared.event.Frame.{Frame}
use Rattle.cm_code.specs.declared.event.Machine.{Machine}
use Rattle.cm_code.specs.Rules.{Rules}
use Rattle.cm_code.specs.Language.{Called, called, fun_at}
use Rattle.cm_code.specs.Code.{Point, next_of, behind_by, places, instr_of, code_meaning, codes_from}
use Rattle.cm_code.specs.Machine.{code_at, or_empty, with_body, before, places_from, resumed}
use Rattle.cm_code.specs.Machine.{returns, ending, script, told, did_of, did_in, Operates}
use Rattle.cm_code.specs.Steps.{steps_of, steps_from, steps_before, steps_at, steps_in, steps_left, Falls}
use Rattle.cm_code.proofs.Taking.{reverse_push}

-- the body is behind the functions
pub body_last : (funs : List (List Instr)) (body : List Instr) (f : ℕ) → f ≡ length funs
    → slice_get (with_body funs body) f ≡ Some body
body_last funs body f e = ap (slice_get (with_body funs body)) e ∙ here funs
  where
    here : (funs : List (List Instr)) → slice_get (with_body funs body) (length funs) ≡ Some body
    here [] = refl
    here (c ∷ cs) = here cs

pub fun_within : (funs : List (List Instr)) (body : List Instr) (f : ℕ) → f < length funs
    → slice_get (with_body funs body) f ≡ slice_get funs f
fun_within [] body f lt = absurd (omega arith)
fun_within (c ∷ cs) body zero lt = refl
fun_within (c ∷ cs) body (suc f) lt = fun_within cs body f (omega arith)

pub count_bodies : (funs : List (List Instr)) (body : List Instr) → length (with_body funs body) ≡ 1 + length funs
count_bodies funs body = length-append funs (body ∷ []) ∙ omega arith

module _ (V O S : Type 0) (r : Rules V O S) where
  over : (funs : List (Called V S)) (c : List Instr) (n : ℕ)
      → behind_by V O S r (places V O S r funs c []) n ≡ next_of V O S r (places V O S r funs (drop n c) [])
  over funs [] zero = refl
  over funs [] (suc n) = refl
  over funs (i ∷ c) zero = refl
  over funs (i ∷ c) (suc n) = over funs c n

  -- a jump leads to the place that it names
  pub jumps : (codes : List (List Instr)) (f at n : ℕ)
      → behind_by V O S r (places_from V O S r codes f at) n ≡ next_of V O S r (places_from V O S r codes f (at + n))
  jumps codes f at n =
      over (before V O S r codes f) (drop at (code_at codes f)) n
      ∙ ap (λ c. next_of V O S r (places V O S r (before V O S r codes f) c []))
      (drop-drop n at (code_at codes f) ∙ ap (λ k. drop k (code_at codes f)) (omega arith))

  found : (funs : List (Called V S)) (c : List Instr) (n : ℕ) (i : Instr) → slice_get c n ≡ Some i
      → next_of V O S r (places V O S r funs (drop n c) [])
      ≡ instr_of V O S r funs i (places V O S r funs (drop (suc n) c) [])
  found funs [] n i e = absurd (cc)
  found funs (j ∷ c) zero i e =
      let same : j ≡ i = cc in
      ap (λ i. instr_of V O S r funs i (places V O S r funs c [])) same
  found funs (j ∷ c) (suc n) i e = found funs c n i e

  -- the instruction at a place is done there
  pub here : (codes : List (List Instr)) (f at : ℕ) (i : Instr) → slice_get (code_at codes f) at ≡ Some i
      → next_of V O S r (places_from V O S r codes f at)
      ≡ instr_of V O S r (before V O S r codes f) i (places_from V O S r codes f (at + 1))
  here codes f at i e =
      found (before V O S r codes f) (code_at codes f) at i e
      ∙ ap (λ k. instr_of V O S r (before V O S r codes f) i (places_from V O S r codes f k)) (sym (add-one at))

  lost : (funs : List (Called V S)) (c : List Instr) (n : ℕ) → slice_get c n ≡ None
      → next_of V O S r (places V O S r funs (drop n c) []) ≡ (λ ops locals ret. r.blocks)
  lost funs [] zero e = refl
  lost funs [] (suc n) e = refl
  lost funs (j ∷ c) zero e = absurd (cc)
  lost funs (j ∷ c) (suc n) e = lost funs c n e

  -- past the end there is nothing
  pub past : (codes : List (List Instr)) (f at : ℕ) → slice_get (code_at codes f) at ≡ None
      → next_of V O S r (places_from V O S r codes f at) ≡ (λ ops locals ret. r.blocks)
  past codes f at e = lost (before V O S r codes f) (code_at codes f) at e

  more_codes : (fs : List (Called V S)) (cs : List (List Instr))
      → (more : List (Called V S)) × (codes_from V O S r fs cs ≡ fs ++ more) × (length more ≡ length cs)
  more_codes fs [] = ([], sym (append-nil fs), refl)
  more_codes fs (c ∷ cs) =
      let m = code_meaning V O S r fs c in
      let rest = more_codes (fs ++ m ∷ []) cs in
      (m ∷ rest.0, rest.1 ∙ append_assoc fs (m ∷ []) rest.0, ap suc rest.2)

  at_middle : (fs more : List (Called V S)) (m : Called V S) → slice_get (fs ++ m ∷ more) (length fs) ≡ Some m
  at_middle [] more m = refl
  at_middle (b ∷ fs) more m = at_middle fs more m

  count_codes : (fs : List (Called V S)) (cs : List (List Instr))
      → length (codes_from V O S r fs cs) ≡ length fs + length cs
  count_codes fs cs =
      let m = more_codes fs cs in ap length m.1 ∙ length-append fs m.0 ∙ ap (λ n. length fs + n) m.2

  function_from : (fs : List (Called V S)) (cs : List (List Instr)) (g f k : ℕ) → g < f → g < length cs
      → k ≡ length fs + g
      → slice_get (codes_from V O S r fs (take f cs)) k
      ≡ Some (code_meaning V O S r (codes_from V O S r fs (take g cs)) (code_at cs g))
  function_from fs [] g f k lt within e = absurd (omega arith)
  function_from fs (c ∷ cs) g zero k lt within e = absurd (omega arith)
  function_from fs (c ∷ cs) zero (suc f) k lt within e =
      let m = more_codes (fs ++ code_meaning V O S r fs c ∷ []) (take f cs) in
      let here : k ≡ length fs = omega arith in
      rw (here, m.1, append_assoc) (at_middle fs m.0 (code_meaning V O S r fs c))
  function_from fs (c ∷ cs) (suc g) (suc f) k lt within e =
      function_from (fs ++ code_meaning V O S r fs c ∷ []) cs g f k (omega arith) (omega arith)
      (omega (arith, length-append fs (code_meaning V O S r fs c ∷ [])))

  -- a function that is before another
  pub function_at : (codes : List (List Instr)) (g f : ℕ) → g < f → g < length codes
      → fun_at V O S r (before V O S r codes f) g ≡ code_meaning V O S r (before V O S r codes g) (code_at codes g)
  function_at codes g f lt within = ap (called V O S r) (function_from [] codes g f g lt within (omega arith))

  -- and one that is not, or not there
  pub no_function : (codes : List (List Instr)) (g f : ℕ) → (f ≤ g) ⊎ (length codes ≤ g)
      → fun_at V O S r (before V O S r codes f) g ≡ (λ args k. r.blocks)
  no_function codes g f where_ =
      let beyond : length (before V O S r codes f) ≤ g =
      omega (arith, count_codes [] (take f codes), length-take f codes) in
      ap (called V O S r) (slice_get_past (before V O S r codes f) g beyond)

  front_taken : (a b : List (List Instr)) → take (length a) (a ++ b) ≡ a
  front_taken [] b = refl
  front_taken (c ∷ a) b = ap (λ l. c ∷ l) (front_taken a b)

  -- a machine at the start of a body stands for the body
  pub started : (codes : List (List Instr)) (body : List Instr) (f : ℕ) (args : List V) (ops : List O)
      (callers : List (Frame V O))
      → ops ≡ [] → callers ≡ [] → length codes ≡ f
      → script V O S r (with_body codes body)
      (record { top = record { fun = f; at = 0; operands = ops; locals = args }; callers = callers })
      ≡ code_meaning V O S r (codes_from V O S r [] codes) body args r.replies
  started codes body f args ops callers eo ec e =
      let all : List (List Instr) = with_body codes body in
      ap (λ os. script V O S r all
      (record { top = record { fun = f; at = 0; operands = os; locals = args }; callers = callers })) eo
      ∙ ap (λ cs. script V O S r all
      (record { top = record { fun = f; at = 0; operands = []; locals = args }; callers = cs })) ec
      ∙ ap (λ o. next_of V O S r (places V O S r (before V O S r all f) (or_empty o) []) [] args r.replies)
      (body_last codes body f (sym e))
      ∙ ap (λ cs. code_meaning V O S r (codes_from V O S r [] cs) body args r.replies)
      (ap (λ n. take n all) (sym e) ∙ front_taken codes (body ∷ []))

grows : (b : ℕ) (cs : List (List Instr)) → b ≤ steps_from b cs
grows b [] = omega arith
grows b (c ∷ cs) = omega (arith, grows (b + steps_of b c) cs)

within_steps : (codes : List (List Instr)) (g f b : ℕ) → g < f → g < length codes
    → steps_of (steps_from b (take g codes)) (code_at codes g) ≤ steps_from b (take f codes)
within_steps [] g f b lt within = absurd (omega arith)
within_steps (c ∷ cs) g zero b lt within = absurd (omega arith)
within_steps (c ∷ cs) zero (suc f) b lt within = omega (arith, grows (b + steps_of b c) (take f cs))
within_steps (c ∷ cs) (suc g) (suc f) b lt within = within_steps cs g f (b + steps_of b c) (omega arith) (omega arith)

-- a function does no more than what those before another may do
pub callee_steps : (codes : List (List Instr)) (g f : ℕ) → g < f → g < length codes
    → steps_at codes g 0 ≤ steps_before codes f
callee_steps codes g f lt within = within_steps codes g f 0 lt within

pub steps_push : {V O : Type 0} (codes : List (List Instr)) (fs : List (Frame V O)) (f : Frame V O)
    → steps_in codes (fs ++ f ∷ []) ≡ steps_in codes fs + steps_at codes f.fun f.at
steps_push codes [] f = omega arith
steps_push codes (g ∷ fs) f = omega (arith, steps_push codes fs f)

one_step : (b : ℕ) (c : List Instr) (n : ℕ) (i : Instr) → slice_get c n ≡ Some i
    → steps_of b (drop n c) ≡ 1 + b + steps_of b (drop (suc n) c)
one_step b [] n i e = absurd (cc)
one_step b (j ∷ c) zero i e = refl
one_step b (j ∷ c) (suc n) i e = one_step b c n i e

-- an instruction counts
pub step_counts : (codes : List (List Instr)) (f at : ℕ) (i : Instr) → slice_get (code_at codes f) at ≡ Some i
    → steps_at codes f at ≡ 1 + steps_before codes f + steps_at codes f (at + 1)
step_counts codes f at i e =
    one_step (steps_before codes f) (code_at codes f) at i e
    ∙ ap (λ k. 1 + steps_before codes f + steps_at codes f k) (sym (add-one at))

fewer_steps : (b : ℕ) (c : List Instr) (n : ℕ) → steps_of b (drop n c) ≤ steps_of b c
fewer_steps b c zero = omega arith
fewer_steps b [] (suc n) = omega arith
fewer_steps b (i ∷ c) (suc n) = omega (arith, fewer_steps b c n)

-- a jump forward
pub fewer : (codes : List (List Instr)) (f at n : ℕ) → steps_at codes f (at + n) ≤ steps_at codes f at
fewer codes f at n =
    let e : drop n (drop at (code_at codes f)) ≡ drop (at + n) (code_at codes f) =
    drop-drop n at (code_at codes f) ∙ ap (λ k. drop k (code_at codes f)) (omega arith) in
    omega (
      arith,
      fewer_steps (steps_before codes f) (drop at (code_at codes f)) n,
      ap (steps_of (steps_before codes f)) e,
    )

module _ (V O S : Type 0) (r : Rules V O S) where
  -- a call is entered
  pub entered : (codes : List (List Instr)) (m : Machine V O) (g f : ℕ) (args : List V) (t : Frame V O)
      (cs : List (Frame V O))
      → f ≡ g → f < m.top.fun → f < length codes
      → t ≡ record { fun = f; at = 0; operands = []; locals = args } → cs ≡ m.callers ++ m.top ∷ []
      → did_in V O S r codes (did.Calls g args) m ≡ script V O S r codes (record { top = t; callers = cs })
  entered codes m g f args t cs same lt within et ec =
      let k : V → S = returns V O S r codes (m.top ∷ reverse m.callers) in
      ap (λ g. fun_at V O S r (before V O S r codes m.top.fun) g args k) (sym same)
      ∙ ap (λ (h : Called V S). h args k) (function_at V O S r codes f m.top.fun lt within)
      ∙ sym (ap (λ (t : Frame V O). resumed V O S r codes t (reverse t.operands) k) et)
      ∙ sym (ap (λ fs. resumed V O S r codes t (reverse t.operands) (returns V O S r codes fs))
      (ap reverse ec ∙ reverse_push m.callers m.top))

  pub not_entered : (codes : List (List Instr)) (m : Machine V O) (g f : ℕ) (args : List V) → f ≡ g
      → (m.top.fun ≤ f) ⊎ (length codes ≤ f)
      → did_in V O S r codes (did.Calls g args) m ≡ r.blocks
  not_entered codes m g f args same where_ =
      let k : V → S = returns V O S r codes (m.top ∷ reverse m.callers) in
      ap (λ g. fun_at V O S r (before V O S r codes m.top.fun) g args k) (sym same)
      ∙ ap (λ (h : Called V S). h args k) (no_function V O S r codes f m.top.fun where_)

  -- the machine after a jump
  pub over_there : (codes : List (List Instr)) (m : Machine V O) (n to : ℕ) → to ≡ m.top.at + n
      → behind_by V O S r (places_from V O S r codes m.top.fun m.top.at) n (reverse m.top.operands) m.top.locals
      (ending V O S r codes m)
      ≡ script V O S r codes (record m { top = record m.top { at = to } })
  over_there codes m n to j =
      ap (λ (p : Point V O S). p (reverse m.top.operands) m.top.locals (ending V O S r codes m))
      (jumps V O S r codes m.top.fun m.top.at n
      ∙ ap (λ k. next_of V O S r (places_from V O S r codes m.top.fun k)) (sym j))

  -- a bool that leads away
  pub led_away : (codes : List (List Instr)) (m : Machine V O) (n to : ℕ) (b : Bool) → b ≡ false → to ≡ m.top.at + n
      → told V O S r codes m (after.Unless n) b ≡ script V O S r codes (record m { top = record m.top { at = to } })
  led_away codes m n to true e j = absurd (cc)
  led_away codes m n to false e j = over_there codes m n to j

  pub led_true : (codes : List (List Instr)) (m : Machine V O) (n to : ℕ) (b : Bool) → b ≡ true → to ≡ m.top.at + n
      → told V O S r codes m (after.When n) b ≡ script V O S r codes (record m { top = record m.top { at = to } })
  led_true codes m n to true e j = over_there codes m n to j
  led_true codes m n to false e j = absurd (cc)

  -- an instruction was done, and the machine stands behind it
  pub stepping : (codes : List (List Instr)) (m : Machine V O) (i : Instr) (d : Did V O) (ops : List O)
      (locals : List V) (to : ℕ)
      → slice_get (code_at codes m.top.fun) m.top.at ≡ Some i
      → Operates V O S r i m.top.operands m.top.locals d ops locals → to ≡ m.top.at + 1
      → script V O S r codes m
      ≡ did_in V O S r codes d (record m { top = record { fun = m.top.fun; at = to; operands = ops; locals = locals } })
  stepping codes m i d ops locals to e operates j =
      let f : ℕ = m.top.fun in
      let ret : V → S = ending V O S r codes m in
      ap (λ (p : Point V O S). p (reverse m.top.operands) m.top.locals ret) (here V O S r codes f m.top.at i e)
      ∙ operates (before V O S r codes f) (places_from V O S r codes f (m.top.at + 1)) ret
      ∙ ap (λ k. did_of V O S r d (before V O S r codes f) (places_from V O S r codes f k) (reverse ops) locals ret)
      (sym j)

  pub nothing : (codes : List (List Instr)) (m : Machine V O) → slice_get (code_at codes m.top.fun) m.top.at ≡ None
      → script V O S r codes m ≡ r.blocks
  nothing codes m e =
      ap (λ (p : Point V O S). p (reverse m.top.operands) m.top.locals (ending V O S r codes m))
      (past V O S r codes m.top.fun m.top.at e)

pub entered_steps : {V O : Type 0} (codes : List (List Instr)) (m : Machine V O) (f : ℕ) (args : List V) (t : Frame V O)
    (cs : List (Frame V O))
    → f < m.top.fun → f < length codes
    → t ≡ record { fun = f; at = 0; operands = []; locals = args } → cs ≡ m.callers ++ m.top ∷ []
    → steps_left codes (record { top = t; callers = cs }) < 1 + steps_before codes m.top.fun + steps_left codes m
entered_steps {V} {O} codes m f args t cs lt within et ec =
    omega (
      arith,
      ap (λ (t : Frame V O). steps_at codes t.fun t.at) et,
      ap (steps_in codes) ec,
      steps_push codes m.callers m.top,
      callee_steps codes f m.top.fun lt within,
    )

-- a jump brings no more to do
pub jumped_steps : {V O : Type 0} (codes : List (List Instr)) (m : Machine V O) (n to : ℕ) → to ≡ m.top.at + n
    → steps_left codes (record m { top = record m.top { at = to } }) ≤ steps_left codes m
jumped_steps codes m n to j = omega (arith, fewer codes m.top.fun m.top.at n, ap (steps_at codes m.top.fun) j)

pub jumped_within : {V O : Type 0} (codes : List (List Instr)) (m : Machine V O) (n to : ℕ) → to ≡ m.top.at + n
    → steps_left codes (record m { top = record m.top { at = to } })
    < 1 + steps_before codes m.top.fun + steps_left codes m
jumped_within codes m n to j = omega (arith, jumped_steps codes m n to j)

pub stepped_steps : {V O : Type 0} (codes : List (List Instr)) (m : Machine V O) (i : Instr) (ops : List O)
    (locals : List V) (to : ℕ)
    → (e : Option (Event V O)) (new : Machine V O)
    → slice_get (code_at codes m.top.fun) m.top.at ≡ Some i → to ≡ m.top.at + 1
    → Falls codes (1 + steps_before codes m.top.fun
    + steps_left codes (record m { top = record { fun = m.top.fun; at = to; operands = ops; locals = locals } })) e new
    → Falls codes (steps_left codes m) e new
stepped_steps codes m i ops locals to e new is j falls =
    let n : steps_left codes m ≡ 1 + steps_before codes m.top.fun
    + steps_left codes (record m { top = record { fun = m.top.fun; at = to; operands = ops; locals = locals } }) =
    omega (arith, step_counts codes m.top.fun m.top.at i is, ap (steps_at codes m.top.fun) j) in
    subst (λ n. Falls codes n e new) (sym n) falls
