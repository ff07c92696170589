-- What expressions, statements and functions do, whatever the values are: one rule for each form, operands from
-- left to right.
use Rattle.std.specs.Prelude.{ℕ, ◌==◌, Bool, true, false, not, List, [], ◌∷◌, ◌++◌}
use Rattle.std.specs.Prelude.{map, slice_get, Option, Some, None, if◌then◌else◌}
use Rattle.cm_model.specs.declared.ty.IntDecl.{IntDecl}
use Rattle.cm_model.specs.declared.body.Op.{Op}
use Rattle.cm_model.specs.declared.body.Op.TheVariants as op
use Rattle.cm_model.specs.declared.body.Expr.{Expr}
use Rattle.cm_model.specs.declared.body.Expr.TheOpen.{Expr-F, SetField-F}
use Rattle.cm_model.specs.declared.body.Expr.TheFolds.{fold-Expr}
use Rattle.cm_model.specs.declared.body.Stmt.{Stmt}
use Rattle.cm_model.specs.declared.body.Stmt.TheOpen.{Stmt-F}
use Rattle.cm_model.specs.declared.body.Stmt.TheFolds.{fold-Stmt}
use Rattle.cm_model.specs.declared.body.Call.{Call}
use Rattle.cm_code.specs.Rules.{Rules}

-- the meanings of the forms
module _ (V O S : Type 0) where
  -- from the locals, and what is done with what comes out
  abbrev pub Meaning : Type 0
  Meaning = List V → (O → S) → S

  -- the field of a `with` and what is done for its new value
  abbrev pub SetMeaning : Type 0
  SetMeaning = ℕ × Meaning

module _ (V S : Type 0) where
  -- what a function does with its arguments, and what is done with its reply
  abbrev pub Called : Type 0
  Called = List V → (V → S) → S

  -- from the locals, what is done at a return, and what is done after it
  abbrev pub Turn : Type 0
  Turn = List V → (V → S) → (List V → S) → S

  abbrev pub block_of : List Turn → Turn
  block_of [] locals ret next = next locals
  block_of (m ∷ ms) locals ret next = m locals ret (λ after. block_of ms after ret next)

  -- a block whose locals end with it
  abbrev pub branch_of : List Turn → Turn
  branch_of ms locals ret next = block_of ms locals ret (λ _. next locals)

  -- the same with a payload as its first local
  abbrev pub some_branch_of : V → List Turn → Turn
  some_branch_of v ms locals ret next = block_of ms (locals ++ v ∷ []) ret (λ _. next locals)

  abbrev pub case_branch : List Turn → List Turn → Option V → Turn
  case_branch left right (Some v) = some_branch_of v right
  case_branch left right None = branch_of left

module _ (V O S : Type 0) (r : Rules V O S) where
  abbrev pub given : {X : Type 0} → Option X → (X → S) → S
  given (Some x) k = k x
  given None k = r.blocks

  -- a value, a bool is wanted here
  abbrev pub valued : Meaning V O S → List V → (V → S) → S
  valued m locals k = m locals (λ o. given (r.value o) k)

  abbrev pub inspected : Meaning V O S → List V → (Bool → S) → S
  inspected m locals k = m locals (λ o. r.inspects o k)

  abbrev pub called : Option (Called V S) → Called V S
  called (Some f) args k = f args k
  called None args k = r.blocks

  -- a function by its number, if it is there
  abbrev pub fun_at : List (Called V S) → ℕ → Called V S
  fun_at funs i = called (slice_get funs i)

  -- the values so far and those of the rest, in order
  abbrev pub values_of : List V → List (Meaning V O S) → List V → (List V → S) → S
  values_of values [] locals k = k values
  values_of values (m ∷ ms) locals k = valued m locals (λ v. values_of (values ++ v ∷ []) ms locals k)

  -- in order until one is false
  abbrev pub all_of : List (Meaning V O S) → List V → (Bool → S) → S
  all_of [] locals k = k true
  all_of (m ∷ ms) locals k = inspected m locals (λ s. if s then all_of ms locals k else k false)

  -- in order until one is true
  abbrev pub any_of : List (Meaning V O S) → List V → (Bool → S) → S
  any_of [] locals k = k false
  any_of (m ∷ ms) locals k = inspected m locals (λ s. if s then k true else any_of ms locals k)

  -- the key of a cell
  abbrev pub keyed : Option (Meaning V O S) → List V → (Option V → S) → S
  keyed None locals k = k None
  keyed (Some m) locals k = valued m locals (λ v. k (Some v))

  abbrev pub field_in : Option V → ℕ → Option V
  field_in (Some v) i = r.field v i
  field_in None i = None

  -- the value at the end of a path of fields
  abbrev pub value_at : Option V → List ℕ → Option V
  value_at o [] = o
  value_at o (i ∷ is) = value_at (field_in o i) is

  -- the new values in order, each put into the record
  abbrev pub sets_of : V → List (SetMeaning V O S) → List V → (V → S) → S
  sets_of v [] locals k = k v
  sets_of v (m ∷ ms) locals k = valued m.1 locals (λ w. given (r.with_field v m.0 w) (λ u. sets_of u ms locals k))

  abbrev pub compares_by : Op → O → O → (Bool → S) → S
  compares_by op.Eq x y k = r.compares x y k
  compares_by op.Ne x y k = r.compares x y (λ s. k (not s))
  compares_by op.Lt x y k = r.orders x y (λ d. k (d == 0))
  compares_by op.Le x y k = r.orders x y (λ d. k (not (d == 2)))
  compares_by op.Gt x y k = r.orders x y (λ d. k (d == 2))
  compares_by op.Ge x y k = r.orders x y (λ d. k (not (d == 0)))

  abbrev pub into_type : Option IntDecl → O → (V → S) → S
  into_type d o k = given d (λ t. r.into t.lo t.hi o k)

  abbrev pub meaning_step : List IntDecl → List (Called V S) → Expr-F (Meaning V O S) (SetMeaning V O S) → Meaning V O S
  meaning_step ints funs (Expr-F.Num n) locals k = k (r.number n)
  meaning_step ints funs (Expr-F.Tag e i) locals k = k (r.plain (r.tag e i))
  meaning_step ints funs (Expr-F.Local i) locals k = given (slice_get locals i) (λ v. k (r.plain v))
  meaning_step ints funs (Expr-F.Cell s key) locals k = keyed key locals (λ c. r.reads s c (λ v. k (r.plain v)))
  meaning_step ints funs (Expr-F.Fields e path) locals k =
      valued e locals (λ v. given (value_at (Some v) path) (λ w. k (r.plain w)))
  meaning_step ints funs (Expr-F.With e sets) locals k =
      valued e locals (λ v. sets_of v sets locals (λ w. k (r.plain w)))
  meaning_step ints funs (Expr-F.Make n parts) locals k = values_of [] parts locals (λ vs. k (r.plain (r.make vs)))
  meaning_step ints funs (Expr-F.NoneOf t) locals k = k (r.plain r.nothing)
  meaning_step ints funs (Expr-F.SomeOf e) locals k = valued e locals (λ v. k (r.plain (r.some v)))
  meaning_step ints funs (Expr-F.Shift e by) locals k = e locals (λ o. given (r.shift o by) k)
  meaning_step ints funs (Expr-F.Into i e) locals k =
      e locals (λ o. into_type (slice_get ints i) o (λ v. k (r.plain v)))
  meaning_step ints funs (Expr-F.Compare o left right) locals k =
      left locals (λ x. right locals (λ y. compares_by o x y (λ s. k (r.plain (r.flag s)))))
  meaning_step ints funs (Expr-F.All es) locals k = all_of es locals (λ s. k (r.plain (r.flag s)))
  meaning_step ints funs (Expr-F.Any es) locals k = any_of es locals (λ s. k (r.plain (r.flag s)))
  meaning_step ints funs (Expr-F.Not e) locals k = inspected e locals (λ s. k (r.plain (r.flag (not s))))
  meaning_step ints funs (Expr-F.Apply f args) locals k =
      values_of [] args locals (λ vs. fun_at funs f vs (λ v. k (r.plain v)))

  abbrev pub set_step : SetField-F (Meaning V O S) (SetMeaning V O S) → SetMeaning V O S
  set_step x = (x.field, x.value)

  -- an expression over these integer types and functions
  abbrev pub meaning_of : List IntDecl → List (Called V S) → Expr → Meaning V O S
  meaning_of ints funs = fold-Expr (Meaning V O S) (SetMeaning V O S) (meaning_step ints funs) set_step

  abbrev pub key_meaning : List IntDecl → List (Called V S) → Option Expr → Option (Meaning V O S)
  key_meaning ints funs None = None
  key_meaning ints funs (Some e) = Some (meaning_of ints funs e)

  abbrev pub turn_step : List IntDecl → List (Called V S) → Stmt-F (Turn V S) → Turn V S
  turn_step ints funs (Stmt-F.Let e) locals ret next =
      valued (meaning_of ints funs e) locals (λ v. next (locals ++ v ∷ []))
  turn_step ints funs (Stmt-F.Set s key e) locals ret next =
      keyed (key_meaning ints funs key) locals (λ c.
      valued (meaning_of ints funs e) locals (λ v. r.writes s c v (next locals)))
  turn_step ints funs (Stmt-F.If c left right) locals ret next =
      inspected (meaning_of ints funs c) locals (λ s.
      if s then branch_of V S left locals ret next else branch_of V S right locals ret next)
  turn_step ints funs (Stmt-F.Case e left right) locals ret next =
      valued (meaning_of ints funs e) locals (λ v. r.opens v (λ o. case_branch V S left right o locals ret next))
  turn_step ints funs (Stmt-F.Assume c) locals ret next =
      inspected (meaning_of ints funs c) locals (λ s. if s then next locals else r.blocks)
  turn_step ints funs (Stmt-F.Return e) locals ret next = valued (meaning_of ints funs e) locals ret

  abbrev pub turn_of : List IntDecl → List (Called V S) → Stmt → Turn V S
  turn_of ints funs = fold-Stmt (Turn V S) (turn_step ints funs)

  -- a body over these functions
  abbrev pub body_of : List IntDecl → List (Called V S) → List Stmt → Called V S
  body_of ints funs body args k = block_of V S (map (turn_of ints funs) body) args k (λ _. r.blocks)

  -- the meanings of functions, after those of the functions before them
  abbrev pub meanings_from : List IntDecl → List (Called V S) → List Call → List (Called V S)
  meanings_from ints before [] = before
  meanings_from ints before (f ∷ fs) = meanings_from ints (before ++ body_of ints before f.body ∷ []) fs

  unfoldable pub meanings : List IntDecl → List Call → List (Called V S)
  meanings ints = meanings_from ints []

  -- what a cell's invariant does with the cell's value: its bool is inspected, and the same is replied where that is
  -- true
  abbrev pub invariant_of : List IntDecl → Expr → V → S
  invariant_of ints e v =
      inspected (meaning_of ints [] e) (v ∷ []) (λ s. if s then r.replies (r.flag true) else r.blocks)
