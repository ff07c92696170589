-- What expressions, statements, functions and calls do: one rule for each form, operands from left to right.
use Rattle.std.specs.Prelude.{ℕ, ◌==◌, ltb, ℤ, ◌+ℤ◌, int_lt, Bool, true, false, not, List, [], ◌∷◌, ◌++◌, map}
use Rattle.std.specs.Prelude.{slice_get, slice_set, length, Option, Some, None, if◌then◌else◌}
use Rattle.cm_model.specs.Tables.{Tables}
use Rattle.cm_model.specs.declared.ty.IntDecl.{IntDecl}
use Rattle.cm_model.specs.declared.body.Op.{Op}
use Rattle.cm_model.specs.declared.body.Op.TheVariants as op
use Rattle.cm_model.specs.declared.body.Expr.{Expr}
use Rattle.cm_model.specs.declared.body.Expr.TheOpen.{Expr-F, SetField-F}
use Rattle.cm_model.specs.declared.body.Expr.TheFolds.{fold-Expr}
use Rattle.cm_model.specs.declared.body.Stmt.{Stmt}
use Rattle.cm_model.specs.declared.body.Stmt.TheOpen.{Stmt-F}
use Rattle.cm_model.specs.declared.body.Stmt.TheFolds.{fold-Stmt}
use Rattle.cm_model.specs.declared.body.Call.{Call}
use Rattle.cm_value.specs.declared.value.Value.{Value}
use Rattle.cm_value.specs.declared.value.Value.TheVariants as value
use Rattle.cm_eval.specs.declared.log.CellName.{CellName}
use Rattle.cm_eval.specs.declared.operand.Operand.{Operand}
use Rattle.cm_eval.specs.declared.operand.Operand.TheVariants as operand
use Rattle.cm_eval.specs.Script.{Script, Replies, Blocks, Decides, Reads, Writes, given}
use Rattle.cm_eval.specs.Comparison.{int_of, tag_of, parts_of, option_of, ordered, presence, comparison}

-- on values a decision is its number
abbrev pub Doing : Type 0
Doing = Script ℕ CellName Value

abbrev pub value_of : Operand → Option Value
value_of (operand.Plain v) = Some v
value_of (operand.Number n) = None

abbrev pub number_of : Operand → Option ℤ
number_of (operand.Number n) = Some n
number_of (operand.Plain v) = int_of v

-- the variant that an operand is, by its number
abbrev pub choice_of : Operand → Option ℕ
choice_of (operand.Plain v) = tag_of v
choice_of (operand.Number n) = None

abbrev pub variant_of : Bool → ℕ
variant_of b = if b then 1 else 0

abbrev pub bool : Bool → Value
bool b = value.Tag (variant_of b)

abbrev pub flag : Bool → Operand
flag b = operand.Plain (bool b)

abbrev pub inspects : Operand → (Bool → Doing) → Doing
inspects o k = given (choice_of o) (λ n. Decides n (λ d. k (d == 1)))

-- 0 below, 1 in range, 2 above
abbrev pub ranged : IntDecl → ℤ → ℕ
ranged d n = if int_lt n d.lo then 0 else if int_lt d.hi n then 2 else 1

abbrev pub orders : Operand → Operand → (ℕ → Doing) → Doing
orders x y k = given (number_of x) (λ m. given (number_of y) (λ n. Decides (ordered m n) k))

-- two values by their type, or two numbers
abbrev pub compares : Operand → Operand → (Bool → Doing) → Doing
compares (operand.Plain v) (operand.Plain w) k = comparison Doing Blocks Decides v w k
compares (operand.Plain v) (operand.Number n) k = orders (operand.Plain v) (operand.Number n) (λ d. k (d == 1))
compares (operand.Number m) y k = orders (operand.Number m) y (λ d. k (d == 1))

abbrev pub compares_by : Op → Operand → Operand → (Bool → Doing) → Doing
compares_by op.Eq x y k = compares x y k
compares_by op.Ne x y k = compares x y (λ s. k (not s))
compares_by op.Lt x y k = orders x y (λ d. k (d == 0))
compares_by op.Le x y k = orders x y (λ d. k (not (d == 2)))
compares_by op.Gt x y k = orders x y (λ d. k (d == 2))
compares_by op.Ge x y k = orders x y (λ d. k (not (d == 0)))

-- from the locals, and what is done with what comes out
abbrev pub Meaning : Type 0
Meaning = List Value → (Operand → Doing) → Doing

-- a value is wanted here
abbrev pub valued : Meaning → List Value → (Value → Doing) → Doing
valued m locals k = m locals (λ o. given (value_of o) k)

-- a number is wanted here
abbrev pub numbered : Meaning → List Value → (ℤ → Doing) → Doing
numbered m locals k = m locals (λ o. given (number_of o) k)

-- a bool is wanted here, and it is inspected
abbrev pub inspected : Meaning → List Value → (Bool → Doing) → Doing
inspected m locals k = m locals (λ o. inspects o k)

-- what a function does with its arguments, and what is done with its reply
abbrev pub Called : Type 0
Called = List Value → (Value → Doing) → Doing

abbrev pub called : Option Called → Called
called (Some f) args k = f args k
called None args k = Blocks

-- a function by its number, if it is there
abbrev pub fun_at : List Called → ℕ → Called
fun_at funs i = called (slice_get funs i)

-- the values so far and those of the rest, in order
abbrev pub values_of : List Value → List Meaning → List Value → (List Value → Doing) → Doing
values_of values [] locals k = k values
values_of values (m ∷ ms) locals k = valued m locals (λ v. values_of (values ++ v ∷ []) ms locals k)

-- in order until one is false
abbrev pub all_of : List Meaning → List Value → (Bool → Doing) → Doing
all_of [] locals k = k true
all_of (m ∷ ms) locals k = inspected m locals (λ s. if s then all_of ms locals k else k false)

-- in order until one is true
abbrev pub any_of : List Meaning → List Value → (Bool → Doing) → Doing
any_of [] locals k = k false
any_of (m ∷ ms) locals k = inspected m locals (λ s. if s then k true else any_of ms locals k)

abbrev pub named : ℕ → Option Value → CellName
named s key = record { state = s; key = key }

-- the cell with this key
abbrev pub cell_of : ℕ → Option Meaning → List Value → (CellName → Doing) → Doing
cell_of s None locals k = k (named s None)
cell_of s (Some m) locals k = valued m locals (λ v. k (named s (Some v)))

abbrev pub field_in : Option (List Value) → ℕ → Option Value
field_in (Some vs) i = slice_get vs i
field_in None i = None

-- the value at the end of a path of fields
abbrev pub value_at : Option Value → List ℕ → Option Value
value_at v [] = v
value_at (Some v) (i ∷ is) = value_at (field_in (parts_of v) i) is
value_at None (i ∷ is) = None

abbrev pub fields_with : Option (List Value) → ℕ → Value → Option Value
fields_with (Some vs) i w = if ltb i (length vs) then Some (value.Rec (slice_set vs i w)) else None
fields_with None i w = None

-- a record with another value in one field
abbrev pub with_field : Value → ℕ → Value → Option Value
with_field v i w = fields_with (parts_of v) i w

-- the field and what is done for its new value
abbrev pub SetMeaning : Type 0
SetMeaning = ℕ × Meaning

-- the new values in order, each put into the record
abbrev pub sets_of : Value → List SetMeaning → List Value → (Value → Doing) → Doing
sets_of v [] locals k = k v
sets_of v (m ∷ ms) locals k = valued m.1 locals (λ w. given (with_field v m.0 w) (λ u. sets_of u ms locals k))

abbrev pub local_of : ℕ → Meaning
local_of i locals k = given (slice_get locals i) (λ v. k (operand.Plain v))

abbrev pub read_of : ℕ → Option Meaning → Meaning
read_of s key locals k = cell_of s key locals (λ c. Reads c (λ v. k (operand.Plain v)))

abbrev pub fields_of : Meaning → List ℕ → Meaning
fields_of m path locals k = valued m locals (λ v. given (value_at (Some v) path) (λ w. k (operand.Plain w)))

abbrev pub replaced_of : Value → List SetMeaning → Meaning
replaced_of v sets locals k = sets_of v sets locals (λ w. k (operand.Plain w))

abbrev pub with_of : Meaning → List SetMeaning → Meaning
with_of m sets locals k = valued m locals (λ v. replaced_of v sets locals k)

abbrev pub make_of : List Meaning → Meaning
make_of parts locals k = values_of [] parts locals (λ vs. k (operand.Plain (value.Rec vs)))

abbrev pub some_of : Meaning → Meaning
some_of m locals k = valued m locals (λ v. k (operand.Plain (value.Some v)))

abbrev pub shift_of : Meaning → ℤ → Meaning
shift_of m by locals k = numbered m locals (λ n. k (operand.Number (n +ℤ by)))

-- a number as one of an integer type: blocked where it is none
abbrev pub into_type : Option IntDecl → ℤ → (Operand → Doing) → Doing
into_type d n k = given d (λ t. Decides (ranged t n) (λ r. if r == 1 then k (operand.Plain (value.Int n)) else Blocks))

abbrev pub into_of : Option IntDecl → Meaning → Meaning
into_of d m locals k = numbered m locals (λ n. into_type d n k)

abbrev pub compare_of : Op → Meaning → Meaning → Meaning
compare_of o left right locals k = left locals (λ x. right locals (λ y. compares_by o x y (λ s. k (flag s))))

abbrev pub not_of : Meaning → Meaning
not_of m locals k = inspected m locals (λ s. k (flag (not s)))

abbrev pub apply_of : Called → List Meaning → Meaning
apply_of f args locals k = values_of [] args locals (λ vs. f vs (λ v. k (operand.Plain v)))

abbrev pub meaning_step : List IntDecl → List Called → Expr-F Meaning SetMeaning → Meaning
meaning_step ints funs (Expr-F.Num n) locals k = k (operand.Number n)
meaning_step ints funs (Expr-F.Tag e i) locals k = k (operand.Plain (value.Tag i))
meaning_step ints funs (Expr-F.Local i) locals k = local_of i locals k
meaning_step ints funs (Expr-F.Cell s key) locals k = read_of s key locals k
meaning_step ints funs (Expr-F.Fields e path) locals k = fields_of e path locals k
meaning_step ints funs (Expr-F.With e sets) locals k = with_of e sets locals k
meaning_step ints funs (Expr-F.Make r parts) locals k = make_of parts locals k
meaning_step ints funs (Expr-F.NoneOf t) locals k = k (operand.Plain value.None)
meaning_step ints funs (Expr-F.SomeOf e) locals k = some_of e locals k
meaning_step ints funs (Expr-F.Shift e by) locals k = shift_of e by locals k
meaning_step ints funs (Expr-F.Into i e) locals k = into_of (slice_get ints i) e locals k
meaning_step ints funs (Expr-F.Compare o left right) locals k = compare_of o left right locals k
meaning_step ints funs (Expr-F.All es) locals k = all_of es locals (λ s. k (flag s))
meaning_step ints funs (Expr-F.Any es) locals k = any_of es locals (λ s. k (flag s))
meaning_step ints funs (Expr-F.Not e) locals k = not_of e locals k
meaning_step ints funs (Expr-F.Apply f args) locals k = apply_of (fun_at funs f) args locals k

abbrev pub set_step : SetField-F Meaning SetMeaning → SetMeaning
set_step x = (x.field, x.value)

-- an expression over these integer types and functions
abbrev pub meaning_of : List IntDecl → List Called → Expr → Meaning
meaning_of ints funs = fold-Expr Meaning SetMeaning (meaning_step ints funs) set_step

-- from the locals, what is done at a return, and what is done after it
abbrev pub Turn : Type 0
Turn = List Value → (Value → Doing) → (List Value → Doing) → Doing

abbrev pub block_of : List Turn → Turn
block_of [] locals ret next = next locals
block_of (m ∷ ms) locals ret next = m locals ret (λ after. block_of ms after ret next)

abbrev pub key_meaning : List IntDecl → List Called → Option Expr → Option Meaning
key_meaning ints funs None = None
key_meaning ints funs (Some e) = Some (meaning_of ints funs e)

-- a block whose locals end with it
abbrev pub branch_of : List Turn → Turn
branch_of ms locals ret next = block_of ms locals ret (λ _. next locals)

-- the same with a payload as its first local
abbrev pub some_branch_of : Value → List Turn → Turn
some_branch_of v ms locals ret next = block_of ms (locals ++ v ∷ []) ret (λ _. next locals)

-- an option is inspected; its payload, where it has one, is what is gone on with
abbrev pub opens : Option (Option Value) → (Option Value → Doing) → Doing
opens o k = given o (λ p. Decides (presence p) (λ d. if d == 1 then given p (λ v. k (Some v)) else k None))

abbrev pub opened : Meaning → List Value → (Option Value → Doing) → Doing
opened m locals k = valued m locals (λ v. opens (option_of v) k)

abbrev pub case_branch : List Turn → List Turn → Option Value → Turn
case_branch left right (Some v) = some_branch_of v right
case_branch left right None = branch_of left

abbrev pub let_of : Meaning → Turn
let_of m locals ret next = valued m locals (λ v. next (locals ++ v ∷ []))

-- the right side of an assignment, and the write
abbrev pub write_of : CellName → Meaning → Turn
write_of c m locals ret next = valued m locals (λ v. Writes c v (next locals))

abbrev pub set_of : ℕ → Option Meaning → Meaning → Turn
set_of s key m locals ret next = cell_of s key locals (λ c. write_of c m locals ret next)

abbrev pub if_of : Meaning → List Turn → List Turn → Turn
if_of m left right locals ret next =
    inspected m locals (λ s. if s then branch_of left locals ret next else branch_of right locals ret next)

abbrev pub case_of : Meaning → List Turn → List Turn → Turn
case_of m left right locals ret next = opened m locals (λ o. case_branch left right o locals ret next)

abbrev pub assume_of : Meaning → Turn
assume_of m locals ret next = inspected m locals (λ s. if s then next locals else Blocks)

abbrev pub return_of : Meaning → Turn
return_of m locals ret next = valued m locals ret

abbrev pub turn_step : List IntDecl → List Called → Stmt-F Turn → Turn
turn_step ints funs (Stmt-F.Let e) locals ret next = let_of (meaning_of ints funs e) locals ret next
turn_step ints funs (Stmt-F.Set s key e) locals ret next = set_of s (key_meaning ints funs key) (meaning_of ints funs e)
    locals ret next
turn_step ints funs (Stmt-F.If c left right) locals ret next = if_of (meaning_of ints funs c) left right locals ret next
turn_step ints funs (Stmt-F.Case e left right) locals ret next = case_of (meaning_of ints funs e) left
    right locals ret next
turn_step ints funs (Stmt-F.Assume c) locals ret next = assume_of (meaning_of ints funs c) locals ret next
turn_step ints funs (Stmt-F.Return e) locals ret next = return_of (meaning_of ints funs e) locals ret next

abbrev pub turn_of : List IntDecl → List Called → Stmt → Turn
turn_of ints funs = fold-Stmt Turn (turn_step ints funs)

-- a body over these functions
abbrev pub body_of : List IntDecl → List Called → List Stmt → Called
body_of ints funs body args k = block_of (map (turn_of ints funs) body) args k (λ _. Blocks)

-- the meanings of functions, after those of the functions before them
abbrev pub meanings_from : List IntDecl → List Called → List Call → List Called
meanings_from ints before [] = before
meanings_from ints before (f ∷ fs) = meanings_from ints (before ++ body_of ints before f.body ∷ []) fs

unfoldable pub meanings : List IntDecl → List Call → List Called
meanings ints = meanings_from ints []

-- a call by its number, on its arguments
abbrev pub call_of : Tables → ℕ → List Value → Doing
call_of t i args = given (slice_get t.calls i) (λ d. body_of t.ints (meanings t.ints t.funs) d.body args Replies)

-- one and the same reply where the bool is true
abbrev pub replies_if : Bool → Doing
replies_if s = if s then Replies (bool true) else Blocks

-- what a cell's invariant does with the cell's value: its bool is inspected, and it replies where that is true
abbrev pub invariant_of : List IntDecl → Expr → Value → Doing
invariant_of ints e v = inspected (meaning_of ints [] e) (v ∷ []) replies_if
