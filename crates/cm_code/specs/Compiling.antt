-- The code of each form.
use Rattle.std.specs.Prelude.{ℕ, suc, zero, ◌+◌, Bool, true, false, List, [], ◌∷◌, ◌++◌}
use Rattle.std.specs.Prelude.{length, map, Option, Some, None, slice_get, if◌then◌else◌}
use Rattle.cm_model.specs.declared.ty.IntDecl.{IntDecl}
use Rattle.cm_model.specs.declared.body.Expr.{Expr}
use Rattle.cm_model.specs.declared.body.Expr.TheOpen.{Expr-F, SetField-F}
use Rattle.cm_model.specs.declared.body.Expr.TheFolds.{fold-Expr}
use Rattle.cm_model.specs.declared.body.Stmt.{Stmt}
use Rattle.cm_model.specs.declared.body.Stmt.TheOpen.{Stmt-F}
use Rattle.cm_model.specs.declared.body.Stmt.TheFolds.{fold-Stmt}
use Rattle.cm_model.specs.declared.body.Call.{Call}
use Rattle.cm_code.specs.declared.instr.Instr.{Instr}
use Rattle.cm_code.specs.declared.instr.Instr.TheVariants as instr
use Rattle.cm_code.specs.declared.instr.Piece.{Piece}

-- the code of an expression, and whether what it leaves may be a number of no type
pub record Coded : Type 0 where
  pub code : List Instr
  pub bare : Bool

abbrev pub coded : List Instr → Coded
coded c = record { code = c; bare = false }

-- where a value is wanted
abbrev pub valued_code : Coded → List Instr
valued_code c = if c.bare then c.code ++ instr.Valued ∷ [] else c.code

-- one after the other, each a value
abbrev pub joined : List Coded → List Instr
joined [] = []
joined (c ∷ cs) = valued_code c ++ joined cs

-- tests in order, each of which may lead to the last of the two instructions at the end
abbrev pub tests : (ℕ → Instr) → List Coded → List Instr
tests jump [] = []
tests jump (c ∷ cs) = c.code ++ jump (length (tests jump cs) + 2) ∷ tests jump cs

-- one bool where the tests end, and the other where one of them leads
abbrev pub ends : Bool → Bool → List Instr
ends b other = instr.Flag b ∷ instr.Jump 1 ∷ instr.Flag other ∷ []

-- the field of a `with`, and the code of its value
abbrev pub SetCode : Type 0
SetCode = ℕ × Coded

abbrev pub sets_code : List SetCode → List Instr
sets_code [] = []
sets_code (s ∷ ss) = s.1.code ++ instr.SetField s.0 ∷ sets_code ss

abbrev pub has_key : Option Coded → Bool
has_key None = false
has_key (Some c) = true

abbrev pub key_code : Option Coded → List Instr
key_code None = []
key_code (Some c) = valued_code c

abbrev pub into_code : Option IntDecl → Instr
into_code (Some d) = instr.Into d.lo d.hi
into_code None = instr.Block

abbrev pub code_step : List IntDecl → Expr-F Coded SetCode → Coded
code_step ints (Expr-F.Num n) = record { code = instr.Number n ∷ []; bare = true }
code_step ints (Expr-F.Tag e i) = coded (instr.Tag e i ∷ [])
code_step ints (Expr-F.Local i) = coded (instr.Local i ∷ [])
code_step ints (Expr-F.Cell s key) = coded (key_code key ++ instr.Read s (has_key key) ∷ [])
code_step ints (Expr-F.Fields e path) = coded (valued_code e ++ map instr.Field path)
code_step ints (Expr-F.With e sets) = coded (valued_code e ++ sets_code sets)
code_step ints (Expr-F.Make n parts) = coded (joined parts ++ instr.Make (length parts) ∷ [])
code_step ints (Expr-F.NoneOf t) = coded (instr.Nothing ∷ [])
code_step ints (Expr-F.SomeOf e) = coded (e.code ++ instr.Some ∷ [])
code_step ints (Expr-F.Shift e by) = record { code = e.code ++ instr.Shift by ∷ []; bare = true }
code_step ints (Expr-F.Into i e) = coded (e.code ++ into_code (slice_get ints i) ∷ [])
code_step ints (Expr-F.Compare o left right) = coded (left.code ++ (right.code ++ instr.Compare o ∷ []))
code_step ints (Expr-F.All es) = coded (tests instr.Unless es ++ ends true false)
code_step ints (Expr-F.Any es) = coded (tests instr.When es ++ ends false true)
code_step ints (Expr-F.Not e) = coded (e.code ++ instr.Not ∷ [])
code_step ints (Expr-F.Apply f args) = coded (joined args ++ instr.Apply f (length args) ∷ [])

abbrev pub set_code : SetField-F Coded SetCode → SetCode
set_code x = (x.field, x.value)

abbrev pub coded_of : List IntDecl → Expr → Coded
coded_of ints = fold-Expr Coded SetCode (code_step ints) set_code

-- the code of an expression
abbrev pub code_of : List IntDecl → Expr → List Instr
code_of ints e = (coded_of ints e).code

abbrev pub coded_key : List IntDecl → Option Expr → Option Coded
coded_key ints None = None
coded_key ints (Some e) = Some (coded_of ints e)

-- code, and how many locals are more after it
abbrev pub piece : List Instr → ℕ → Piece
piece c n = record { code = c; lets = n }

abbrev pub pieces : List Piece → Piece
pieces [] = piece [] 0
pieces (p ∷ ps) = piece (p.code ++ (pieces ps).code) (p.lets + (pieces ps).lets)

abbrev pub leave : ℕ → List Instr
leave zero = []
leave (suc n) = instr.Leave (suc n) ∷ []

-- a block that gives back its locals at its end, and so many that it found
abbrev pub left_code : Piece → ℕ → List Instr
left_code p found = p.code ++ leave (p.lets + found)

-- two blocks, of which the second is jumped to
abbrev pub either_code : (ℕ → Instr) → List Instr → List Instr → List Instr
either_code jump left right = jump (length left + 1) ∷ (left ++ instr.Jump (length right) ∷ right)

abbrev pub piece_step : List IntDecl → Stmt-F Piece → Piece
piece_step ints (Stmt-F.Let e) = piece (code_of ints e ++ instr.Let ∷ []) 1
piece_step ints (Stmt-F.Set s key e) =
    piece (key_code (coded_key ints key) ++ (code_of ints e ++ instr.Write s (has_key (coded_key ints key)) ∷ [])) 0
piece_step ints (Stmt-F.If c left right) =
    piece (code_of ints c ++ either_code instr.Unless (left_code (pieces left) 0) (left_code (pieces right) 0)) 0
piece_step ints (Stmt-F.Case e left right) =
    piece (code_of ints e ++ either_code instr.Open (left_code (pieces right) 1) (left_code (pieces left) 0)) 0
piece_step ints (Stmt-F.Assume c) = piece (code_of ints c ++ instr.Assume ∷ []) 0
piece_step ints (Stmt-F.Return e) = piece (code_of ints e ++ instr.Return ∷ []) 0

abbrev pub piece_of : List IntDecl → Stmt → Piece
piece_of ints = fold-Stmt Piece (piece_step ints)

-- the code of a body
abbrev pub body_code : List IntDecl → List Stmt → List Instr
body_code ints body = (pieces (map (piece_of ints) body)).code

-- the codes of functions or calls
abbrev pub bodies_code : List IntDecl → List Call → List (List Instr)
bodies_code ints = map (λ f. body_code ints f.body)

-- the code of a cell's invariant, whose value is local 0
abbrev pub invariant_code : List IntDecl → Expr → List Instr
invariant_code ints e = code_of ints e ++ instr.Assume ∷ instr.Flag true ∷ instr.Return ∷ []
