-- What the definitions give for small codes.
use Rattle.std.proofs.Common.{◌≡◌, ℕ, true, false, List, [], ◌∷◌, refl, if◌then◌else◌}
use Rattle.cm_model.specs.declared.body.Expr.TheOpen.{Expr-F}
use Rattle.cm_code.specs.declared.instr.Instr.{Instr}
use Rattle.cm_code.specs.declared.instr.Instr.TheVariants as instr
use Rattle.cm_code.specs.Rules.{Rules}
use Rattle.cm_code.specs.Language.{Called}
use Rattle.cm_code.specs.Code.{Point, next_of, next_with, places}
use Rattle.cm_code.specs.Compiling.{Coded, coded, code_step}
use Rattle.cm_code.specs.Steps.{steps_of, steps_before}

-- `a and b`, where a and b are the first two parameters
abbrev both : List Instr
both =
    instr.Local 0 ∷ instr.Unless 4 ∷ instr.Local 1 ∷ instr.Unless 2
    ∷ instr.Flag true ∷ instr.Jump 1 ∷ instr.Flag false ∷ []

abbrev parameter : ℕ → Coded
parameter i = coded (instr.Local i ∷ [])

its_code : (code_step [] (Expr-F.All (parameter 0 ∷ parameter 1 ∷ []))).code ≡ both
its_code = refl

-- b is inspected where a is true, and true comes out where both are
its_meaning : (V O S : Type 0) (r : Rules V O S) (funs : List (Called V S)) (behind : List (Point V O S))
    → (ops : List O) (a b : V) (ret : V → S)
    → next_of V O S r (places V O S r funs both behind) ops (a ∷ b ∷ []) ret
    ≡ r.inspects (r.plain a) (λ s.
    if s then r.inspects (r.plain b) (λ t.
    if t then next_with V O S r behind (r.flag true) ops (a ∷ b ∷ []) ret
    else next_with V O S r behind (r.flag false) ops (a ∷ b ∷ []) ret)
    else next_with V O S r behind (r.flag false) ops (a ∷ b ∷ []) ret)
its_meaning V O S r funs behind ops a b ret = refl

-- functions of two and of three instructions, and an instruction of a body that may call them
abbrev two_functions : List (List Instr)
two_functions =
    (instr.Flag true ∷ instr.Return ∷ []) ∷ (instr.Local 0 ∷ instr.Apply 0 1 ∷ instr.Return ∷ []) ∷ []

may_do : steps_before two_functions 1 ≡ 2
may_do = refl

may_do_both : steps_before two_functions 2 ≡ 11
may_do_both = refl

counts : steps_of (steps_before two_functions 2) (instr.Block ∷ []) ≡ 12
counts = refl
