-- Code as it is written.
use Rattle.std.proofs.Common.{◌≡◌, true, false, List, [], length, map, ◌∷◌, ◌++◌, ap, if◌then◌else◌}
use Rattle.cm_code.specs.declared.instr.Instr.TheVariants as instr
use Rattle.std.proofs.lemmas.List.{length-map}
use Rattle.cm_model.specs.declared.ty.IntDecl.{IntDecl}
use Rattle.cm_model.specs.declared.body.Expr.{Expr}
use Rattle.cm_code.specs.Compiling.{Coded, valued_code, coded_of}

pub valued_bare : (c : Coded) → c.bare ≡ true → valued_code c ≡ c.code ++ instr.Valued ∷ []
valued_bare c e = ap (λ b. if b then c.code ++ instr.Valued ∷ [] else c.code) e

pub valued_else : (c : Coded) → c.bare ≡ false → valued_code c ≡ c.code
valued_else c e = ap (λ b. if b then c.code ++ instr.Valued ∷ [] else c.code) e

pub same_count : (ints : List IntDecl) (es : List Expr) → length (map (coded_of ints) es) ≡ length es
same_count ints es = length-map es (coded_of ints)
