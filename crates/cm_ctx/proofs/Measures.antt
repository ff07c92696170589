-- That making a term ends: how much there is to make.
use Rattle.std.proofs.Common.{ℕ, zero, suc, ◌+◌, ◌*◌, ◌<◌, ◌≤◌, List, [], ◌∷◌, take, length, get_or}
use Rattle.std.proofs.Common.{arith}
use Rattle.cm_model.specs.declared.ty.Ty.{size-Ty}
use Rattle.cm_model.specs.declared.ty.Part.{Part}
use Rattle.cm_model.specs.declared.ty.RecDecl.{RecDecl}

abbrev pub sizes : List Part → ℕ
sizes [] = 0
sizes (p ∷ ps) = size-Ty p.ty + sizes ps

abbrev pub load : List RecDecl → ℕ
load [] = 0
load (d ∷ ds) = (2 + 2 * sizes d.fields) + load ds

pub load_at : (ds : List RecDecl) (r : ℕ) (e : RecDecl) → r < length ds
    → load (take r ds) + (2 + 2 * sizes (get_or ds r e).fields) ≤ load ds
load_at [] r e h = absurd (omega arith)
load_at (d ∷ ds) zero e h = omega arith
load_at (d ∷ ds) (suc r) e h = let rest = load_at ds r e (omega arith) in omega arith

pub size_at : (ps : List Part) (i : ℕ) (p : Part) → i < length ps → size-Ty (get_or ps i p).ty ≤ sizes ps
size_at [] i p h = absurd (omega arith)
size_at (q ∷ ps) zero p h = omega arith
size_at (q ∷ ps) (suc i) p h = let rest = size_at ps i p (omega arith) in omega arith
