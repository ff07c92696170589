-- One negation more, and the names of the functions.
use Rattle.std.proofs.Common.{◌≡◌, ℕ, ◌+◌, ◌/◌, ◌%◌, ◌<◌, [], ◌∷◌, IsUtf8, refl, ap, add-one, arith}
use Rattle.std.proofs.lemmas.Str.{IsUtf8-from_ascii}
use Rattle.std.proofs.lemmas.Str.Ascii.{IsAscii-nil, IsAscii-cons}
use Rattle.cm_model.specs.declared.body.Expr.{Expr}
use Rattle.cm_model.specs.declared.body.Expr.TheVariants as expr
use Rattle.cm_samples.specs.Depth.{negations, fun_name}

pub negations-none : (e : Expr) → negations 0 e ≡ e
unfolding negations
negations-none e = refl

pub negations-more : (n : ℕ) (e : Expr) → negations (n + 1) e ≡ expr.Not (negations n e)
unfolding negations
negations-more n e = ap (λ k. negations k e) (add-one n)

pub fun_name-utf8 : (n : ℕ) → n < 64 → IsUtf8 (fun_name n)
fun_name-utf8 n few =
    let tens : 48 + n / 10 < 128 = omega (arith, few) in
    let units : 48 + n % 10 < 128 = omega (arith, few) in
    let last = IsAscii-cons (48 + n % 10) [] units IsAscii-nil in
    let digits = IsAscii-cons (48 + n / 10) ((48 + n % 10) ∷ []) tens last in
    IsUtf8-from_ascii (fun_name n) (IsAscii-cons 102 ((48 + n / 10) ∷ (48 + n % 10) ∷ []) (omega arith) digits)
