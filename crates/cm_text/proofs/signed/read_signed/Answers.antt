use Rattle.std.proofs.Common.{arith, ◌≡◌, ◌≢◌, ◌-◌, ◌∷◌, ℤ, List, ℕ, FitsSigned, drop, length, subst, sym, take}
use Rattle.std.specs.Fmt.{signed_decimal}
use Rattle.std.specs.Int.{w64}
use Rattle.std.proofs.lemmas.Grind.{common_steps}
use Rattle.std.proofs.lemmas.Result.{on_err_weaker}
use Rattle.cm_text.proofs.Signs.{behind_sign}
use Rattle.cm_text.proofs.signed.read_signed.Goals as goal

pub returns-in-45-clause-not_number : goal.returns-in-45-clause-not_number
returns-in-45-clause-not_number c =
    let digits = take (length c.args.text.now - 1) (drop 1 c.args.text.now) in
    let signed : c.args.text.now ≡ 45 ∷ digits = grind (arith, common_steps) in
    let P : List ℕ → Type 0 = λ t. (n : ℤ) → FitsSigned w64 n → t ≢ signed_decimal n in
    on_err_weaker c.read_below_nought.result (λ none. subst P (sym signed) (behind_sign digits none))
    c.read_below_nought.ensures.not_number
