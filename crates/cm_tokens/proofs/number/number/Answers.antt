use Rattle.std.proofs.Common.{sym, subst, take}
use Rattle.std.specs.Char.{is_ascii_digit}
use Rattle.std.specs.List.{AllPass}
use Rattle.cm_tokens.proofs.Runs.{run_passes}
use Rattle.cm_tokens.proofs.number.number.Goals as goal

pub number_token-requires : goal.number_token-requires
number_token-requires c = subst (λ n. AllPass is_ascii_digit (take n c.args.text.now)) (sym c.digits_len-len.ensures)
    (run_passes is_ascii_digit c.args.text.now)
