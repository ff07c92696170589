use Rattle.std.proofs.Common.{sym, subst, take}
use Rattle.std.specs.List.{AllPass}
use Rattle.cm_tokens.specs.Bytes.{is_name_byte}
use Rattle.cm_tokens.proofs.Runs.{run_passes}
use Rattle.cm_tokens.proofs.word.word.Goals as goal

pub word_token-requires : goal.word_token-requires
word_token-requires c = subst (λ n. AllPass is_name_byte (take n c.args.text.now)) (sym c.name_len-len.ensures)
    (run_passes is_name_byte c.args.text.now)
