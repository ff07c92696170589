-- How long the text is.
use Rattle.std.proofs.Common.{arith, ℕ, zero, suc, ◌+◌, ◌*◌, ◌-◌, ◌^◌, ◌<◌, ◌≤◌, List, flat_map}
use Rattle.std.proofs.Common.{codes, decimal, length}
use Rattle.std.proofs.lemmas.List.{length-append}
use Rattle.std.proofs.lemmas.Fmt.{length-decimal-le}
use Rattle.std.specs.List.{range_with_len}
use Rattle.cm_load.specs.Text.{most_calls, map_of, write_text, body_text, call_line}
use Rattle.cm_load.specs.Text.{text_of}

numeral_short : (n : ℕ) → n < 100 → length (decimal n) ≤ 2
numeral_short n low = length-decimal-le 2 n (omega arith) (omega arith) (omega arith)

write_short : (m : ℕ) (key : List ℕ) → m < 100 → length (write_text m key) ≤ 11 + length key
write_short m key low = let digits = numeral_short m low in grind (arith, length-append, digits)

body_short : (m : ℕ) → m < 100 → length (body_text m) ≤ 40
body_short m low =
    let first = write_short m (codes "k") low in
    let second = write_short m (codes "l") low in
    grind (arith, length-append, first, second)

call_short : (call : ℕ) → call < 100 → length (call_line call) ≤ 80
call_short call low =
    let digits = numeral_short call low in
    let body = body_short (map_of call) (omega arith) in
    grind (arith, length-append, digits, body)

calls_short : (a n : ℕ) → a + n ≤ 100 → length (flat_map call_line (range_with_len a n)) ≤ 80 * n
calls_short a zero low = omega arith
calls_short a (suc n) low =
    let first = call_short a (omega arith) in
    let others = calls_short (a + 1) n (omega arith) in
    omega (arith, length-append (call_line a) (flat_map call_line (range_with_len (a + 1) n)), first, others)

pub is_short : (n : ℕ) → n ≤ most_calls → length (text_of n) < 2 ^ 32 - 1
unfolding text_of
is_short n few = let calls = calls_short 0 n (omega arith) in grind (arith, length-append, calls)
