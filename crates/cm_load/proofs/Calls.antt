-- The lines of calls, one call after the other.
use Rattle.std.proofs.Common.{arith, ◌≡◌, ℕ, zero, suc, ◌+◌, List, [], ◌∷◌, ◌++◌, flat_map, ap, ◌∙◌}
use Rattle.std.proofs.lemmas.List.{flat_map_more}
use Rattle.std.specs.List.{range_with_len}
use Rattle.cm_load.specs.Text.{call_line, call_lines}

-- so many numbers, and the next one behind them
range_more : (a n next : ℕ) → a + n ≡ next → range_with_len a n ++ next ∷ [] ≡ range_with_len a (suc n)
range_more a zero next e = let is : next ≡ a = omega (arith, e) in ap (λ m. m ∷ []) is
range_more a (suc n) next e = ap (λ ms. a ∷ ms) (range_more (a + 1) n next (omega (arith, e)))

pub one_more : (before : List ℕ) (n : ℕ) → (before ++ call_lines n) ++ call_line n ≡ before ++ call_lines (suc n)
one_more before n = flat_map_more call_line before (range_with_len 0 n) n
    ∙ ap (λ ms. before ++ flat_map call_line ms) (range_more 0 n n (omega arith))
