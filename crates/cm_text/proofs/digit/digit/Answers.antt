use Rattle.std.proofs.Common.{◌≡◌, ℕ, ◌==◌, ◌<◌, ◌≤◌, ◌&&◌, Bool, true, false, nat_lt, map, cond, get_or, refl, ap, ◌∙◌}
use Rattle.std.proofs.Common.{arith}
use Rattle.std.proofs.lemmas.List.FromFn.{get_or-map-range_with_len}
use Rattle.std.proofs.lemmas.Bool.{eqb-true, eq-eqb, lt-ltb}
use Rattle.std.specs.List.{range_with_len}
use Rattle.std.specs.Char.{digit_value}
use Rattle.std.specs.Fmt.{digit_glyph}
use Rattle.cm_text.specs.Numeral.{IsDigit}
use Rattle.cm_text.specs.declared.digit.TheConstants.{VALUES}
use Rattle.cm_text.proofs.digit.digit.Goals as goal

-- the value of a digit in base 16, and 255 at other bytes
abbrev value_at : ℕ → ℕ
value_at b = cond (nat_lt (digit_value b) 16 && (digit_glyph false (digit_value b) == b)) (digit_value b) 255

table_is : VALUES ≡ map value_at (range_with_len 0 256)
table_is = refl

read : (b : ℕ) → b < 256 → get_or VALUES b 0 ≡ value_at b
read b h = ap (λ t. get_or t b 0) table_is ∙ get_or-map-range_with_len value_at 0 256 b b 0 h (omega arith)

both : (s t : Bool) (v r : ℕ) → r ≡ cond (s && t) v 255 → r < 16 → (s ≡ true) × (t ≡ true) × (r ≡ v)
both true true v r h lt = (refl, refl, h)
both true false v r h lt = absurd (omega (arith, h, lt))
both false true v r h lt = absurd (omega (arith, h, lt))
both false false v r h lt = absurd (omega (arith, h, lt))

found : (base b r : ℕ) → base ≤ 16 → r ≡ value_at b → r < base → IsDigit base b × (r ≡ digit_value b)
found base b r high h lt =
    let parts = both (nat_lt (digit_value b) 16) (digit_glyph false (digit_value b) == b) (digit_value b)
    r h (omega (arith, high, lt)) in (
      record { below = omega (arith, parts.2, lt); lower = eqb-true (digit_glyph false (digit_value b)) b parts.1 },
      parts.2,
    )

one : (s t : Bool) (v r : ℕ) → r ≡ cond (s && t) v 255 → s ≡ true → t ≡ true → r ≡ v
one true true v r h a b = h
one true false v r h a b = cc
one false true v r h a b = cc
one false false v r h a b = cc

missing : (base b r : ℕ) → base ≤ 16 → r ≡ value_at b → base ≤ r → IsDigit base b → ⊥
missing base b r high h le d =
    let same = one (nat_lt (digit_value b) 16) (digit_glyph false (digit_value b) == b) (digit_value b)
    r h (lt-ltb (digit_value b) 16 (omega (arith, d.below, high))) (eq-eqb (digit_glyph false (digit_value b))
    b d.lower) in
    omega (arith, same, d.below, le)

pub returns-then-value-base : goal.returns-then-value-base
returns-then-value-base c =
    found c.args.base c.args.byte c.from-value.result c.requires.high (c.from-value.ensures
    ∙ rw c.from.ensures (read c.args.byte (omega arith))) c.if-value-base.true

pub returns-else-value-base : goal.returns-else-value-base
returns-else-value-base c =
    missing c.args.base c.args.byte c.from-value.result c.requires.high (c.from-value.ensures
    ∙ rw c.from.ensures (read c.args.byte (omega arith))) c.if-value-base.false
