-- The line of an item has no newline and at most 80 bytes.
use Rattle.std.proofs.Common.{arith, ◌≡◌, ◌≢◌, ℕ, ◌+◌, ◌^◌, ◌<◌, ◌≤◌, List, [], ◌∷◌, ◌++◌, codes, decimal, length, map}
use Rattle.std.proofs.Common.{ap, refl, length-append}
use Rattle.std.specs.Char.{digit_value}
use Rattle.std.specs.List.{All, AllByRecursion}
use Rattle.std.proofs.lemmas.List.Elements.{recursion_from_All}
use Rattle.cm_text.specs.Numeral.{IsDigit, hexadecimal, numeral}
use Rattle.cm_text.proofs.Numerals.{numeral_is, numeral_length}
use Rattle.cm_mtrace.proofs.LineTexts.{all_append}
use Rattle.cm_mtrace.specs.inner.Reading.{IsLine}
use Rattle.cm_mtrace.specs.Trace.{IsItem, IsNameByte, Section, items_of, kind_text, line_of, mark_text, trace_lines}
use Rattle.cm_mtrace.specs.declared.item.Item.{Item}
use Rattle.cm_mtrace.specs.declared.item.Item.TheVariants as items
use Rattle.cm_mtrace.specs.declared.item.Kind.{Kind}
use Rattle.cm_mtrace.specs.declared.item.Kind.TheVariants.{Read, Write}
use Rattle.cm_mtrace.specs.declared.item.Who.{Who}
use Rattle.cm_mtrace.specs.declared.item.Who.TheVariants.{A, B, Other}

digits_line : (base : ℕ) (ds : List ℕ) → base ≤ 16 → AllByRecursion (IsDigit base) ds → IsLine ds
digits_line base [] high all = tt
digits_line base (d ∷ ds) high all = (
  λ e. omega (arith, all.0.below, ap digit_value e, high),
  digits_line base ds high all.1,
)

numeral_line : (base n : ℕ) → 2 ≤ base → base ≤ 16 → n < base ^ 64 → IsLine (numeral base n)
numeral_line base n low high fits = digits_line base (numeral base n) high (numeral_is base n low high fits).digits

mark_line : (w : Who) → IsLine (mark_text w)
mark_line A = (omega arith, tt)
mark_line B = (omega arith, tt)
mark_line Other = (omega arith, tt)

mark_length : (w : Who) → length (mark_text w) ≡ 1
mark_length A = refl
mark_length B = refl
mark_length Other = refl

kind_line : (k : Kind) → IsLine (kind_text k)
kind_line Read = (omega arith, tt)
kind_line Write = (omega arith, tt)

kind_length : (k : Kind) → length (kind_text k) ≡ 1
kind_length Read = refl
kind_length Write = refl

-- two fields with a space between
joined_line : (xs ys : List ℕ) → IsLine xs → IsLine ys → IsLine (xs ++ 32 ∷ ys)
joined_line xs ys a b = all_append (λ c. c ≢ 10) xs (32 ∷ ys) a (omega arith, b)

name_line : (name : List ℕ) → AllByRecursion IsNameByte name → IsLine name
name_line [] all = tt
name_line (b ∷ bs) all = (λ e. omega (arith, all.0, e), name_line bs all.1)

-- no newline stands in the line of an item
pub item_line : (item : Item) → IsItem item → IsLine (line_of item)
item_line (items.Test name) is = all_append (λ c. c ≢ 10) (codes "test ") name (
  omega arith,
  (omega arith, (omega arith, (omega arith, (omega arith, tt)))),
)
    (name_line name (recursion_from_All IsNameByte name is.bytes))
item_line (items.Entry e) is =
    joined_line (decimal e.core) _ (numeral_line 10 e.core (omega arith) (omega arith) (omega (arith, is.core)))
    (joined_line (mark_text e.who) _ (mark_line e.who)
    (joined_line (kind_text e.kind) _ (kind_line e.kind)
    (joined_line (hexadecimal e.addr) _ (numeral_line 16 e.addr (omega arith) (omega arith)
    (omega (arith, is.range.some, is.range.last)))
    (numeral_line 10 e.size (omega arith) (omega arith) (omega (arith, is.size))))))

joined_length : (xs ys : List ℕ) (m n : ℕ) → length xs ≤ m → length ys ≤ n → length (xs ++ 32 ∷ ys) ≤ m + 1 + n
joined_length xs ys m n a b = omega (arith, a, b, length-append xs (32 ∷ ys))

-- the line of an item has at most 80 bytes
pub item_length : (item : Item) → IsItem item → length (line_of item) ≤ 80
item_length (items.Test name) is = omega (arith, is.short, length-append (codes "test ") name)
item_length (items.Entry e) is =
    let core = numeral_length 10 4 e.core (omega arith) (omega arith) (omega arith) (omega (arith, is.core)) in
    let addr = numeral_length 16 16 e.addr (omega arith) (omega arith) (omega arith)
    (omega (arith, is.range.some, is.range.last)) in
    let size = numeral_length 10 4 e.size (omega arith) (omega arith) (omega arith) (omega (arith, is.size)) in
    let whole = joined_length (decimal e.core) _ 4 25 core (joined_length (mark_text e.who) _ 1 23
    (omega (arith, mark_length e.who)) (joined_length (kind_text e.kind) _ 1 21 (omega (arith, kind_length e.kind))
    (joined_length (hexadecimal e.addr) (decimal e.size) 16 4 addr size))) in
    omega (arith, whole)

item_lines : (its : List Item) → AllByRecursion IsItem its → AllByRecursion IsLine (map line_of its)
item_lines [] all = tt
item_lines (item ∷ its) all = (item_line item all.0, item_lines its all.1)

-- nor in any line of a trace
pub trace_each : (sections : List Section) → All IsItem (items_of sections)
    → AllByRecursion IsLine (trace_lines sections)
trace_each sections valid = (
  (
    omega arith,
    (omega arith, (omega arith, (omega arith, (omega arith, (omega arith, (omega arith, tt)))))),
  ),
  item_lines (items_of sections) (recursion_from_All IsItem (items_of sections) valid),
)
