-- When a literal, a case and a condition hold of a world.
use Rattle.std.specs.Prelude.{ℕ, ℤ, int_le, int_lt, Bool, true, false, not, ◌&&◌, ◌==◌, List, Option, Some, None, IsTrue}
use Rattle.std.specs.List.{list_all, list_any}
use Rattle.std.specs.Ordering.{int_eq}
use Rattle.cm_model.specs.Tables.{Tables}
use Rattle.cm_term.specs.Symbols.{Roots}
use Rattle.cm_eval.specs.declared.log.CellName.{CellName}
use Rattle.cm_world.specs.declared.world.World.{World}
use Rattle.cm_cond.specs.declared.literal.Ord3.{Ord3}
use Rattle.cm_cond.specs.declared.literal.Ord3.TheVariants as ord
use Rattle.cm_cond.specs.declared.literal.Literal.{Literal}
use Rattle.cm_cond.specs.declared.literal.Literal.TheVariants as literal
use Rattle.cm_cond.specs.declared.report.Case.{Case}
use Rattle.cm_cond.specs.declared.report.Condition.{Condition}
use Rattle.cm_cond.specs.Values.{roots_on, element_of, number_of, variant_of, presence_of, raised}
use Rattle.cm_cond.specs.Keys.{cells_on, initial_values}

-- both are there and have it so
abbrev pub both : {X : Type 0} → (X → X → Bool) → Option X → Option X → Bool
both f (Some x) (Some y) = f x y
both f (Some x) None = false
both f None o = false

abbrev pub it_is : {X : Type 0} → (X → Bool) → Option X → Bool
it_is f (Some x) = f x
it_is f None = false

abbrev pub stands_so : Ord3 → ℤ → ℤ → Bool
stands_so ord.Less m n = int_lt m n
stands_so ord.Equal m n = int_eq m n
stands_so ord.Greater m n = int_lt n m

abbrev pub same_number : ℕ → ℕ → Bool
same_number m n = m == n

abbrev pub other_number : ℕ → ℕ → Bool
other_number m n = not (m == n)

abbrev pub is_from : ℤ → ℤ → ℤ → Bool
is_from lo hi n = int_le lo n && int_le n hi

-- its symbols have values, and what is written is so
abbrev pub literal_holds : Roots → Literal → Bool
literal_holds r (literal.Same x y) = both same_number (element_of r x) (element_of r y)
literal_holds r (literal.Differ x y) = both other_number (element_of r x) (element_of r y)
literal_holds r (literal.Order x plus op y) = both (stands_so op) (raised (number_of r x) plus) (number_of r y)
literal_holds r (literal.Against x op n) = it_is (λ m. stands_so op m n) (number_of r x)
literal_holds r (literal.Within x plus lo hi) = it_is (is_from lo hi) (raised (number_of r x) plus)
literal_holds r (literal.Tag x index) = it_is (λ i. i == index) (variant_of r x)
literal_holds r (literal.IsNone x) = it_is not (presence_of r x)
literal_holds r (literal.IsSome x) = it_is (λ b. b) (presence_of r x)

abbrev pub has_value : Option CellName → Bool
has_value (Some c) = true
has_value None = false

-- each key has a value, and each literal is true
abbrev pub case_holds : Tables → World → Case → Bool
case_holds t w c =
    list_all has_value (cells_on t w c.cells)
    && list_all (literal_holds (roots_on w (initial_values t w c.cells))) c.literals

abbrev pub CaseHolds : Tables → Case → World → Type 0
CaseHolds t c w = IsTrue (case_holds t w c)

-- one of its cases does
abbrev pub ConditionHolds : Tables → Condition → World → Type 0
ConditionHolds t c w = IsTrue (list_any (case_holds t w) c.cases)
