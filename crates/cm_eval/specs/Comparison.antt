-- The comparison of two values by their form, decision by decision. What is done at a decision, and where
-- the values are of no one type, is the reader's.
use Rattle.std.specs.Prelude.{ℕ, ◌==◌, ltb, ℤ, int_lt, Bool, true, false, List, [], ◌∷◌, Option, Some, None}
use Rattle.std.specs.Prelude.{if◌then◌else◌}
use Rattle.cm_model.specs.Limits.{variant_limit}
use Rattle.cm_value.specs.declared.value.Value.{Value, out-Value}
use Rattle.cm_value.specs.declared.value.Value.TheOpen.{Value-F}
use Rattle.cm_value.specs.declared.value.Value.TheFolds.{fold-Value}

abbrev pub elem_in : Value-F Value → Option ℕ
elem_in (Value-F.Elem n) = Some n
elem_in _ = None

abbrev pub elem_of : Value → Option ℕ
elem_of v = elem_in (out-Value v)

abbrev pub int_in : Value-F Value → Option ℤ
int_in (Value-F.Int n) = Some n
int_in _ = None

abbrev pub int_of : Value → Option ℤ
int_of v = int_in (out-Value v)

-- a number that a variant may have
abbrev pub variant : ℕ → Option ℕ
variant n = if ltb n variant_limit then Some n else None

abbrev pub tag_in : Value-F Value → Option ℕ
tag_in (Value-F.Tag n) = variant n
tag_in _ = None

abbrev pub tag_of : Value → Option ℕ
tag_of v = tag_in (out-Value v)

abbrev pub parts_in : Value-F Value → Option (List Value)
parts_in (Value-F.Rec vs) = Some vs
parts_in _ = None

abbrev pub parts_of : Value → Option (List Value)
parts_of v = parts_in (out-Value v)

-- an option, by its payload
abbrev pub option_in : Value-F Value → Option (Option Value)
option_in Value-F.None = Some None
option_in (Value-F.Some v) = Some (Some v)
option_in _ = None

abbrev pub option_of : Value → Option (Option Value)
option_of v = option_in (out-Value v)

-- 0 equal, 1 different
abbrev pub distinguished : ℕ → ℕ → ℕ
distinguished m n = if m == n then 0 else 1

-- 0 less, 1 equal, 2 greater
abbrev pub ordered : ℤ → ℤ → ℕ
ordered m n = if int_lt m n then 0 else if int_lt n m then 2 else 1

-- 0 none, 1 some
abbrev pub presence : Option Value → ℕ
presence None = 0
presence (Some v) = 1

-- compared with another value, and what is done with the answer
abbrev pub Comparing : Type 0 → Type 0
Comparing X = Value → (Bool → X) → X

abbrev pub or_stop : {X Y : Type 0} → X → Option Y → (Y → X) → X
or_stop stop (Some y) k = k y
or_stop stop None k = stop

-- field by field, until one differs
abbrev pub fields_compared : (X : Type 0) → X → List (Comparing X) → List Value → (Bool → X) → X
fields_compared X stop [] [] k = k true
fields_compared X stop [] (v ∷ vs) k = stop
fields_compared X stop (m ∷ ms) [] k = stop
fields_compared X stop (m ∷ ms) (v ∷ vs) k = m v (λ s. if s then fields_compared X stop ms vs k else k false)

-- of an option's payload with another's, where there are both
abbrev pub payload_compared : (X : Type 0) → Comparing X → Option Value → (Bool → X) → X
payload_compared X m (Some v) k = m v k
payload_compared X m None k = k false

abbrev pub comparison_step : (X : Type 0) → X → (ℕ → (ℕ → X) → X) → Value-F (Comparing X) → Comparing X
comparison_step X stop decide (Value-F.Elem m) y k = or_stop stop (elem_of y)
    (λ n. decide (distinguished m n) (λ d. k (d == 0)))
comparison_step X stop decide (Value-F.Int m) y k = or_stop stop (int_of y) (λ n. decide (ordered m n)
    (λ d. k (d == 1)))
comparison_step X stop decide (Value-F.Tag m) y k =
    or_stop stop (variant m) (λ l. or_stop stop (tag_of y) (λ r. decide l (λ d. decide r (λ e. k (d == e)))))
comparison_step X stop decide (Value-F.Rec ms) y k = or_stop stop (parts_of y) (λ vs. fields_compared X stop ms vs k)
comparison_step X stop decide Value-F.None y k =
    or_stop stop (option_of y) (λ o. decide 0 (λ d. decide (presence o) (λ e. k (d == e))))
comparison_step X stop decide (Value-F.Some m) y k =
    or_stop stop (option_of y) (λ o. decide 1 (λ d. decide (presence o) (λ e. payload_compared X m o k)))

-- two values compared by their type: elements, numbers, variants, options with their payloads, records
abbrev pub comparison : (X : Type 0) → X → (ℕ → (ℕ → X) → X) → Value → Comparing X
comparison X stop decide = fold-Value (Comparing X) (comparison_step X stop decide)
