-- What a part of a tree is told to be: a value, and the rules that fail in it, in the order of the text.
use Rattle.std.specs.Prelude.{◌≡◌, ℕ, Bool, List, [], ◌∷◌, ◌++◌, Option, Some, None, Result, Ok, Err, if◌then◌else◌}
use Rattle.cm_model.specs.declared.place.Place.{Place}
use Rattle.cm_typing.specs.declared.fault.TypeFault.{TypeFault}
use Rattle.cm_typing.specs.declared.fault.TypeFault.TheVariants.{Rule, Memory}

-- a rule that fails, by its number, and the place of the node where it does
pub record Broken : Type 0 where
  pub code : ℕ
  pub place : Place

abbrev pub Told : Type 0 → Type 0
Told X = X × List Broken

-- a value, and no fault
abbrev pub fine : {X : Type 0} → X → Told X
fine x = (x, [])

-- the faults of the first, and then those of what its value makes of it
abbrev pub given : {X Y : Type 0} → Told X → (X → Told Y) → Told Y
given t next = let u = next t.0 in (u.0, t.1 ++ u.1)

abbrev pub broken : ℕ → Place → List Broken
broken code at = (record { code = code; place = at }) ∷ []

-- a rule that fails, whatever the value
abbrev pub refused : {X : Type 0} → X → ℕ → Place → Told X
refused x code at = (x, broken code at)

-- a rule that fails, and nothing else
abbrev pub fails : ℕ → Place → Told (Unit {0})
fails code at = (tt, broken code at)

-- a rule with this number, asked at a place
abbrev pub rule : Bool → ℕ → Place → Told (Unit {0})
rule holds code at = (tt, if holds then [] else broken code at)

abbrev pub first : List Broken → Option Broken
first [] = None
first (b ∷ bs) = Some b

-- The answer to what is told: its value where there is no fault, and else the first fault; want of memory aside.
abbrev pub Answers : {X Y : Type 0} → Told X → (Y → X) → Result Y TypeFault → Type 0
Answers t value (Ok y) = t ≡ (value y, [])
Answers t value (Err (Rule code at)) = first t.1 ≡ Some (record { code = code; place = at })
Answers t value (Err Memory) = Unit {0}
