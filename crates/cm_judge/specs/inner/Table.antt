-- The table of a judge: where it may have a line, and what its records keep as they are moved and put together.
use Rattle.std.specs.Prelude.{◌≡◌, ◌≢◌, ◌↔◌, ℕ, ◌+◌, ◌-◌, ◌*◌, ◌/◌, ◌%◌, ◌^◌, ◌<◌, ◌≤◌, ◌⊎◌, ◌++◌, [], ◌∷◌, All, Bool}
use Rattle.std.specs.Prelude.{true, List, Contains, length, slice_index_or, min}
use Rattle.cm_mtrace.specs.declared.item.Entry.{Entry}
use Rattle.cm_mtrace.specs.Lines.{Covers}
use Rattle.cm_mtrace.specs.declared.item.Kind.{Kind}
use Rattle.cm_mtrace.specs.declared.item.Who.{Who}
use Rattle.cm_judge.specs.Conflicts.{IsConflictLine}
use Rattle.cm_judge.specs.Judge.{KeepLine, StandsFor}
use Rattle.cm_judge.specs.Summary.{cores_of, no_cores, with_core}
use Rattle.cm_judge.specs.declared.line.Lines.{Lines}
use Rattle.cm_judge.specs.declared.slots.Record.{Record}
use Rattle.cm_judge.specs.declared.slots.Place.{Place}
use Rattle.cm_judge.specs.declared.slots.Place.TheVariants.{Held, Free, Nowhere}

-- the first slot that may have the line, of so many slots
unfoldable pub first_slot : ℕ → ℕ → ℕ
first_slot line slots = (line / 64 * 0x9e37_79b9_7f4a_7c15) % 2 ^ 64 / 2 ^ 32 * min (slots - 256) 0xffff_ffff / 2 ^ 32

-- the slots from the first that may have the line up to this one have other lines
pub record IsPassed (slots : List Record) (line k : ℕ) : Type 0 where
  pub may : first_slot line (length slots) ≤ k
  pub others : (j : ℕ) (d : Record) → first_slot line (length slots) ≤ j → j < k
      → ((slice_index_or slots j d).line % 64 ≡ 0) × ((slice_index_or slots j d).line ≢ line)

-- the slot has the line, and those before it have others
pub record HoldsFirst (slots : List Record) (line k : ℕ) : Type 0 where
  pub in_table : k < length slots
  pub passed : IsPassed slots line k
  pub here : (d : Record) → (slice_index_or slots k d).line ≡ line

-- the slot is free, and those before it have other lines
pub record IsFreeFor (slots : List Record) (line k : ℕ) : Type 0 where
  pub in_table : k < length slots
  pub passed : IsPassed slots line k
  pub free : (d : Record) → (slice_index_or slots k d).line % 64 ≢ 0

-- the place has the line, or is free for it
abbrev pub IsPlaceFor : List Record → ℕ → Place → Type 0
IsPlaceFor slots line (Held k) = HoldsFirst slots line k
IsPlaceFor slots line (Free k) = IsFreeFor slots line k
IsPlaceFor slots line Nowhere = Unit {0}

-- each line of a table is found where it is looked for
abbrev pub EachIsFound : List Record → Type 0
EachIsFound slots = (k : ℕ) (d : Record) → k < length slots → (slice_index_or slots k d).line % 64 ≡ 0
    → IsPassed slots (slice_index_or slots k d).line k

-- the list has each slot that has a line
pub record ListsLines (slots : List Record) (used : List ℕ) : Type 0 where
  pub within : All (λ k. k < length slots) used
  pub each : (k : ℕ) (d : Record) → k < length slots → (slice_index_or slots k d).line % 64 ≡ 0 → Contains used k

-- what a table keeps: its slots, a list, and whether the list has each slot that has a line
pub record IsTable (slots : List Record) (used : List ℕ) (is_listed : Bool) : Type 0 where
  pub found : EachIsFound slots
  pub listed : is_listed ≡ true → ListsLines slots used

-- the lines that the entry covers, counted from the first
abbrev pub AreLinesOf : Entry → Lines → Type 0
AreLinesOf e lines = (line : ℕ) → Covers e line ↔ ((k : ℕ) × (k < lines.count) × (line ≡ lines.first + 64 * k))

-- the record has the line and this access alone
pub record IsOfFirst (r : Record) (line : ℕ) (e : Entry) : Type 0 where
  pub line_is : r.line ≡ line
  pub own : cores_of r.summary e.who e.kind ≡ with_core no_cores e.core
  pub others : (who : Who) (kind : Kind) → (who ≢ e.who) ⊎ (kind ≢ e.kind) → cores_of r.summary who kind ≡ no_cores
  pub small : e.core ≤ 65535

-- the access was added to what the records keep of the line
pub record Notes (before after : List Record) (line : ℕ) (e : Entry) : Type 0 where
  pub here : (entries : List Entry) → KeepLine before entries line → KeepLine after (entries ++ e ∷ []) line
  pub elsewhere : (entries : List Entry) (other : ℕ) → other % 64 ≡ 0 → other ≢ line
      → KeepLine before entries other → KeepLine after entries other

-- the records of lines are the same
pub record SameRecords (before after : List Record) : Type 0 where
  pub from : (r : Record) → Contains after r → Contains before r ⊎ (r.line % 64 ≢ 0)
  pub kept : (r : Record) → Contains before r → Contains after r ⊎ (r.line % 64 ≢ 0)

-- beside any others, the records keep what those of before kept
abbrev pub KeepWhat : List Record → List Record → Type 0
KeepWhat before after = (others : List Record) (entries : List Entry) (line : ℕ) → line % 64 ≡ 0
    → KeepLine (others ++ before) entries line → KeepLine (others ++ after) entries line

-- a line has at most one record
abbrev pub HasOneEach : List Record → Type 0
HasOneEach records = (q r : Record) → Contains records q → Contains records r → q.line % 64 ≡ 0 → q.line ≡ r.line
    → q ≡ r

-- the lines in conflict of the records done
pub record AreFound (records : List Record) (done : List Record) (lines : List ℕ) : Type 0 where
  pub sound : (entries : List Entry) → StandsFor records entries → (line : ℕ) → Contains lines line
      → IsConflictLine entries line
  pub complete : (entries : List Entry) → StandsFor records entries → (r : Record) → Contains done r
      → IsConflictLine entries r.line → Contains lines r.line
