-- The cache lines on which the two calls of a section conflict.
use Rattle.std.specs.Prelude.{◌≡◌, ◌≢◌, ◌⊎◌, ◌↔◌, ℕ, List, Any, Contains}
use Rattle.std.specs.List.Sorted.{IsStrictlyIncreasing}
use Rattle.cm_mtrace.specs.Lines.{Covers}
use Rattle.cm_mtrace.specs.declared.item.Entry.{Entry}
use Rattle.cm_mtrace.specs.declared.item.Who.TheVariants.{A, B}
use Rattle.cm_mtrace.specs.declared.item.Kind.TheVariants.{Write}

-- an access of call a and one of call b, by different cores, both cover the line, and at least one writes
pub record ConflictAt (x y : Entry) (line : ℕ) : Type 0 where
  pub first : x.who ≡ A
  pub second : y.who ≡ B
  pub apart : x.core ≢ y.core
  pub write : (x.kind ≡ Write) ⊎ (y.kind ≡ Write)
  pub first_covers : Covers x line
  pub second_covers : Covers y line

-- two of the entries conflict at the line
abbrev pub IsConflictLine : List Entry → ℕ → Type 0
IsConflictLine entries line = Any (λ x. Any (λ y. ConflictAt x y line) entries) entries

-- exactly the conflict lines, ascending, each once
pub record AreConflictLines (entries : List Entry) (lines : List ℕ) : Type 0 where
  pub ascending : IsStrictlyIncreasing lines
  pub each : (line : ℕ) → Contains lines line ↔ IsConflictLine entries line
