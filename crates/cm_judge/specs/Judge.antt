-- What a judge keeps of the entries of a section.
use Rattle.std.specs.Prelude.{◌≡◌, ◌≢◌, ◌%◌, ℕ, List, Any, Contains}
use Rattle.cm_mtrace.specs.declared.item.Entry.{Entry}
use Rattle.cm_mtrace.specs.declared.item.Who.{Who}
use Rattle.cm_mtrace.specs.declared.item.Who.TheVariants.{Other}
use Rattle.cm_mtrace.specs.declared.item.Kind.{Kind}
use Rattle.cm_judge.specs.declared.slots.Record.{Record}
use Rattle.cm_judge.specs.Summary.{AreBoundsOf, cores_of, IsWithin, Touches}

-- A line may have several records. For each mark and kind, the least and the greatest core of each are
-- cores that touch the line, and each core that touches it is from the one to the other of some record.
pub record KeepLine (records : List Record) (entries : List Entry) (line : ℕ) : Type 0 where
  pub bounds : (r : Record) → Contains records r → r.line ≡ line → (who : Who) (kind : Kind) → who ≢ Other
      → AreBoundsOf (cores_of r.summary who kind) (Touches entries who kind line)
  pub within : (who : Who) (kind : Kind) (core : ℕ) → who ≢ Other → Touches entries who kind line core
      → Any (λ r. (r.line ≡ line) × IsWithin (cores_of r.summary who kind) core) records

-- a judge stands for each list of entries of which it keeps the summary
abbrev pub StandsFor : List Record → List Entry → Type 0
StandsFor judge entries = (line : ℕ) → line % 64 ≡ 0 → KeepLine judge entries line
