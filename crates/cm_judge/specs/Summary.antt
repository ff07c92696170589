-- What is kept of the accesses to one cache line.
use Rattle.std.specs.Prelude.{◌≡◌, ◌≢◌, ◌⊎◌, ℕ, ◌≤◌, List, Any, if◌then◌else◌, nat_lt, min, max, slice_index_or}
use Rattle.cm_mtrace.specs.Lines.{Covers}
use Rattle.cm_mtrace.specs.declared.item.Entry.{Entry}
use Rattle.cm_mtrace.specs.declared.item.Who.{Who}
use Rattle.cm_mtrace.specs.declared.item.Who.TheVariants.{A, B, Other}
use Rattle.cm_mtrace.specs.declared.item.Kind.{Kind}
use Rattle.cm_mtrace.specs.declared.item.Kind.TheVariants.{Read, Write}
use Rattle.cm_judge.specs.declared.summary.Cores.{Cores}
use Rattle.cm_judge.specs.declared.summary.LineSummary.{LineSummary}

-- the entry has this mark and kind, was made by this core, and covers the line
pub record IsAccess (e : Entry) (who : Who) (kind : Kind) (line core : ℕ) : Type 0 where
  pub who_is : e.who ≡ who
  pub kind_is : e.kind ≡ kind
  pub core_is : e.core ≡ core
  pub covers : Covers e line

-- some entry of this mark and kind that covers the line was made by the core
abbrev pub Touches : List Entry → Who → Kind → ℕ → ℕ → Type 0
Touches entries who kind line core = Any (λ e. IsAccess e who kind line core) entries

-- there is no core
abbrev pub no_cores : Cores
no_cores = record { least = 65535; greatest = 0 }

-- the core is from the least to the greatest
pub record IsWithin (c : Cores) (core : ℕ) : Type 0 where
  pub above : c.least ≤ core
  pub below : core ≤ c.greatest

-- where a summary has the cores of a mark and kind
abbrev pub place : Who → Kind → ℕ
place A Read = 0
place A Write = 1
place B Read = 2
place B Write = 3
place Other _ = 4

-- the cores that a summary has of the accesses of a mark and kind
abbrev pub cores_of : LineSummary → Who → Kind → Cores
cores_of s who kind = slice_index_or s.cores (place who kind) no_cores

-- the least and the greatest are cores of this sort, or there is none
abbrev pub AreBoundsOf : Cores → (ℕ → Type 0) → Type 0
AreBoundsOf c Is = (Is c.least × Is c.greatest) ⊎ (c ≡ no_cores)

-- the least and the greatest of the cores of this sort
pub record AreTheCores (c : Cores) (Is : ℕ → Type 0) : Type 0 where
  pub bounds : AreBoundsOf c Is
  pub within : (core : ℕ) → Is core → IsWithin c core

-- for each mark and kind, the cores of the entries that cover the line
abbrev pub IsSummaryOf : LineSummary → List Entry → ℕ → Type 0
IsSummaryOf s entries line = (who : Who) (kind : Kind) → who ≢ Other
    → AreTheCores (cores_of s who kind) (Touches entries who kind line)

-- the cores of two summaries
abbrev pub union_of : Cores → Cores → Cores
union_of c d =
    if nat_lt c.greatest c.least then d
    else if nat_lt d.greatest d.least then c
    else record { least = min c.least d.least; greatest = max c.greatest d.greatest }

-- some core of the one is another than some core of the other
pub record Differ (c d : Cores) : Type 0 where
  pub some : c.least ≤ c.greatest
  pub some_other : d.least ≤ d.greatest
  pub apart : (c.least ≢ d.greatest) ⊎ (c.greatest ≢ d.least)

-- the cores with one more
abbrev pub with_core : Cores → ℕ → Cores
with_core c core = record { least = min c.least core; greatest = max c.greatest core }
