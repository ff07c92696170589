-- What each task reads, and what is wanted of it: a line a command.
use Rattle.std.specs.Prelude.{◌≡◌, ℕ, List, [], ◌∷◌, ⊤}
use Rattle.cm_mtrace.specs.Trace.{IsTrace, Section}
use Rattle.cm_posix.specs.Text.{posix_model}
use Rattle.cm_words.specs.declared.task.Task.{Task}
use Rattle.cm_words.specs.declared.task.Task.TheVariants.{Judge, Posix}
use Rattle.cm_top.specs.Files.{Input, OfOne}
use Rattle.cm_top.specs.Output.{IsJudgement}
use Rattle.cm_top.specs.declared.fetch.TheConstants.{LIMIT}
use Rattle.cm_top.specs.declared.status.Status.{Status}
use Rattle.cm_top.specs.declared.status.Status.TheVariants.{Done}

-- the files that it reads, in order
abbrev pub inputs_of : Task → List Input
inputs_of (Judge file) = record { name = file; most = LIMIT } ∷ []
inputs_of Posix = []

-- files with these bytes are what it reads
abbrev pub Accepts : Task → List (List ℕ) → Type 0
Accepts (Judge file) files = OfOne (λ bytes. (sections : List Section) × IsTrace sections bytes) files
Accepts Posix files = ⊤

-- what is wanted of it for files with these bytes: the pieces of the output, in order, and the status
abbrev pub IsWanted : Task → List (List ℕ) → List (List ℕ) → Status → Type 0
IsWanted (Judge file) files pieces status = OfOne (λ bytes. IsJudgement bytes pieces status) files
IsWanted Posix files pieces status = (pieces ≡ posix_model ∷ []) × (status ≡ Done)
