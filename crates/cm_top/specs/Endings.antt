-- How a run of a task ends, and what is told of it.
use Rattle.std.specs.Prelude.{◌≡◌, ◌⊎◌, ℕ, ◌<◌, List, [], ◌++◌, codes, decimal, length}
use Rattle.std.specs.declared.option.Option.{Option}
use Rattle.std.specs.Io.KnownBytes.{Appends}
use Rattle.cm_io.specs.Causes.{Rose}
use Rattle.cm_io.specs.Sink.{TakesPart}
use Rattle.cm_words.specs.Tasks.{HasNoTask, IsTaskOf}
use Rattle.cm_words.specs.declared.task.Task.{Task}
use Rattle.cm_words.specs.declared.task.Task.TheVariants.{Judge}
use Rattle.cm_top.specs.Fetch.{OfFile}
use Rattle.cm_top.specs.Files.{AreWithin, Input, OfFiles, SomeInput}
use Rattle.cm_top.specs.Judging.{IsRefusedAt}
use Rattle.cm_top.specs.Output.{TakesFront, joined}
use Rattle.cm_top.specs.Tasks.{IsWanted, inputs_of}
use Rattle.cm_top.specs.declared.outcome.Outcome.{Outcome}
use Rattle.cm_top.specs.declared.outcome.Outcome.TheVariants as ends
use Rattle.cm_top.specs.declared.status.Status.{Status}
use Rattle.cm_top.specs.declared.status.Status.TheVariants as status

-- the files were not too long, and all of what is wanted for them was taken
abbrev pub IsAnswered : Task → Option (List ℕ) → Option (List ℕ) → Status → List (List ℕ) → Type 0
IsAnswered task old new end files =
    AreWithin (inputs_of task) files
    × (pieces : List (List ℕ)) × IsWanted task files pieces end × Appends old new (joined pieces)

-- the files were not too long, and a prefix of the first of the wanted pieces was taken
abbrev pub IsCutShort : Task → Option (List ℕ) → Option (List ℕ) → List (List ℕ) → Type 0
IsCutShort task old new files =
    AreWithin (inputs_of task) files
    × (end : Status) × (pieces : List (List ℕ)) × IsWanted task files pieces end × TakesFront old new pieces

-- the file is longer than it may be
abbrev pub IsTooLong : (List ℕ → Option (Option (List ℕ))) → Input → Type 0
IsTooLong held i = OfFile (held i.name) (λ bytes. i.most < length bytes)

-- what a run meets outside: what is told of the files, their counts of faults before and now, what the sink had and has
-- taken, and its counts of faults
pub record Outside : Type 0 where
  pub held : List ℕ → Option (Option (List ℕ))
  pub before : List ℕ → ℕ
  pub now : List ℕ → ℕ
  pub old : Option (List ℕ)
  pub new : Option (List ℕ)
  pub put_before : ℕ
  pub put_now : ℕ

abbrev pub HasRisen : Outside → Input → Type 0
HasRisen o i = Rose (o.before i.name) (o.now i.name)

-- how a run of a task may end: a line an outcome
abbrev pub IsEnding : Task → Outside → Outcome → Type 0
IsEnding task o ends.Done = OfFiles o.held (inputs_of task) (IsAnswered task o.old o.new status.Done)
IsEnding task o ends.Conflicts = OfFiles o.held (inputs_of task) (IsAnswered task o.old o.new status.Conflicts)
IsEnding task o ends.Usage = ⊥
IsEnding task o (ends.ReadFault file) =
    SomeInput (λ i. (i.name ≡ file.now) × HasRisen o i) (inputs_of task) × (o.new ≡ o.old)
IsEnding task o (ends.TooLong file) =
    SomeInput (λ i. (i.name ≡ file.now) × IsTooLong o.held i) (inputs_of task) × (o.new ≡ o.old)
IsEnding task o (ends.BadTraceLine file line) =
    (task ≡ Judge file.now) × OfFile (o.held file.now) (IsRefusedAt line) × (o.new ≡ o.old)
IsEnding task o ends.WriteFault =
    Rose o.put_before o.put_now × OfFiles o.held (inputs_of task) (IsCutShort task o.old o.new)
IsEnding task o ends.Memory =
    (o.new ≡ o.old) ⊎ OfFiles o.held (inputs_of task) (IsCutShort task o.old o.new)

-- the status of an outcome
abbrev pub status_of : Outcome → Status
status_of ends.Done = status.Done
status_of ends.Conflicts = status.Conflicts
status_of ends.Usage = status.Usage
status_of (ends.ReadFault file) = status.ReadFault
status_of (ends.TooLong file) = status.TooLong
status_of (ends.BadTraceLine file line) = status.Refused
status_of ends.WriteFault = status.WriteFault
status_of ends.Memory = status.Memory

abbrev pub bad_line_text : List ℕ → ℕ → List ℕ
bad_line_text file line = codes "commuter: " ++ file ++ codes ":" ++ decimal line ++ codes ": bad trace line\n"

-- what is told of an outcome
abbrev pub told_text : Outcome → List ℕ
told_text ends.Done = []
told_text ends.Conflicts = []
told_text ends.Usage = codes "commuter: bad command line\n"
told_text (ends.ReadFault file) = codes "commuter: cannot read " ++ file.now ++ codes "\n"
told_text (ends.TooLong file) = codes "commuter: " ++ file.now ++ codes " is too long\n"
told_text (ends.BadTraceLine file line) = bad_line_text file.now line
told_text ends.WriteFault = codes "commuter: cannot write\n"
told_text ends.Memory = codes "commuter: out of memory\n"

-- a status with which nothing was put
abbrev pub IsQuiet : Status → Type 0
IsQuiet end = (end ≡ status.Usage) ⊎ (end ≡ status.ReadFault) ⊎ (end ≡ status.TooLong) ⊎ (end ≡ status.Refused)

-- the text was taken, or a prefix of it where the count of faults rose
pub record Tells (old new : Option (List ℕ)) (before now : ℕ) (text : List ℕ) : Type 0 where
  pub part : TakesPart old new text
  pub whole : ¬ Rose before now → Appends old new text

-- how a run on words ends: they have no task, or memory ran out before that was known, or their only task was run
abbrev pub IsEndingOn : List (List ℕ) → Outside → Outcome → Type 0
IsEndingOn words o outcome =
    ((outcome ≡ ends.Usage) × HasNoTask words × (o.new ≡ o.old))
    ⊎ ((outcome ≡ ends.Memory) × (o.new ≡ o.old))
    ⊎ ((task : Task) × IsTaskOf words task
    × ((other : Task) → IsTaskOf words other → other ≡ task) × IsEnding task o outcome)
