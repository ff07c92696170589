-- What a judged file is, and what its judgement puts.
use Rattle.std.specs.Prelude.{ℕ, ◌≤◌, List, length}
use Rattle.std.specs.declared.option.Option.{Option}
use Rattle.std.specs.Io.KnownBytes.{Appends}
use Rattle.cm_mtrace.specs.Trace.{IsFirstBad, IsTrace, Section}
use Rattle.cm_top.specs.Output.{IsJudgement, TakesFront, joined}
use Rattle.cm_top.specs.declared.fetch.TheConstants.{LIMIT}
use Rattle.cm_top.specs.declared.status.Status.{Status}

-- a file that is not too long
abbrev pub IsWithin : List ℕ → Type 0
IsWithin bytes = length bytes ≤ LIMIT

abbrev pub IsNoTrace : List ℕ → Type 0
IsNoTrace bytes = (sections : List Section) → ¬ IsTrace sections bytes

-- the trace was judged, and all of what is wanted was taken
abbrev pub IsJudged : Option (List ℕ) → Option (List ℕ) → Status → List ℕ → Type 0
IsJudged old new end bytes =
    IsWithin bytes × (pieces : List (List ℕ)) × IsJudgement bytes pieces end × Appends old new (joined pieces)

-- the trace was judged, and a prefix of the first of the wanted pieces was taken
abbrev pub IsJudgedInPart : Option (List ℕ) → Option (List ℕ) → List ℕ → Type 0
IsJudgedInPart old new bytes =
    IsWithin bytes
    × (end : Status) × (pieces : List (List ℕ)) × IsJudgement bytes pieces end × TakesFront old new pieces

-- the bytes are no trace, and this is their first bad line
abbrev pub IsRefusedAt : ℕ → List ℕ → Type 0
IsRefusedAt line bytes = IsWithin bytes × IsNoTrace bytes × IsFirstBad bytes line
