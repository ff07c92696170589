-- What is written for a trace.
use Rattle.std.specs.Prelude.{◌≡◌, ◌⊎◌, ℕ, List, [], ◌∷◌, ◌++◌, codes, flat_map}
use Rattle.std.specs.declared.option.Option.{Option}
use Rattle.std.specs.List.{AllZip}
use Rattle.cm_io.specs.Sink.{TakesPart}
use Rattle.cm_judge.specs.Conflicts.{AreConflictLines}
use Rattle.cm_mtrace.specs.Trace.{IsTrace, Section}
use Rattle.cm_text.specs.Numeral.{hexadecimal}
use Rattle.cm_top.specs.declared.status.Status.{Status}
use Rattle.cm_top.specs.declared.status.Status.TheVariants.{Done, Conflicts}

abbrev pub header : List ℕ
header = codes "commuter judge 1\n"

abbrev pub closing : List ℕ
closing = codes "done\n"

abbrev pub conflict_text : ℕ → List ℕ
conflict_text line = codes "conflict " ++ hexadecimal line ++ codes "\n"

-- a section's line, and a line for each conflict line
abbrev pub section_text : List ℕ → List ℕ → List ℕ
section_text name lines = codes "test " ++ name ++ codes "\n" ++ flat_map conflict_text lines

-- these are the conflict lines of each section
abbrev pub AreAllConflicts : List Section → List (List ℕ) → Type 0
AreAllConflicts sections lines = AllZip (λ s ls. AreConflictLines s.entries ls) sections lines

-- a piece for each section
abbrev pub section_texts : List Section → List (List ℕ) → List (List ℕ)
section_texts [] lines = []
section_texts (s ∷ sections) [] = []
section_texts (s ∷ sections) (ls ∷ lines) = section_text s.name ls ∷ section_texts sections lines

-- conflicts where some section has one, and else done
abbrev pub judge_status : List (List ℕ) → Status
judge_status [] = Done
judge_status ([] ∷ lines) = judge_status lines
judge_status ((x ∷ xs) ∷ lines) = Conflicts

-- one of the two
abbrev pub IsEnd : Status → Type 0
IsEnd status = (status ≡ Done) ⊎ (status ≡ Conflicts)

-- what is wanted for a trace: the pieces of the output, in order, and the status
abbrev pub IsJudgement : List ℕ → List (List ℕ) → Status → Type 0
IsJudgement bytes pieces status =
    (sections : List Section) × (lines : List (List ℕ)) × IsTrace sections bytes × AreAllConflicts sections lines
    × (pieces ≡ header ∷ (section_texts sections lines ++ closing ∷ [])) × (status ≡ judge_status lines)

abbrev pub joined : List (List ℕ) → List ℕ
joined pieces = flat_map (λ p. p) pieces

-- the sink took a prefix of the first pieces, for some number of them
abbrev pub TakesFront : Option (List ℕ) → Option (List ℕ) → List (List ℕ) → Type 0
TakesFront old new pieces =
    (front : List (List ℕ)) × (rest : List (List ℕ)) × (pieces ≡ front ++ rest) × TakesPart old new (joined front)
