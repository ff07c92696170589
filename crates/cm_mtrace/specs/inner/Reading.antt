-- What the steps of a reader give: each line by how many lines stand before it.
use Rattle.std.specs.Prelude.{◌≡◌, ◌≢◌, ℕ, ◌+◌, ◌<◌, ◌≤◌, List, [], ◌∷◌, ◌++◌, ◌⊎◌, ⊤, codes, decimal, length, None}
use Rattle.std.specs.Prelude.{Some}
use Rattle.std.specs.Borrow.{Bor}
use Rattle.std.specs.declared.option.Option.{Option}
use Rattle.cm_mtrace.specs.declared.fault.TraceFault.{TraceFault}
use Rattle.cm_mtrace.specs.declared.fault.TraceFault.TheVariants.{BadLine, Memory}
use Rattle.std.specs.List.{AllByRecursion}
use Rattle.cm_mtrace.specs.Trace.{IsItem, IsSectionName, first_line, kind_text, line_of, mark_text, text_of}
use Rattle.cm_mtrace.specs.declared.item.Kind.{Kind}
use Rattle.cm_mtrace.specs.declared.item.Who.{Who}
use Rattle.cm_mtrace.specs.declared.item.Item.{Item}
use Rattle.cm_mtrace.specs.declared.item.Item.TheVariants as items

-- the first line gives nothing, the second a section, and each later one an item
pub record LineGives (before : ℕ) (line : List ℕ) (given : List Item) : Type 0 where
  pub first : before ≡ 0 → (line ≡ first_line) × (given ≡ [])
  pub second : before ≡ 1 → (name : List ℕ) × IsSectionName name × (line ≡ line_of (items.Test name))
      × (given ≡ items.Test name ∷ [])
  pub later : 2 ≤ before → (item : Item) × IsItem item × (line ≡ line_of item) × (given ≡ item ∷ [])

abbrev pub LinesGive : ℕ → List (List ℕ) → List Item → Type 0
LinesGive before [] given = given ≡ []
LinesGive before (line ∷ lines) given =
    (first : List Item) × (rest : List Item) × (given ≡ first ++ rest) × LineGives before line first
    × LinesGive (before + 1) lines rest

-- no newline stands in the line
abbrev pub IsLine : List ℕ → Type 0
IsLine line = AllByRecursion (λ b. b ≢ 10) line

-- the text is these whole lines and an open one
pub record AreLines (text : List ℕ) (whole : List (List ℕ)) (left : List ℕ) : Type 0 where
  pub spelled : text ≡ text_of whole ++ left
  pub each : AllByRecursion IsLine whole
  pub last : IsLine left

-- what a step over a text gives, behind so many lines: it reads the first, or none is whole
abbrev pub Steps : ℕ → List ℕ → List Item → List Item → Option (Bor (List ℕ)) → Type 0
Steps before text old new (Some after) = (line : List ℕ) × (given : List Item) × IsLine line
    × (text ≡ line ++ codes "\n" ++ after.now) × LineGives before line given × (new ≡ old ++ given)
Steps before text old new None = IsLine text × (new ≡ old)

-- the same, where only a section may begin
abbrev pub SectionSteps : List ℕ → List Item → List Item → Option (Bor (List ℕ)) → Type 0
SectionSteps text old new (Some after) = (name : List ℕ) × IsSectionName name
    × (text ≡ line_of (items.Test name) ++ codes "\n" ++ after.now) × (new ≡ old ++ items.Test name ∷ [])
SectionSteps text old new None = IsLine text × (new ≡ old)

-- behind so many lines the first line of this text gives nothing
abbrev pub BadNext : ℕ → List ℕ → Type 0
BadNext lines tail = (line : List ℕ) × (after : List ℕ) × IsLine line × (tail ≡ line ++ codes "\n" ++ after)
    × ((given : List Item) → ¬ LineGives lines line given)

-- the fault of a step over a text: it names the first line, which gives nothing, and nothing was added
abbrev pub Refuses : ℕ → List ℕ → List Item → List Item → TraceFault → Type 0
Refuses before text old new (BadLine line) = (line ≡ before + 1) × BadNext before text × (new ≡ old)
Refuses before text old new Memory = ⊤

-- the first line of this text begins no section
abbrev pub NoSection : List ℕ → Type 0
NoSection text = (line : List ℕ) × (after : List ℕ) × IsLine line × (text ≡ line ++ codes "\n" ++ after)
    × ((name : List ℕ) → IsSectionName name → line ≢ line_of (items.Test name))

-- the fault of a step, where only a section may begin
abbrev pub SectionRefuses : ℕ → List ℕ → List Item → List Item → TraceFault → Type 0
SectionRefuses before text old new (BadLine line) = (line ≡ before + 1) × NoSection text × (new ≡ old)
SectionRefuses before text old new Memory = ⊤

-- lines that were read behind so many others, and what stands behind them
pub record Reads (before : ℕ) (text : List ℕ) (whole : List (List ℕ)) (tail : List ℕ) (old new : List Item)
    (lines : ℕ) : Type 0 where
  pub spelled : text ≡ text_of whole ++ tail
  pub each : AllByRecursion IsLine whole
  pub counted : lines ≡ before + length whole
  pub given : (given : List Item) × (new ≡ old ++ given) × LinesGive before whole given

-- all whole lines were read, up to an open one
abbrev pub Ends : ℕ → List ℕ → List Item → List Item → ℕ → List ℕ → Type 0
Ends before text old new lines left = (whole : List (List ℕ)) × Reads before text whole left old new lines × IsLine left

-- and the open one is short enough to be kept
abbrev pub Reaches : ℕ → List ℕ → List Item → List Item → ℕ → List ℕ → Type 0
Reaches before text old new lines left = Ends before text old new lines left × (length left ≤ 80)

-- no trace goes on with this text: its first line gives nothing, or is open and too long
abbrev pub Spoils : ℕ → List ℕ → Type 0
Spoils lines tail = BadNext lines tail ⊎ (IsLine tail × (80 < length tail))

-- all lines before the one that the fault names were read, and it spoils the trace
abbrev pub Stops : ℕ → List ℕ → List Item → List Item → TraceFault → Type 0
Stops before text old new (BadLine line) = (lines : ℕ) × (line ≡ lines + 1) × (whole : List (List ℕ))
    × (tail : List ℕ) × Reads before text whole tail old new lines × Spoils lines tail
Stops before text old new Memory = ⊤

-- the open line behind so many others is too long, and the fault names it
abbrev pub IsTooLong : ℕ → List ℕ → TraceFault → Type 0
IsTooLong before left (BadLine line) = (line ≡ before + 1) × (80 < length left)
IsTooLong before left Memory = ⊤

-- what a reader keeps of an open line
pub record IsKept (left : List ℕ) : Type 0 where
  pub line : IsLine left
  pub short : length left ≤ 80

-- a mark and a kind, each behind a space, and what stands behind them
abbrev pub with_marks : Who → Kind → List ℕ → List ℕ
with_marks who kind rest = 32 ∷ (mark_text who ++ 32 ∷ (kind_text kind ++ 32 ∷ rest))

-- a size behind a space, and what stands behind the line
abbrev pub with_size : ℕ → List ℕ → List ℕ
with_size size rest = 32 ∷ (decimal size ++ 10 ∷ rest)
