-- Where a reader stands in a stream.
use Rattle.std.specs.Prelude.{◌≡◌, ◌⊎◌, ℕ, ◌+◌, ◌-◌, ◌<◌, ◌≤◌, List, ◌++◌, length, take, ⊤, None}
use Rattle.std.specs.declared.option.Option.{Option}
use Rattle.cm_mtrace.specs.Trace.{BeginsTrace, GiveItems, IsFirstBad, open_line, whole_lines}
use Rattle.cm_mtrace.specs.declared.fault.TraceFault.{TraceFault}
use Rattle.cm_mtrace.specs.declared.item.Item.{Item}
use Rattle.cm_mtrace.specs.declared.fault.TraceFault.TheVariants.{BadLine, Memory}

-- how many whole lines were read, what stands behind the last, and the fault that came
pub record Progress : Type 0 where
  pub lines : ℕ
  pub left : List ℕ
  pub fault : Option TraceFault

-- the stream so far: its whole lines begin a trace, and its open line is not too long
pub record StandsFor (p : Progress) (text : List ℕ) : Type 0 where
  pub lines : p.lines ≡ length (whole_lines text)
  pub left : p.left ≡ open_line text
  pub fault : p.fault ≡ None
  pub good : BeginsTrace (whole_lines text)
  pub short : length p.left ≤ 80

-- the fault names the first bad line of the text, however the text goes on
abbrev pub NamesFirst : List ℕ → TraceFault → Type 0
NamesFirst text (BadLine line) = (more : List ℕ) → IsFirstBad (text ++ more) line
NamesFirst text Memory = ⊤

-- the line that it names is whole, or open and longer than any line of a trace
abbrev pub NamesSeen : List ℕ → TraceFault → Type 0
NamesSeen text (BadLine line) = (line ≤ length (whole_lines text)) ⊎ ((line ≡ length (whole_lines text) + 1)
    × (80 < length (open_line text)))
NamesSeen text Memory = ⊤

-- the text ends here, and the fault names its first bad line
abbrev pub EndsBad : List ℕ → TraceFault → Type 0
EndsBad text (BadLine line) = IsFirstBad text line
EndsBad text Memory = ⊥

-- the items of the lines before the one that the fault names were given
abbrev pub GaveEarlier : Progress → List ℕ → List Item → List Item → TraceFault → Type 0
GaveEarlier p piece old new (BadLine line) =
    p.fault ≡ None → (given : List Item) × (new ≡ old ++ given) × ((text : List ℕ) (items : List Item)
    → StandsFor p text → GiveItems (whole_lines text) items
    → GiveItems (take (line - 1) (whole_lines (text ++ piece))) (items ++ given))
GaveEarlier p piece old new Memory = ⊤
