-- A trace that is read and judged, as far as it came.
use Rattle.std.specs.Prelude.{◌≡◌, ◌⊎◌, ℕ, ◌+◌, List, length, Some, ⊤}
use Rattle.cm_mtrace.specs.Reader.{NamesFirst, StandsFor}
use Rattle.cm_mtrace.specs.Trace.{GiveItems, IsFirstBad, IsTrace, Section, whole_lines}
use Rattle.cm_mtrace.specs.declared.Item.{Item}
use Rattle.cm_mtrace.specs.declared.TraceFault.{TraceFault}
use Rattle.cm_mtrace.specs.declared.TraceFault.TheVariants.{BadLine, Memory}
use Rattle.cm_top.specs.inner.Sections.{AreJudged, Have}
use Rattle.cm_top.specs.declared.run.Run.{Run}
use Rattle.cm_top.specs.declared.sections.Judged.{Judged}

-- the text's whole lines begin a trace, and its sections so far are judged
pub record GoesOn (run : Run) (text : List ℕ) : Type 0 where
  pub stands : StandsFor run.reader text
  pub items : (items : List Item) × GiveItems (whole_lines text) items × Have run.sections items

-- the text has a first bad line, however it goes on
pub record IsRefused (run : Run) (text : List ℕ) : Type 0 where
  pub fault : (line : ℕ) × (run.reader.fault ≡ Some (BadLine line)) × NamesFirst text (BadLine line)

abbrev pub HasRead : Run → List ℕ → Type 0
HasRead run text = GoesOn run text ⊎ IsRefused run text

-- how many bytes at least were read
abbrev pub count_of : Run → ℕ
count_of run = run.reader.lines + length run.reader.left

-- the text is a trace whose sections were judged so
abbrev pub IsJudgedAs : List ℕ → List Judged → Type 0
IsJudgedAs text judged = (sections : List Section) × IsTrace sections text × AreJudged sections judged

-- the fault names the first bad line of the text
abbrev pub NamesBad : List ℕ → TraceFault → Type 0
NamesBad text (BadLine line) = IsFirstBad text line
NamesBad text Memory = ⊤
