-- The text of a trace, and which lines of a text are bad.
use Rattle.std.specs.Prelude.{◌≡◌, ◌⊎◌, ℕ, ◌+◌, ◌-◌, ◌<◌, ◌≤◌, ◌==◌, List, [], ◌∷◌, ◌++◌, All, codes, decimal, flat_map}
use Rattle.std.specs.Prelude.{length, map, slice_index_or, take}
use Rattle.std.specs.List.{join_with_byte, slice_split}
use Rattle.cm_text.specs.Numeral.{hexadecimal}
use Rattle.cm_mtrace.specs.Lines.{IsInRange}
use Rattle.cm_mtrace.specs.declared.item.Entry.{Entry}
use Rattle.cm_mtrace.specs.declared.item.Item.{Item}
use Rattle.cm_mtrace.specs.declared.item.Item.TheVariants as items
use Rattle.cm_mtrace.specs.declared.item.Kind.{Kind}
use Rattle.cm_mtrace.specs.declared.item.Kind.TheVariants.{Read, Write}
use Rattle.cm_mtrace.specs.declared.item.Who.{Who}
use Rattle.cm_mtrace.specs.declared.item.Who.TheVariants.{A, B, Other}

abbrev pub mark_text : Who → List ℕ
mark_text A = codes "a"
mark_text B = codes "b"
mark_text Other = codes "-"

abbrev pub kind_text : Kind → List ℕ
kind_text Read = codes "r"
kind_text Write = codes "w"

-- an entry's core, mark, kind, address and size
abbrev pub fields_of : Entry → List (List ℕ)
fields_of e = decimal e.core ∷ mark_text e.who ∷ kind_text e.kind ∷ hexadecimal e.addr ∷ decimal e.size ∷ []

-- an entry of a trace
pub record IsEntry (e : Entry) : Type 0 where
  pub core : e.core ≤ 1023
  pub size : e.size ≤ 4096
  pub range : IsInRange e

-- a letter, a digit, '_', '.' or '-'
abbrev pub IsNameByte : ℕ → Type 0
IsNameByte b = ((97 ≤ b) × (b ≤ 122)) ⊎ ((65 ≤ b) × (b ≤ 90)) ⊎ ((48 ≤ b) × (b ≤ 57)) ⊎ (b ≡ 95) ⊎ (b ≡ 46) ⊎ (b ≡ 45)

-- a name of a section
pub record IsSectionName (name : List ℕ) : Type 0 where
  pub some : 1 ≤ length name
  pub short : length name ≤ 64
  pub bytes : All IsNameByte name

-- what may stand in a trace
abbrev pub IsItem : Item → Type 0
IsItem (items.Test name) = IsSectionName name
IsItem (items.Entry e) = IsEntry e

-- the line of an item: the beginning of a section, or an entry's fields with one space between
abbrev pub line_of : Item → List ℕ
line_of (items.Test name) = codes "test " ++ name
line_of (items.Entry e) = join_with_byte 32 (fields_of e)

-- a section: its name and its entries
pub record Section : Type 0 where
  pub name : List ℕ
  pub entries : List Entry

-- the beginning of each section, and its entries
abbrev pub items_of : List Section → List Item
items_of sections = flat_map (λ s. items.Test s.name ∷ map items.Entry s.entries) sections

abbrev pub first_line : List ℕ
first_line = codes "trace 1"

-- the lines of a trace
abbrev pub trace_lines : List Section → List (List ℕ)
trace_lines sections = first_line ∷ map line_of (items_of sections)

-- each line ends with one newline
abbrev pub text_of : List (List ℕ) → List ℕ
text_of lines = flat_map (λ line. line ++ codes "\n") lines

-- the text is a trace of these sections
pub record IsTrace (sections : List Section) (text : List ℕ) : Type 0 where
  pub valid : All IsItem (items_of sections)
  pub spelled : text ≡ text_of (trace_lines sections)

-- some trace begins with these lines
abbrev pub BeginsTrace : List (List ℕ) → Type 0
BeginsTrace lines = (sections : List Section) × (more : List (List ℕ)) × All IsItem (items_of sections)
    × (trace_lines sections ≡ lines ++ more)

-- a text, cut at its newlines
abbrev pub lines_of : List ℕ → List (List ℕ)
lines_of text = slice_split (λ b. b == 10) text

-- the lines that are ended
abbrev pub whole_lines : List ℕ → List (List ℕ)
whole_lines text = take (length (lines_of text) - 1) (lines_of text)

-- what stands behind the last newline
abbrev pub open_line : List ℕ → List ℕ
open_line text = slice_index_or (lines_of text) (length (lines_of text) - 1) []

-- A line, counted from 1, is bad: no trace begins with the lines before it and this line; or it is the last and not
-- ended; or it is the first and there are no bytes.
abbrev pub IsBadLine : List ℕ → ℕ → Type 0
IsBadLine text line = ((line ≤ length (whole_lines text)) × ¬ BeginsTrace (take line (whole_lines text)))
    ⊎ ((line ≡ length (whole_lines text) + 1) × ((0 < length (open_line text)) ⊎ (text ≡ [])))

-- and no line before it is
pub record IsFirstBad (text : List ℕ) (line : ℕ) : Type 0 where
  pub bad : IsBadLine text line
  pub first : (earlier : ℕ) → earlier < line → ¬ IsBadLine text earlier

-- lines that begin a trace, and the items that they give
abbrev pub SpellItems : List (List ℕ) → List Item → Type 0
SpellItems [] items = items ≡ []
SpellItems (first ∷ rest) items = (first ≡ first_line) × (rest ≡ map line_of items)

pub record GiveItems (lines : List (List ℕ)) (items : List Item) : Type 0 where
  pub spelled : SpellItems lines items
  pub valid : All IsItem items
  pub sections : (sections : List Section) × (items ≡ items_of sections)
