-- What the facts and the cells of a path are called in a report.
use Rattle.std.specs.Prelude.{ℕ, zero, suc, ℤ, neg_ℤ, ◌+ℤ◌, Bool, IsTrue, List, [], Option, Some, None}
use Rattle.std.specs.Prelude.{if◌then◌else◌}
use Rattle.std.specs.List.{AllByRecursion}
use Rattle.std.specs.Option.{option_map}
use Rattle.cm_term.specs.declared.atom.Num.{Num}
use Rattle.cm_term.specs.declared.atom.Num.TheVariants as num
use Rattle.cm_term.specs.declared.atom.Tag.{Tag}
use Rattle.cm_term.specs.declared.atom.Tag.TheVariants as tag
use Rattle.cm_term.specs.declared.atom.Opt.{Opt}
use Rattle.cm_term.specs.declared.atom.Opt.TheVariants as opt
use Rattle.cm_term.specs.declared.symbol.Root.TheVariants as root
use Rattle.cm_term.specs.declared.symbol.Sym.{Sym}
use Rattle.cm_term.specs.declared.question.Question.{Question}
use Rattle.cm_term.specs.declared.question.Question.TheVariants as question
use Rattle.cm_term.specs.declared.question.Fact.{Fact}
use Rattle.cm_term.specs.declared.term.Term.{Term}
use Rattle.cm_term.specs.declared.term.Term.TheOpen.{Term-F}
use Rattle.cm_term.specs.declared.term.Term.TheFolds.{fold-Term}
use Rattle.cm_term.specs.Atoms.{offset_of}
use Rattle.cm_term.specs.Terms.{vars_of}
use Rattle.cm_term.specs.Valuation.{Var, OfElement, OfNumber, OfTag, OfOption}
use Rattle.cm_cells.specs.Alike.{is_there}
use Rattle.cm_cells.specs.CellTable.{Place}
use Rattle.cm_ctx.specs.Contexts.{IsSmall}
use Rattle.cm_ctx.specs.declared.piece.Piece.{Piece}
use Rattle.cm_cond.specs.declared.literal.Ord3.{Ord3}
use Rattle.cm_cond.specs.declared.literal.Ord3.TheVariants as ord
use Rattle.cm_cond.specs.declared.literal.Literal.{Literal}
use Rattle.cm_cond.specs.declared.literal.Literal.TheVariants as literal
use Rattle.cm_cond.specs.declared.cell.KeyTerm.{KeyTerm}
use Rattle.cm_cond.specs.declared.cell.KeyTerm.TheVariants as key
use Rattle.cm_cond.specs.declared.cell.CellTerm.{CellTerm}
use Rattle.cm_cond.specs.Form.{is_before}
use Rattle.cm_beside.specs.Seen.{symbol_at}

-- what two symbols give, where there are both
abbrev pub of_two : {X : Type 0} → (Sym → Sym → X) → Option Sym → Option Sym → Option X
of_two f (Some x) (Some y) = Some (f x y)
of_two f (Some x) None = None
of_two f None o = None

-- 0 equal, 1 different
abbrev pub equality_literal : ℕ → Sym → Sym → Literal
equality_literal zero x y = literal.Same x y
equality_literal (suc d) x y = literal.Differ x y

-- the earlier symbol stands left
abbrev pub elements_literal : ℕ → Sym → Sym → Literal
elements_literal d x y = if is_before y x then equality_literal d y x else equality_literal d x y

-- 0 less, 1 equal, 2 greater
abbrev pub order_said : ℕ → Ord3
order_said zero = ord.Less
order_said (suc zero) = ord.Equal
order_said (suc (suc d)) = ord.Greater

-- how the second stands to the first
abbrev pub turned : Ord3 → Ord3
turned ord.Less = ord.Greater
turned ord.Equal = ord.Equal
turned ord.Greater = ord.Less

abbrev pub less_by : ℤ → ℤ → ℤ
less_by m n = m +ℤ neg_ℤ n

-- x and k stand so to y and l: the earlier symbol stands left, with the offsets' difference
abbrev pub numbers_literal : Ord3 → ℤ → ℤ → Sym → Sym → Literal
numbers_literal op k l x y =
    if is_before y x then literal.Order y (less_by l k) (turned op) x else literal.Order x (less_by k l) op y

-- against a number the offset moves over
abbrev pub order_literal : List Piece → Num → Num → Ord3 → Option Literal
order_literal ps (num.Plus x k) (num.Plus y l) op =
    of_two (numbers_literal op k l) (symbol_at ps (OfNumber x.0)) (symbol_at ps (OfNumber y.0))
order_literal ps (num.Plus x k) (num.Const n) op =
    option_map (λ s. literal.Against s op (less_by n k)) (symbol_at ps (OfNumber x.0))
order_literal ps (num.Const n) (num.Plus y l) op =
    option_map (λ s. literal.Against s (turned op) (less_by n l)) (symbol_at ps (OfNumber y.0))
order_literal ps (num.Const m) (num.Const n) op = None

-- 0 below, 1 in range, 2 above
abbrev pub place_literal : ℤ → ℤ → ℤ → ℕ → Sym → Literal
place_literal k lo hi zero s = literal.Against s ord.Less (less_by lo k)
place_literal k lo hi (suc zero) s = literal.Within s k lo hi
place_literal k lo hi (suc (suc d)) s = literal.Against s ord.Greater (less_by hi k)

abbrev pub range_literal : List Piece → Num → ℤ → ℤ → ℕ → Option Literal
range_literal ps (num.Plus x k) lo hi d = option_map (place_literal k lo hi d) (symbol_at ps (OfNumber x.0))
range_literal ps (num.Const n) lo hi d = None

abbrev pub tag_literal : List Piece → Tag → ℕ → Option Literal
tag_literal ps (tag.Var x) d = option_map (λ s. literal.Tag s d) (symbol_at ps (OfTag x.0))
tag_literal ps (tag.Const e i) d = None

-- 0 none, 1 some
abbrev pub presence_literal : ℕ → Sym → Literal
presence_literal zero s = literal.IsNone s
presence_literal (suc d) s = literal.IsSome s

abbrev pub option_literal : List Piece → Opt → ℕ → Option Literal
option_literal ps (opt.Var o) d = option_map (presence_literal d) (symbol_at ps (OfOption o.0))
option_literal ps opt.None d = None
option_literal ps opt.Some d = None

abbrev pub said_of : List Piece → Question → ℕ → Option Literal
said_of ps (question.Elems x y) d =
    of_two (elements_literal d) (symbol_at ps (OfElement x.0)) (symbol_at ps (OfElement y.0))
said_of ps (question.Nums a b) d = order_literal ps a b (order_said d)
said_of ps (question.Range a lo hi) d = range_literal ps a lo hi d
said_of ps (question.TagOf a) d = tag_literal ps a d
said_of ps (question.OptOf a) d = option_literal ps a d

-- what a report says of a fact; constants have no symbols, so of these there is nothing to say
abbrev pub literal_of : List Piece → Fact → Option Literal
literal_of ps f = said_of ps f.question f.outcome

-- its numbers are small
abbrev pub AreSmall : Question → Type 0
AreSmall (question.Elems x y) = Unit {0}
AreSmall (question.Nums a b) = IsSmall (offset_of a) × IsSmall (offset_of b)
AreSmall (question.Range a lo hi) = IsSmall (offset_of a) × IsSmall lo × IsSmall hi
AreSmall (question.TagOf a) = Unit {0}
AreSmall (question.OptOf a) = Unit {0}

-- these variables were made for symbols
abbrev pub has_symbol : List Piece → Var → Bool
has_symbol ps x = is_there (symbol_at ps x)

abbrev pub HaveSymbols : List Piece → List Var → Type 0
HaveSymbols ps = AllByRecursion (λ x. IsTrue (has_symbol ps x))

abbrev pub HasSymbols : List Piece → Term → Type 0
HasSymbols ps t = HaveSymbols ps (vars_of t)

abbrev pub KeyHasSymbols : List Piece → Option Term → Type 0
KeyHasSymbols ps (Some t) = HasSymbols ps t
KeyHasSymbols ps None = Unit {0}

-- a symbol that there is
abbrev pub known : Option Sym → Sym
known (Some s) = s
known None = record { root = root.A 0; path = [] }

abbrev pub number_key : List Piece → Num → KeyTerm
number_key ps (num.Const n) = key.Num None n
number_key ps (num.Plus x k) = key.Num (symbol_at ps (OfNumber x.0)) k

abbrev pub tag_key : List Piece → Tag → KeyTerm
tag_key ps (tag.Const e i) = key.Tag i
tag_key ps (tag.Var x) = key.TagOf (known (symbol_at ps (OfTag x.0)))

-- a key holds no option
abbrev pub key_step : List Piece → Term-F KeyTerm → KeyTerm
key_step ps (Term-F.Elem x) = key.Elem (known (symbol_at ps (OfElement x.0)))
key_step ps (Term-F.Num a) = number_key ps a
key_step ps (Term-F.Tag a) = tag_key ps a
key_step ps (Term-F.Rec ks) = key.Rec ks
key_step ps Term-F.None = key.Rec []
key_step ps (Term-F.Some k) = key.Rec []
key_step ps (Term-F.Either o) = key.Rec []

-- a key spelled out by symbols, numbers and variants
abbrev pub key_named : List Piece → Term → KeyTerm
key_named ps = fold-Term KeyTerm (key_step ps)

abbrev pub cell_named : List Piece → Place → CellTerm
cell_named ps q = record { state = q.state; key = option_map (key_named ps) q.key }
