-- Whose the variables of a term are, and which part of a value the symbol of a variable names.
use Rattle.std.specs.Prelude.{◌≡◌, ◌==◌, ℕ, List, Some, IfSome, if◌then◌else◌}
use Rattle.std.specs.List.{AllByRecursion}
use Rattle.cm_value.specs.declared.value.Value.{Value}
use Rattle.cm_value.specs.declared.value.Value.TheVariants as value
use Rattle.cm_term.specs.declared.symbol.Root.{Root}
use Rattle.cm_term.specs.declared.symbol.Step.{Step}
use Rattle.cm_term.specs.declared.symbol.Sym.{Sym}
use Rattle.cm_term.specs.declared.term.Term.{Term}
use Rattle.cm_term.specs.Symbols.{followed}
use Rattle.cm_term.specs.Terms.{value_of, vars_of}
use Rattle.cm_term.specs.Valuation.{Valuation}
use Rattle.cm_ctx.specs.declared.piece.ElementPart.{ElementPart}
use Rattle.cm_ctx.specs.declared.piece.NumberPart.{NumberPart}
use Rattle.cm_ctx.specs.declared.piece.TagPart.{TagPart}
use Rattle.cm_ctx.specs.declared.piece.OptionPart.{OptionPart}
use Rattle.cm_ctx.specs.declared.piece.Piece.{Piece}
use Rattle.cm_ctx.specs.Asking.{Owns}
use Rattle.cm_ctx.specs.Giving.{EachFrom}

-- the term's variables were made for the piece's symbol
abbrev pub OwnsTerm : Piece → Term → Type 0
OwnsTerm p t = AllByRecursion (Owns p) (vars_of t)

-- so were those of its term, and of the payloads of its options
pub record OwnsAll (p : Piece) : Type 0 where
  pub term : OwnsTerm p p.term
  pub payloads : AllByRecursion (λ (d : OptionPart). OwnsTerm p d.payload) p.variables.options

-- each payload has the value of its term
abbrev pub PayloadsHold : Valuation → Piece → Type 0
PayloadsHold v p =
    EachFrom (λ o (d : OptionPart). v.payload o ≡ value_of v d.payload) p.from.options p.variables.options

-- what is at the end of the path in the first value is the second, if anything is
abbrev pub Leads : List Step → Value → Value → Type 0
Leads path x y = IfSome (followed path (Some x)) (λ z. z ≡ y)

-- a symbol of this root, which has the first value, names the part with the second
pub record NamesPart (r : Root) (x : Value) (s : Sym) (y : Value) : Type 0 where
  pub root : s.root ≡ r
  pub part : Leads s.path x y

-- the value of an option
abbrev pub option_value : Valuation → ℕ → Value
option_value v o = if v.present o == 1 then value.Some (v.payload o) else value.None

-- the symbol of each variable names the variable's value in the value of the piece's term
pub record Names (v : Valuation) (p : Piece) : Type 0 where
  pub elements : EachFrom (λ x (d : ElementPart). NamesPart p.root (value_of v p.term) d.sym (value.Elem (v.element x)))
      p.from.elements p.variables.elements
  pub numbers : EachFrom (λ x (d : NumberPart). NamesPart p.root (value_of v p.term) d.sym (value.Int (v.number x)))
      p.from.numbers p.variables.numbers
  pub tags : EachFrom (λ x (d : TagPart). NamesPart p.root (value_of v p.term) d.sym (value.Tag (v.tag x)))
      p.from.tags p.variables.tags
  pub options : EachFrom (λ o (d : OptionPart). NamesPart p.root (value_of v p.term) d.sym (option_value v o))
      p.from.options p.variables.options
