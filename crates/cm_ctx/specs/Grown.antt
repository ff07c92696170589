-- What the parts of a context are once the variables of a symbol are added.
use Rattle.std.specs.Prelude.{◌≡◌, ◌<◌, ◌≤◌, ◌++◌, ◌∷◌, [], ℕ, ℤ, pos, negsuc, ◌≤ℤ◌, List, map, slice_get, Some}
use Rattle.cm_ctx.specs.declared.choice.Choice.{Choice}
use Rattle.cm_ctx.specs.declared.piece.NumberPart.{NumberPart}
use Rattle.cm_ctx.specs.declared.piece.TagPart.{TagPart}
use Rattle.cm_ctx.specs.declared.piece.OptionPart.{OptionPart}
use Rattle.cm_term.specs.Valuation.{Valuation}
use Rattle.cm_term.specs.Terms.{value_of}
use Rattle.cm_ctx.specs.declared.piece.ElementPart.{ElementPart}
use Rattle.cm_ctx.specs.declared.piece.Counts.{Counts}
use Rattle.cm_ctx.specs.declared.piece.Piece.{Piece}
use Rattle.cm_ctx.specs.Choices.{choice_of}
use Rattle.cm_ctx.specs.Making.{counts, counted}
use Rattle.cm_ctx.specs.Giving.{EachFrom, Gives, Agree}
use Rattle.cm_ctx.specs.Contexts.{Context, counts_of, Keeps}

-- the ends of an integer type
pub record IsRange (d : NumberPart) : Type 0 where
  pub low : negsuc 999999 ≤ℤ d.lo
  pub order : d.lo ≤ℤ d.hi
  pub high : d.hi ≤ℤ pos 1000000

abbrev pub AreRanges : List NumberPart → Type 0
AreRanges ds = (i : ℕ) (d : NumberPart) → slice_get ds i ≡ Some d → IsRange d

-- some variants, but at most 64
pub record IsEnum (d : TagPart) : Type 0 where
  pub some : 0 < d.variants
  pub few : d.variants ≤ 64

abbrev pub AreEnums : List TagPart → Type 0
AreEnums ds = (i : ℕ) (d : TagPart) → slice_get ds i ≡ Some d → IsEnum d

abbrev pub tag_choices : List TagPart → List Choice
tag_choices ds = map (λ (d : TagPart). choice_of d.variants) ds

abbrev pub option_choices : List OptionPart → List Choice
option_choices ds = map (λ (d : OptionPart). choice_of 2) ds

-- the variable's number lies between the ends
abbrev pub LiesIn : (ℕ → ℤ) → ℕ → NumberPart → Type 0
LiesIn n x d = (d.lo ≤ℤ n x) × (n x ≤ℤ d.hi)

-- the payload's value rests on earlier options alone
abbrev pub RestsBelow : Counts → ℕ → OptionPart → Type 0
RestsBelow c o d = (v w : Valuation) → Agree (counts c.elements c.numbers c.tags o) v w
    → value_of v d.payload ≡ value_of w d.payload

-- the ranges and enums are those of a model, and payloads rest on earlier options
pub record IsFitting (p : Piece) : Type 0 where
  pub numbers : AreRanges p.variables.numbers
  pub tags : AreEnums p.variables.tags
  pub payloads : EachFrom (RestsBelow (counted p.from p.variables)) p.from.options p.variables.options

-- a context with one piece more
pub record Grows (old : Context) (p : Piece) (new : Context) : Type 0 where
  pub pieces : new.pieces ≡ old.pieces ++ p ∷ []
  pub counts_grow : counts_of new ≡ counted (counts_of old) p.variables
  pub sorts : new.classes.sorts ≡ old.classes.sorts ++ map (λ (d : ElementPart). d.sort) p.variables.elements
  pub kept : Keeps old new (Gives (counts_of old) p.variables)
