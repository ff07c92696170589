-- The symbols of a context's variables.
use Rattle.std.proofs.Common.{◌≡◌, ◌<◌, ◌-◌, ℕ, zero, suc, List, [], ◌∷◌, length, slice_get, Option}
use Rattle.std.proofs.Common.{IsTrue, sym, ap, ◌∙◌, arith}
use Rattle.cm_term.specs.declared.symbol.Sym.{Sym}
use Rattle.cm_term.specs.Valuation.{OfElement, OfNumber, OfTag, OfOption}
use Rattle.cm_cells.specs.Alike.{is_there}
use Rattle.cm_ctx.specs.declared.piece.Piece.{Piece}
use Rattle.cm_ctx.specs.declared.naming.Kind.TheVariants as kind
use Rattle.cm_ctx.specs.Asking.{InRow}
use Rattle.cm_ctx.specs.Contexts.{Context, counts_of}
use Rattle.cm_ctx.specs.Making.{first_counts}
use Rattle.cm_ctx.specs.Naming.{syms_of}
use Rattle.cm_ctx.proofs.Names.{elements_named, numbers_named, tags_named, options_named}
use Rattle.cm_beside.specs.Seen.{symbol_at}
use Rattle.cm_name.specs.Naming.{has_symbol}

there_within : {A : Type 0} (xs : List A) (i : ℕ) → IsTrue (is_there (slice_get xs i)) → i < length xs
there_within [] i h = absurd (cc)
there_within (x ∷ xs) zero h = omega arith
there_within (x ∷ xs) (suc i) h = let lt = there_within xs i h in omega (arith, lt)

module _ (c : Context) (row : InRow first_counts c.pieces (counts_of c)) where
  -- a variable that has a symbol is one of the context's
  pub element_there : (x : ℕ) → IsTrue (has_symbol c.pieces (OfElement x)) → x < length c.classes.sorts
  element_there x h =
      let lt = there_within (syms_of kind.Element c.pieces) x h in
      let n = elements_named first_counts (counts_of c) c.pieces row in
      omega (arith, lt, n)

  pub number_there : (x : ℕ) → IsTrue (has_symbol c.pieces (OfNumber x)) → x < length c.bounds
  number_there zero h = absurd (cc)
  number_there (suc x) h =
      let lt = there_within (syms_of kind.Number c.pieces) x h in
      let n = numbers_named first_counts (counts_of c) c.pieces row in
      omega (arith, lt, n)

  pub tag_there : (x : ℕ) → IsTrue (has_symbol c.pieces (OfTag x)) → x < length c.tags
  tag_there x h =
      let lt = there_within (syms_of kind.Tag c.pieces) x h in
      let n = tags_named first_counts (counts_of c) c.pieces row in
      omega (arith, lt, n)

  pub option_there : (x : ℕ) → IsTrue (has_symbol c.pieces (OfOption x)) → x < length c.options
  option_there x h =
      let lt = there_within (syms_of kind.Option c.pieces) x h in
      let n = options_named first_counts (counts_of c) c.pieces row in
      omega (arith, lt, n)

-- number 0 has no symbol
pub no_constant : (ps : List Piece) (x : ℕ) → IsTrue (has_symbol ps (OfNumber x)) → 0 < x
no_constant ps zero h = absurd (cc)
no_constant ps (suc x) h = omega arith

pub number_symbol_is : (ps : List Piece) (x : ℕ) (o : Option Sym) → 0 < x
    → slice_get (syms_of kind.Number ps) (x - 1) ≡ o → symbol_at ps (OfNumber x) ≡ o
number_symbol_is ps zero o above e = absurd (omega (arith, above))
number_symbol_is ps (suc x) o above e = let n : suc x - 1 ≡ x = omega arith in
    ap (slice_get (syms_of kind.Number ps)) (sym n) ∙ e
