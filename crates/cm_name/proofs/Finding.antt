-- Whose the symbol of a variable is.
use Rattle.std.proofs.Common.{◌≡◌, ◌+◌, ◌⊎◌, inl, inr, ℕ, zero, suc, List, [], ◌∷◌, ◌++◌, map, length, slice_get}
use Rattle.std.proofs.Common.{Some, refl, sym, ap, ◌∙◌, arith}
use Rattle.cm_term.specs.declared.symbol.Sym.{Sym}
use Rattle.cm_term.specs.Valuation.{Var, OfElement, OfNumber, OfTag, OfOption}
use Rattle.cm_ctx.specs.declared.piece.Counts.{Counts}
use Rattle.cm_ctx.specs.declared.piece.ElementPart.{ElementPart}
use Rattle.cm_ctx.specs.declared.piece.NumberPart.{NumberPart}
use Rattle.cm_ctx.specs.declared.piece.TagPart.{TagPart}
use Rattle.cm_ctx.specs.declared.piece.OptionPart.{OptionPart}
use Rattle.cm_ctx.specs.declared.piece.Piece.{Piece}
use Rattle.cm_ctx.specs.declared.piece.Variables.{Variables}
use Rattle.cm_ctx.specs.declared.naming.Kind.{Kind}
use Rattle.cm_ctx.specs.declared.naming.Kind.TheVariants as kind
use Rattle.cm_ctx.specs.Asking.{IsAmong, InRow}
use Rattle.cm_ctx.specs.Making.{counted, first_counts}
use Rattle.cm_ctx.specs.Naming.{syms_in, syms_of}
use Rattle.cm_beside.specs.Seen.{symbol_at}

-- an item of two lists, of which the first one's are made of others
split : {D S : Type 0} (f : D → S) (ds : List D) (more : List S) (i : ℕ) (s : S)
    → slice_get (map f ds ++ more) i ≡ Some s
    → ((d : D) × (slice_get ds i ≡ Some d) × (f d ≡ s)) ⊎ ((j : ℕ) × (i ≡ length ds + j) × (slice_get more j ≡ Some s))
split f [] more i s at = inr (i, omega arith, at)
split f (d ∷ ds) more zero s at = let same : f d ≡ s = cc in inl (d, refl, same)
split f (d ∷ ds) more (suc i) s at = elim (split f ds more i s at) [
  | inl h ↦ inl h
  | inr h ↦ let e = h.1 in inr (h.0, omega (arith, e), h.2)
]

-- one of these variables, with the symbol that it was made for
pub record Found {D : Type 0} (parts : Variables → List D) (symbol : D → Sym) (count : Counts → ℕ) (ps : List Piece)
    (x : ℕ) (s : Sym) : Type 0 where
  pub piece : Piece
  pub among : IsAmong ps piece
  pub place : ℕ
  pub part : D
  pub here : slice_get (parts piece.variables) place ≡ Some part
  pub named : symbol part ≡ s
  pub number : x ≡ count piece.from + place

module _ {D : Type 0} (k : Kind) (parts : Variables → List D) (symbol : D → Sym) (count : Counts → ℕ)
    (in_order : (p : Piece) → syms_in k p ≡ map symbol (parts p.variables))
    (more : (c : Counts) (vs : Variables) → count (counted c vs) ≡ count c + length (parts vs)) where
  find : (c d : Counts) (ps : List Piece) → InRow c ps d → (x i : ℕ) (s : Sym) → x ≡ count c + i
      → slice_get (syms_of k ps) i ≡ Some s → Found parts symbol count ps x s
  find c d [] row x i s is at = absurd (cc)
  find c d (p ∷ ps) row x i s is at =
      elim (split symbol (parts p.variables) (syms_of k ps) i s
      (ap (λ ss. slice_get (ss ++ syms_of k ps) i) (sym (in_order p)) ∙ at)) [
        | inl h ↦ record {
          piece = p;
          among = (0, refl);
          place = i;
          part = h.0;
          here = h.1;
          named = h.2;
          number = is ∙ ap (λ e. count e + i) (sym row.0);
        }
        | inr h ↦
            let n = more c p.variables in
            let e = h.1 in
            let rest = find (counted c p.variables) d ps row.1 x h.0 s (omega (arith, is, n, e)) h.2 in
            record {
              piece = rest.piece;
              among = (suc rest.among.0, rest.among.1);
              place = rest.place;
              part = rest.part;
              here = rest.here;
              named = rest.named;
              number = rest.number;
            }
      ]

-- a variable of one of these pieces
abbrev pub FoundAt : List Piece → Var → Sym → Type 0
FoundAt ps (OfElement x) s = Found (λ vs. vs.elements) (λ (d : ElementPart). d.sym) (λ c. c.elements) ps x s
FoundAt ps (OfNumber x) s = Found (λ vs. vs.numbers) (λ (d : NumberPart). d.sym) (λ c. c.numbers) ps x s
FoundAt ps (OfTag x) s = Found (λ vs. vs.tags) (λ (d : TagPart). d.sym) (λ c. c.tags) ps x s
FoundAt ps (OfOption x) s = Found (λ vs. vs.options) (λ (d : OptionPart). d.sym) (λ c. c.options) ps x s

from_none : (i : ℕ) → i ≡ 0 + i
from_none i = omega arith

-- behind the constant 0
from_one : (i : ℕ) → suc i ≡ 1 + i
from_one i = omega arith

pub found : (ps : List Piece) (end : Counts) → InRow first_counts ps end → (x : Var) (s : Sym)
    → symbol_at ps x ≡ Some s → FoundAt ps x s
found ps end row (OfElement x) s at =
    find kind.Element (λ vs. vs.elements) (λ (d : ElementPart). d.sym) (λ c. c.elements) (λ p. refl) (λ c vs. refl)
    first_counts end ps row x x s (from_none x) at
found ps end row (OfNumber zero) s at = absurd (cc)
found ps end row (OfNumber (suc x)) s at =
    find kind.Number (λ vs. vs.numbers) (λ (d : NumberPart). d.sym) (λ c. c.numbers) (λ p. refl) (λ c vs. refl)
    first_counts end ps row (suc x) x s (from_one x) at
found ps end row (OfTag x) s at =
    find kind.Tag (λ vs. vs.tags) (λ (d : TagPart). d.sym) (λ c. c.tags) (λ p. refl) (λ c vs. refl)
    first_counts end ps row x x s (from_none x) at
found ps end row (OfOption x) s at =
    find kind.Option (λ vs. vs.options) (λ (d : OptionPart). d.sym) (λ c. c.options) (λ p. refl) (λ c vs. refl)
    first_counts end ps row x x s (from_none x) at
