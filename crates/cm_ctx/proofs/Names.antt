-- Where the symbol of a variable stands.
use Rattle.std.proofs.Common.{◌≡◌, ◌<◌, ◌≤◌, ◌+◌, ◌-◌, ℕ, zero, suc, List, [], ◌∷◌, ◌++◌, drop, length}
use Rattle.std.proofs.Common.{slice_get, Some, refl, sym, ap, ◌∙◌, arith}
use Rattle.std.proofs.lemmas.List.{length-append, length-map}
use Rattle.cm_term.specs.declared.symbol.Sym.{Sym}
use Rattle.cm_ctx.specs.declared.piece.Counts.{Counts}
use Rattle.cm_ctx.specs.declared.piece.ElementPart.{ElementPart}
use Rattle.cm_ctx.specs.declared.piece.NumberPart.{NumberPart}
use Rattle.cm_ctx.specs.declared.piece.TagPart.{TagPart}
use Rattle.cm_ctx.specs.declared.piece.OptionPart.{OptionPart}
use Rattle.cm_ctx.specs.declared.piece.Piece.{Piece}
use Rattle.cm_ctx.specs.declared.naming.Kind.{Kind}
use Rattle.cm_ctx.specs.declared.naming.Kind.TheVariants as kind
use Rattle.cm_ctx.specs.Making.{counted}
use Rattle.cm_ctx.specs.Asking.{InRow}
use Rattle.cm_ctx.specs.Naming.{syms_in, syms_of}
use Rattle.cm_ctx.proofs.Indexing.{get_left, get_right}

next : (i : ℕ) → suc i ≡ i + 1
next i = omega arith

split : (k : Kind) (ps : List Piece) (i : ℕ) (p : Piece) → slice_get ps i ≡ Some p
    → syms_of k (drop i ps) ≡ syms_in k p ++ syms_of k (drop (i + 1) ps)
split k ps i p at = more ps i at ∙ ap (λ j. syms_in k p ++ syms_of k (drop j ps)) (next i)
  where
    more : (ps : List Piece) (i : ℕ) → slice_get ps i ≡ Some p
        → syms_of k (drop i ps) ≡ syms_in k p ++ syms_of k (drop (suc i) ps)
    more [] i at = absurd (cc)
    more (q ∷ ps) zero at = let same : q ≡ p = cc in ap (λ (x : Piece). syms_in k x ++ syms_of k ps) same
    more (q ∷ ps) (suc i) at = more ps i at

pub here : (k : Kind) (ps : List Piece) (i left : ℕ) (p : Piece) → slice_get ps i ≡ Some p
    → left < length (syms_in k p) → slice_get (syms_of k (drop i ps)) left ≡ slice_get (syms_in k p) left
here k ps i left p at lt = ap (λ ss. slice_get ss left) (split k ps i p at)
    ∙ get_left (syms_in k p) (syms_of k (drop (i + 1) ps)) left lt

pub further : (k : Kind) (ps : List Piece) (i left size : ℕ) (p : Piece) → slice_get ps i ≡ Some p
    → size ≡ length (syms_in k p) → size ≤ left
    → slice_get (syms_of k (drop i ps)) left ≡ slice_get (syms_of k (drop (i + 1) ps)) (left - size)
further k ps i left size p at is le = ap (λ ss. slice_get ss left) (split k ps i p at)
    ∙ get_right (syms_in k p) (syms_of k (drop (i + 1) ps)) left (left - size) (omega arith)

dropped : (ps : List Piece) (i : ℕ) → length ps ≤ i → drop i ps ≡ []
dropped [] zero h = refl
dropped [] (suc i) h = refl
dropped (p ∷ ps) zero h = absurd (omega arith)
dropped (p ∷ ps) (suc i) h = dropped ps i (omega arith)

pub never : (k : Kind) (ps : List Piece) (i left n : ℕ) → length ps ≤ i → n < length (syms_of k ps)
    → slice_get (syms_of k (drop i ps)) left ≡ slice_get (syms_of k ps) n → ⊥
never k ps i left n le lt same = found (syms_of k ps) n lt (sym same
    ∙ ap (λ (qs : List Piece). slice_get (syms_of k qs) left) (dropped ps i le))
  where
    found : (ss : List Sym) (n : ℕ) → n < length ss → slice_get ss n ≡ slice_get [] left → ⊥
    found [] n lt e = absurd (omega arith)
    found (s ∷ ss) zero lt e = absurd (cc)
    found (s ∷ ss) (suc n) lt e = found ss n (omega arith) e

-- each variable of the context has a symbol
pub elements_named : (a b : Counts) (ps : List Piece) → InRow a ps b
    → a.elements + length (syms_of kind.Element ps) ≡ b.elements
elements_named a b [] r = let e = ap (λ (c : Counts). c.elements) r in omega arith
elements_named a b (p ∷ ps) r =
    let rest = elements_named (counted a p.variables) b ps r.1 in
    omega (
      arith,
      length-append (syms_in kind.Element p) (syms_of kind.Element ps),
      length-map p.variables.elements (λ (d : ElementPart). d.sym),
    )

pub numbers_named : (a b : Counts) (ps : List Piece) → InRow a ps b
    → a.numbers + length (syms_of kind.Number ps) ≡ b.numbers
numbers_named a b [] r = let e = ap (λ (c : Counts). c.numbers) r in omega arith
numbers_named a b (p ∷ ps) r =
    let rest = numbers_named (counted a p.variables) b ps r.1 in
    omega (
      arith,
      length-append (syms_in kind.Number p) (syms_of kind.Number ps),
      length-map p.variables.numbers (λ (d : NumberPart). d.sym),
    )

pub tags_named : (a b : Counts) (ps : List Piece) → InRow a ps b → a.tags + length (syms_of kind.Tag ps) ≡ b.tags
tags_named a b [] r = let e = ap (λ (c : Counts). c.tags) r in omega arith
tags_named a b (p ∷ ps) r =
    let rest = tags_named (counted a p.variables) b ps r.1 in
    omega (
      arith,
      length-append (syms_in kind.Tag p) (syms_of kind.Tag ps),
      length-map p.variables.tags (λ (d : TagPart). d.sym),
    )

pub options_named : (a b : Counts) (ps : List Piece) → InRow a ps b
    → a.options + length (syms_of kind.Option ps) ≡ b.options
options_named a b [] r = let e = ap (λ (c : Counts). c.options) r in omega arith
options_named a b (p ∷ ps) r =
    let rest = options_named (counted a p.variables) b ps r.1 in
    omega (
      arith,
      length-append (syms_in kind.Option p) (syms_of kind.Option ps),
      length-map p.variables.options (λ (d : OptionPart). d.sym),
    )
