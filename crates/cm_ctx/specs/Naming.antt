-- The symbols of variables.
use Rattle.std.specs.Prelude.{List, [], ◌∷◌, ◌++◌, map}
use Rattle.cm_term.specs.declared.symbol.Sym.{Sym}
use Rattle.cm_ctx.specs.declared.piece.ElementPart.{ElementPart}
use Rattle.cm_ctx.specs.declared.piece.NumberPart.{NumberPart}
use Rattle.cm_ctx.specs.declared.piece.TagPart.{TagPart}
use Rattle.cm_ctx.specs.declared.piece.OptionPart.{OptionPart}
use Rattle.cm_ctx.specs.declared.piece.Piece.{Piece}
use Rattle.cm_ctx.specs.declared.naming.Kind.{Kind}
use Rattle.cm_ctx.specs.declared.naming.Kind.TheVariants as kind

-- the symbols of a piece's variables of a kind
abbrev pub syms_in : Kind → Piece → List Sym
syms_in kind.Element p = map (λ (d : ElementPart). d.sym) p.variables.elements
syms_in kind.Number p = map (λ (d : NumberPart). d.sym) p.variables.numbers
syms_in kind.Tag p = map (λ (d : TagPart). d.sym) p.variables.tags
syms_in kind.Option p = map (λ (d : OptionPart). d.sym) p.variables.options

-- those of all variables of a kind, by their numbers
abbrev pub syms_of : Kind → List Piece → List Sym
syms_of k [] = []
syms_of k (p ∷ ps) = syms_in k p ++ syms_of k ps
