-- The term of new variables that is made for a symbol, by its type.
use Rattle.std.specs.Prelude.{ℕ, ◌+◌, ℤ, pos, List, [], ◌∷◌, ◌++◌, map, length, slice_get, Option, Some, None}
use Rattle.cm_model.specs.Tables.{Tables}
use Rattle.cm_model.specs.Types.{or_else, record_values}
use Rattle.cm_model.specs.declared.ty.Ty.{Ty}
use Rattle.cm_model.specs.declared.ty.Ty.TheOpen.{Ty-F}
use Rattle.cm_model.specs.declared.ty.Ty.TheFolds.{fold-Ty}
use Rattle.cm_model.specs.declared.ty.IntDecl.{IntDecl}
use Rattle.cm_model.specs.declared.ty.EnumDecl.{EnumDecl}
use Rattle.cm_model.specs.declared.ty.RecDecl.{RecDecl}
use Rattle.cm_value.specs.Least.{lowest}
use Rattle.cm_term.specs.declared.atom.Num.TheVariants as num
use Rattle.cm_term.specs.declared.atom.Tag.TheVariants as tag
use Rattle.cm_term.specs.declared.symbol.Step.{Step}
use Rattle.cm_term.specs.declared.symbol.Step.TheVariants as step
use Rattle.cm_term.specs.declared.symbol.Root.{Root}
use Rattle.cm_term.specs.declared.symbol.Sym.{Sym}
use Rattle.cm_term.specs.declared.term.Term.{Term}
use Rattle.cm_term.specs.declared.term.Term.TheVariants as term
use Rattle.cm_ctx.specs.declared.piece.Counts.{Counts}
use Rattle.cm_ctx.specs.declared.piece.ElementPart.{ElementPart}
use Rattle.cm_ctx.specs.declared.piece.NumberPart.{NumberPart}
use Rattle.cm_ctx.specs.declared.piece.TagPart.{TagPart}
use Rattle.cm_ctx.specs.declared.piece.OptionPart.{OptionPart}
use Rattle.cm_ctx.specs.declared.piece.Variables.{Variables}
use Rattle.cm_ctx.specs.declared.piece.Piece.{Piece}

abbrev pub counts : ℕ → ℕ → ℕ → ℕ → Counts
counts e n t o = record { elements = e; numbers = n; tags = t; options = o }

-- those of a new context: the constant 0 alone
abbrev pub first_counts : Counts
first_counts = counts 0 1 0 0

abbrev pub variables : List ElementPart → List NumberPart → List TagPart → List OptionPart → Variables
variables es ns ts os = record { elements = es; numbers = ns; tags = ts; options = os }

-- these variables, then those
abbrev pub both : Variables → Variables → Variables
both v w = variables (v.elements ++ w.elements) (v.numbers ++ w.numbers) (v.tags ++ w.tags) (v.options ++ w.options)

-- how many there are with these variables
abbrev pub counted : Counts → Variables → Counts
counted c v =
    counts (c.elements + length v.elements) (c.numbers + length v.numbers) (c.tags + length v.tags)
    (c.options + length v.options)

-- where a part is made: of which symbol, and how many variables there are before it
pub record Place : Type 0 where
  pub root : Root
  pub path : List Step
  pub from : Counts

abbrev pub place : Root → List Step → Counts → Place
place r ss c = record { root = r; path = ss; from = c }

abbrev pub into : Place → Step → Place
into p s = place p.root (p.path ++ s ∷ []) p.from

abbrev pub behind : Place → Variables → Place
behind p v = place p.root p.path (counted p.from v)

abbrev pub sym_of : Place → Sym
sym_of p = record { root = p.root; path = p.path }

-- a term, and its variables in the order of their numbers, those of payloads included
pub record Made : Type 0 where
  pub term : Term
  pub variables : Variables

abbrev pub made : Term → Variables → Made
made t v = record { term = t; variables = v }

abbrev pub Maker : Type 0
Maker = Place → Made

abbrev pub element_made : ℕ → Maker
element_made s p =
    made (term.Elem (record { 0 = p.from.elements })) (variables (record { sort = s; sym = sym_of p } ∷ []) [] [] [])

abbrev pub highest : Option IntDecl → ℤ
highest (Some d) = d.hi
highest None = pos 0

abbrev pub number_made : Option IntDecl → Maker
number_made d p = made (term.Num (num.Plus (record { 0 = p.from.numbers }) (pos 0)))
    (variables [] (record { lo = lowest d; hi = highest d; sym = sym_of p } ∷ []) [] [])

abbrev pub variants_of : Option EnumDecl → ℕ
variants_of (Some d) = length d.variants
variants_of None = 1

abbrev pub tag_made : Option EnumDecl → Maker
tag_made d p = made (term.Tag (tag.Var (record { 0 = p.from.tags })))
    (variables [] [] (record { variants = variants_of d; sym = sym_of p } ∷ []) [])

-- the option of a payload; its number comes after those of the options in the payload
abbrev pub with_option : Place → Made → Made
with_option p m = made (term.Either (record { 0 = p.from.options + length m.variables.options }))
    (both m.variables (variables [] [] [] (record { payload = m.term; sym = sym_of p } ∷ [])))

abbrev pub option_made : Maker → Maker
option_made m p = with_option p (m (into p step.Payload))

-- the terms of a record's fields from the one with this number on, and their variables
pub record Fields : Type 0 where
  pub terms : List Term
  pub variables : Variables

abbrev pub fields : List Term → Variables → Fields
fields ts v = record { terms = ts; variables = v }

abbrev pub no_fields : Fields
no_fields = fields [] (variables [] [] [] [])

abbrev pub first_field : Made → Fields → Fields
first_field m f = fields (m.term ∷ f.terms) (both m.variables f.variables)

abbrev pub fields_made : ℕ → List Maker → Place → Fields
fields_made i [] p = no_fields
fields_made i (m ∷ ms) p =
    first_field (m (into p (step.Field i)))
    (fields_made (i + 1) ms (behind p (m (into p (step.Field i))).variables))

abbrev pub of_fields : Fields → Made
of_fields f = made (term.Rec f.terms) f.variables

abbrev pub record_made : List Maker → Maker
record_made ms p = of_fields (fields_made 0 ms p)

abbrev pub make_step : List IntDecl → List EnumDecl → List Maker → Ty-F Maker → Maker
make_step ints enums records (Ty-F.Sort s) = element_made s
make_step ints enums records (Ty-F.Int i) = number_made (slice_get ints i)
make_step ints enums records (Ty-F.Enum e) = tag_made (slice_get enums e)
make_step ints enums records (Ty-F.Rec r) = or_else (record_made []) (slice_get records r)
make_step ints enums records (Ty-F.Option m) = option_made m

-- where these are made for the records
abbrev pub made_in : List IntDecl → List EnumDecl → List Maker → Ty → Maker
made_in ints enums records = fold-Ty Maker (make_step ints enums records)

abbrev pub record_maker : List IntDecl → List EnumDecl → List Maker → RecDecl → Maker
record_maker ints enums before d = record_made (map (λ p. made_in ints enums before p.ty) d.fields)

-- what is made for each record, from what is made for those before it
unfoldable pub record_makers : List IntDecl → List EnumDecl → List RecDecl → List Maker
record_makers ints enums = record_values (record_maker ints enums) []

abbrev pub made_of : Tables → Ty → Maker
made_of t = made_in t.ints t.enums (record_makers t.ints t.enums t.records)

abbrev pub piece_from : Root → Counts → Made → Piece
piece_from root from m = record { root = root; term = m.term; from = from; variables = m.variables }

-- what is made for a symbol of this type, where there are so many variables
abbrev pub piece_of : Tables → Ty → Root → Counts → Piece
piece_of t u root from = piece_from root from (made_of t u (place root [] from))
