-- The names of a model.
use Rattle.std.specs.Prelude.{ℕ, leb, ◌==◌, Bool, true, false, not, ◌&&◌, ◌||◌, List, [], ◌∷◌, ◌++◌, map, length, codes}
use Rattle.std.specs.Prelude.{bytes_eq, flat_map, drop}
use Rattle.std.specs.List.{list_all}
use Rattle.cm_model.specs.Limits.{name_limit}
use Rattle.cm_model.specs.Tables.{Tables}
use Rattle.cm_model.specs.declared.ty.Part.{Part}
use Rattle.cm_model.specs.declared.ty.EnumDecl.{EnumDecl}

abbrev pub is_letter : ℕ → Bool
is_letter n = (leb 65 n && leb n 90) || (leb 97 n && leb n 122)

-- a letter, a digit or an underscore
abbrev pub is_name_byte : ℕ → Bool
is_name_byte n = is_letter n || ((leb 48 n && leb n 57) || (n == 95))

abbrev pub reserved_words : List (List ℕ)
reserved_words =
    codes "and" ∷ codes "assume" ∷ codes "bool" ∷ codes "call" ∷ codes "case" ∷ codes "else" ∷ codes "enum"
    ∷ codes "false" ∷ codes "fn"
    ∷ codes "if" ∷ codes "int" ∷ codes "internal" ∷ codes "it" ∷ codes "let" ∷ codes "map" ∷ codes "none"
    ∷ codes "not" ∷ codes "option"
    ∷ codes "or" ∷ codes "record" ∷ codes "return" ∷ codes "some" ∷ codes "sort" ∷ codes "state" ∷ codes "true"
    ∷ codes "where"
    ∷ codes "with" ∷ []

abbrev pub is_among : List ℕ → List (List ℕ) → Bool
is_among name [] = false
is_among name (n ∷ ns) = bytes_eq name n || is_among name ns

abbrev pub begins_with_letter : List ℕ → Bool
begins_with_letter [] = false
begins_with_letter (n ∷ ns) = is_letter n

-- at most 40 bytes, a letter first, and no reserved word
abbrev pub is_name : List ℕ → Bool
is_name name = (begins_with_letter name && list_all is_name_byte name) && (leb (length name) name_limit
    && not (is_among name reserved_words))

abbrev pub are_distinct : List (List ℕ) → Bool
are_distinct [] = true
are_distinct (n ∷ ns) = not (is_among n ns) && are_distinct ns

-- the names of parts
abbrev pub part_names : List Part → List (List ℕ)
part_names = map (λ p. p.name)

-- an enum's name and its variants'
abbrev pub enum_names : EnumDecl → List (List ℕ)
enum_names d = d.name ∷ d.variants

-- the names that declarations take from the one set of names; bool's are reserved words
abbrev pub declared_names : Tables → List (List ℕ)
declared_names t =
    t.sorts ++ map (λ d. d.name) t.ints ++ flat_map enum_names (drop 1 t.enums) ++ map (λ d. d.name) t.records
    ++ map (λ d. d.name) t.states ++ map (λ d. d.name) t.funs ++ map (λ d. d.name) t.calls
