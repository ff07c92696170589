-- The type of a variable's symbol is the one that the variable was made for.
use Rattle.std.proofs.Common.{◌≡◌, ◌<◌, ◌+◌, ℕ, zero, suc, true, ◌&&◌, leb, List, [], ◌∷◌, ◌++◌, map, length, slice_get}
use Rattle.std.proofs.Common.{Option, Some, None, refl, sym, ap, subst, ◌∙◌, arith}
use Rattle.std.specs.List.{AllByRecursion, list_all}
use Rattle.std.specs.Option.{option_map}
use Rattle.std.proofs.lemmas.Bool.{and_parts, lt-ltb}
use Rattle.std.proofs.lemmas.List.{map-append}
use Rattle.std.proofs.lemmas.Option.{slice_get-map}
use Rattle.cm_model.specs.Tables.{Tables}
use Rattle.cm_model.specs.Types.{IsType, is_type_before, is_type_in_use, ty_step}
use Rattle.cm_model.specs.Names.{are_distinct, is_name, part_names}
use Rattle.cm_model.specs.WellTyped.{IsWellTyped, is_record, is_state, is_key_type, is_call, are_parameters}
use Rattle.cm_model.specs.declared.ty.Ty.{Ty, out-Ty}
use Rattle.cm_model.specs.declared.ty.Ty.TheVariants as ty
use Rattle.cm_model.specs.declared.ty.Ty.TheOpen.{Ty-F}
use Rattle.cm_model.specs.declared.ty.Ty.TheFolds.{map-Ty}
use Rattle.cm_model.specs.declared.ty.Part.{Part}
use Rattle.cm_model.specs.declared.ty.EnumDecl.{EnumDecl}
use Rattle.cm_model.specs.declared.ty.RecDecl.{RecDecl}
use Rattle.cm_model.specs.declared.body.Call.{Call}
use Rattle.cm_model.specs.declared.pair.Pair.{Pair}
use Rattle.cm_value.specs.Membership.{has_variant}
use Rattle.cm_value.proofs.Declared.{all_at, each_at, there}
use Rattle.cm_value.proofs.Types.{type_before}
use Rattle.cm_term.specs.declared.symbol.Step.{Step}
use Rattle.cm_term.specs.declared.symbol.Step.TheVariants as step
use Rattle.cm_term.specs.declared.symbol.Root.{Root}
use Rattle.cm_term.specs.declared.symbol.Root.TheVariants as root
use Rattle.cm_term.specs.declared.symbol.Sym.{Sym}
use Rattle.cm_term.specs.Valuation.{Valuation, Var, OfElement, OfNumber, OfTag, OfOption}
use Rattle.cm_cells.specs.CellTable.{Place}
use Rattle.cm_ctx.specs.declared.naming.Kind.{Kind}
use Rattle.cm_ctx.specs.declared.naming.Kind.TheVariants as kind
use Rattle.cm_ctx.specs.declared.piece.Counts.{Counts}
use Rattle.cm_ctx.specs.declared.piece.ElementPart.{ElementPart}
use Rattle.cm_ctx.specs.declared.piece.NumberPart.{NumberPart}
use Rattle.cm_ctx.specs.declared.piece.TagPart.{TagPart}
use Rattle.cm_ctx.specs.declared.piece.OptionPart.{OptionPart}
use Rattle.cm_ctx.specs.declared.piece.Piece.{Piece}
use Rattle.cm_ctx.specs.declared.piece.Variables.{Variables}
use Rattle.cm_ctx.specs.Asking.{InRow}
use Rattle.cm_ctx.specs.Contexts.{sorts_of}
use Rattle.cm_ctx.specs.Giving.{EachFrom, IsVariant}
use Rattle.cm_ctx.specs.Making.{counted, first_counts, piece_of, variants_of}
use Rattle.cm_ctx.specs.Naming.{syms_in, syms_of}
use Rattle.cm_exec.specs.Run.{piece_at, pieces_for, counted_all, GivesAll}
use Rattle.cm_exec.specs.Run as run
use Rattle.cm_beside.specs.Nodes.{pieces_from, pieces_a, pieces_b, pieces_of, types_of, parameter_types, counts_a}
use Rattle.cm_beside.specs.Nodes.{counts_b, IsValuation}
use Rattle.cm_beside.specs.Seen.{symbol_at}
use Rattle.cm_beside.proofs.Declaring.{IsDeclared}
use Rattle.cm_beside.proofs.Rows.{row_both, row_from}
use Rattle.cm_cond.specs.declared.cell.CellTerm.{CellTerm}
use Rattle.cm_cond.specs.Typing.{type_in, type_along, payload_type, field, declared_field, type_of_part, parameter}
use Rattle.cm_cond.specs.Typing.{parameter_in, root_type, cell_type, value_type, symbol_type}
use Rattle.cm_case.proofs.Parts.{LeadsTo, IsInteger, IsOptional, IsOfSort, IsOfEnum, piece_leads, all_so, all_both}
use Rattle.cm_case.proofs.Extending.{all_get}

-- the parts of a kind of all pieces, in order
abbrev pub parts_in : {A : Type 0} → (Variables → List A) → List Piece → List A
parts_in g [] = []
parts_in g (q ∷ qs) = g q.variables ++ parts_in g qs

syms_are : {A : Type 0} (k : Kind) (g : Variables → List A) (f : A → Sym)
    → ((q : Piece) → syms_in k q ≡ map f (g q.variables)) → (ps : List Piece) → syms_of k ps ≡ map f (parts_in g ps)
syms_are k g f e [] = refl
syms_are k g f e (q ∷ qs) =
    ap (λ ss. ss ++ syms_of k qs) (e q) ∙ ap (λ ss. map f (g q.variables) ++ ss) (syms_are k g f e qs)
    ∙ sym (map-append f (g q.variables) (parts_in g qs))

sorts_are : (ps : List Piece)
    → sorts_of ps ≡ map (λ (d : ElementPart). d.sort) (parts_in (λ vs. vs.elements) ps)
sorts_are [] = refl
sorts_are (q ∷ qs) =
    ap (λ ss. map (λ (d : ElementPart). d.sort) q.variables.elements ++ ss) (sorts_are qs)
    ∙ sym (map-append (λ (d : ElementPart). d.sort) q.variables.elements (parts_in (λ vs. vs.elements) qs))

found_part : {A B : Type 0} (f : A → B) (xs : List A) (i : ℕ) (s : B) → slice_get (map f xs) i ≡ Some s
    → (d : A) × (slice_get xs i ≡ Some d) × (f d ≡ s)
found_part f [] i s at = absurd (cc)
found_part f (x ∷ xs) zero s at = let same : f x ≡ s = cc in (x, refl, same)
found_part f (x ∷ xs) (suc i) s at = found_part f xs i s at

-- the part of a variable with this symbol
part_at : {A : Type 0} (k : Kind) (g : Variables → List A) (f : A → Sym)
    → ((q : Piece) → syms_in k q ≡ map f (g q.variables)) → (ps : List Piece) (x : ℕ) (s : Sym)
    → slice_get (syms_of k ps) x ≡ Some s → (d : A) × (slice_get (parts_in g ps) x ≡ Some d) × (f d ≡ s)
part_at k g f e ps x s at =
    found_part f (parts_in g ps) x s (sym (ap (λ ss. slice_get ss x) (syms_are k g f e ps)) ∙ at)

parts_all : {A : Type 0} (P : A → Type 0) (g : Variables → List A) (ps : List Piece)
    → AllByRecursion (λ (q : Piece). AllByRecursion P (g q.variables)) ps → AllByRecursion P (parts_in g ps)
parts_all P g [] h = tt
parts_all P g (q ∷ qs) h = all_both P (g q.variables) (parts_in g qs) h.0 (parts_all P g qs h.1)

-- each tag is a variant of its enum
tags_from : (v : Valuation) (x : ℕ) (ds : List TagPart) (more : List TagPart) → EachFrom (IsVariant v) x ds
    → ((i : ℕ) (d : TagPart) → slice_get more i ≡ Some d → v.tag (x + length ds + i) < d.variants)
    → (i : ℕ) (d : TagPart) → slice_get (ds ++ more) i ≡ Some d → v.tag (x + i) < d.variants
tags_from v x [] more h later i d at =
    let e : x + 0 + i ≡ x + i = omega arith in subst (λ n. v.tag n < d.variants) e (later i d at)
tags_from v x (c ∷ ds) more h later zero d at =
    let e : x ≡ x + 0 = omega arith in
    let same : c ≡ d = cc in
    subst (λ n. v.tag n < d.variants) e (subst (λ y. v.tag x < y.variants) same h.0)
tags_from v x (c ∷ ds) more h later (suc i) d at =
    let e : x + 1 + i ≡ x + suc i = omega arith in
    subst (λ n. v.tag n < d.variants) e (tags_from v (x + 1) ds more h.1
    (λ j b f. (let m : x + length (c ∷ ds) + j ≡ x + 1 + length ds + j = omega arith in
    subst (λ n. v.tag n < b.variants) m (later j b f))) i d at)

tags_given : (v : Valuation) (c : Counts) (ps : List Piece) → InRow c ps (counted_all c ps) → GivesAll ps v
    → (i : ℕ) (d : TagPart) → slice_get (parts_in (λ vs. vs.tags) ps) i ≡ Some d → v.tag (c.tags + i) < d.variants
tags_given v c [] row h i d at = absurd (cc)
tags_given v c (q ∷ qs) row h i d at =
    tags_from v c.tags q.variables.tags (parts_in (λ vs. vs.tags) qs)
    (subst (λ n. EachFrom (IsVariant v) n q.variables.tags) (ap (λ e. e.tags) row.0) h.0.tags)
    (tags_given v (counted c q.variables) qs row.1 h.1) i d at

module _ (t : Tables) (typed : IsWellTyped t) where
  -- parts of declared types are of declared types
  field_declared : (r i : ℕ) (d : RecDecl) (p : Part) → slice_get t.records r ≡ Some d → slice_get d.fields i ≡ Some p
      → IsType t p.ty
  field_declared r i d p at field =
      let whole = each_at (is_record t) 0 t.records r r d typed.fields at (omega arith) in
      let types = (and_parts (list_all (λ q. is_type_before t r q.ty && is_type_in_use t q.ty) d.fields)
      ((are_distinct (part_names d.fields) && list_all is_name (part_names d.fields))
      && is_type_in_use t (ty.Rec r)) (and_parts (leb 1 (length d.fields)) _ whole).1).0 in
      (and_parts (is_type_before t (length t.records) p.ty) _
      (and_parts (is_type_before t r p.ty) (is_type_in_use t p.ty)
      (all_at (λ q. is_type_before t r q.ty && is_type_in_use t q.ty) d.fields i p types field)).1).0

  step_declared : (s : Step) (u w : Ty) → IsType t u → type_in t s u ≡ Some w → IsType t w
  step_declared (step.Field i) u w is e = by (out-Ty u) e
    where
      part : (r : ℕ) (d : RecDecl) → slice_get t.records r ≡ Some d → (o : Option Part) → slice_get d.fields i ≡ o
          → type_of_part o ≡ Some w → IsType t w
      part r d at (Some p) f k = let same : p.ty ≡ w = cc in subst (IsType t) same (field_declared r i d p at f)
      part r d at None f k = absurd (cc)

      found : (r : ℕ) (o : Option RecDecl) → slice_get t.records r ≡ o
          → type_of_part (declared_field o i) ≡ Some w → IsType t w
      found r (Some d) at k = part r d at (slice_get d.fields i) refl k
      found r None at k = absurd (cc)

      by : (z : Ty-F Ty) → type_of_part (field t z i) ≡ Some w → IsType t w
      by (Ty-F.Rec r) k = found r (slice_get t.records r) refl k
      by (Ty-F.Sort n) k = absurd (cc)
      by (Ty-F.Int n) k = absurd (cc)
      by (Ty-F.Enum n) k = absurd (cc)
      by (Ty-F.Option n) k = absurd (cc)
  step_declared step.Payload u w is e = by (out-Ty u) refl e
    where
      by : (z : Ty-F Ty) → out-Ty u ≡ z → payload_type z ≡ Some w → IsType t w
      by (Ty-F.Option n) f k =
          let same : n ≡ w = cc in
          subst (IsType t) same (sym (type_before t (length t.records) u
          ∙ ap (λ y. ty_step t (length t.records) (map-Ty Ty _ (is_type_before t (length t.records)) y)) f) ∙ is)
      by (Ty-F.Sort n) f k = absurd (cc)
      by (Ty-F.Int n) f k = absurd (cc)
      by (Ty-F.Enum n) f k = absurd (cc)
      by (Ty-F.Rec n) f k = absurd (cc)

  along_declared : (ss : List Step) (u w : Ty) → IsType t u → type_along t ss (Some u) ≡ Some w → IsType t w
  along_declared [] u w is e = let same : u ≡ w = cc in subst (IsType t) same is
  along_declared (s ∷ ss) u w is e = by (type_in t s u) refl e (along_declared ss)
    where
      nothing : (ss : List Step) → type_along t ss None ≡ None
      nothing [] = refl
      nothing (s ∷ ss) = refl

      by : (o : Option Ty) → type_in t s u ≡ o → type_along t ss o ≡ Some w
          → ((u w : Ty) → IsType t u → type_along t ss (Some u) ≡ Some w → IsType t w) → IsType t w
      by (Some x) f k later = later x w (step_declared s u x is f) k
      by None f k later = absurd (let no_ : None ≡ Some w = sym (nothing ss) ∙ k in cc)

  enum_declared : (u : Ty) (e : ℕ) → IsType t u → out-Ty u ≡ Ty-F.Enum e
      → (d : EnumDecl) × (slice_get t.enums e ≡ Some d)
  enum_declared u e is of =
      there t.enums e (sym (type_before t (length t.records) u
      ∙ ap (λ y. ty_step t (length t.records) (map-Ty Ty _ (is_type_before t (length t.records)) y)) of) ∙ is)

  module _ (p : Pair) (cells : List CellTerm) where
    -- a symbol's type, of which this is so
    pub record HasType (s : Sym) (P : Ty → Type 0) : Type 0 where
      pub end : Ty
      pub typed_so : symbol_type t p cells s ≡ Some end
      pub is_type : IsType t end
      pub form : P end

    pub record PieceTyped (q : Piece) : Type 0 where
      pub elements : AllByRecursion (λ (d : ElementPart). HasType d.sym (IsOfSort d)) q.variables.elements
      pub numbers : AllByRecursion (λ (d : NumberPart). HasType d.sym IsInteger) q.variables.numbers
      pub tags : AllByRecursion (λ (d : TagPart). HasType d.sym (IsOfEnum t d)) q.variables.tags
      pub options : AllByRecursion (λ (d : OptionPart). HasType d.sym IsOptional) q.variables.options

    from_lead : (r : Root) (u : Ty) → root_type t p cells r ≡ Some u → IsType t u → (s : Sym) (P : Ty → Type 0)
        → LeadsTo t r [] u s P → HasType s P
    from_lead r u at is s P h = record {
      end = h.end;
      typed_so = ap (λ ss. type_along t ss (root_type t p cells s.root)) h.path
          ∙ ap (λ k. type_along t h.rest (root_type t p cells k)) h.root
          ∙ ap (type_along t h.rest) at ∙ h.typed;
      is_type = along_declared h.rest u h.end is h.typed;
      form = h.form;
    }

    piece_typed : (r : Root) (u : Ty) (c : Counts) → root_type t p cells r ≡ Some u → IsType t u
        → PieceTyped (piece_of t u r c)
    piece_typed r u c at is =
        let h = piece_leads t u r c in
        let vs = (piece_of t u r c).variables in
        record {
          elements = all_so (λ (d : ElementPart). LeadsTo t r [] u d.sym (IsOfSort d))
              (λ (d : ElementPart). HasType d.sym (IsOfSort d)) vs.elements
              (λ d. from_lead r u at is d.sym (IsOfSort d)) h.elements;
          numbers = all_so (λ (d : NumberPart). LeadsTo t r [] u d.sym IsInteger)
              (λ (d : NumberPart). HasType d.sym IsInteger) vs.numbers
              (λ d. from_lead r u at is d.sym IsInteger) h.numbers;
          tags = all_so (λ (d : TagPart). LeadsTo t r [] u d.sym (IsOfEnum t d))
              (λ (d : TagPart). HasType d.sym (IsOfEnum t d)) vs.tags
              (λ d. from_lead r u at is d.sym (IsOfEnum t d)) h.tags;
          options = all_so (λ (d : OptionPart). LeadsTo t r [] u d.sym IsOptional)
              (λ (d : OptionPart). HasType d.sym IsOptional) vs.options
              (λ d. from_lead r u at is d.sym IsOptional) h.options;
        }

    row_typed : (r : ℕ → Root) (i : ℕ) (us : List Ty) (c : Counts)
        → ((j : ℕ) (u : Ty) → slice_get us j ≡ Some u → root_type t p cells (r (i + j)) ≡ Some u)
        → AllByRecursion (IsType t) us → AllByRecursion PieceTyped (pieces_from t r i us c)
    row_typed r i [] c at is = tt
    row_typed r i (u ∷ us) c at is = (
      piece_typed (r i) u c
          (let e : i ≡ i + 0 = omega arith in ap (λ n. root_type t p cells (r n)) e ∙ at 0 u refl) is.0,
      row_typed r (i + 1) us (counted c (piece_of t u (r i) c).variables)
          (λ j w f. (let e : i + 1 + j ≡ i + suc j = omega arith in
          ap (λ n. root_type t p cells (r n)) e ∙ at (suc j) w f)) is.1,
    )

    -- cells of these states
    abbrev pub StatesAre : List Place → Type 0
    StatesAre places =
        (j : ℕ) (q : Place) → slice_get places j ≡ Some q
        → (k : CellTerm) × (slice_get cells j ≡ Some k) × (k.state ≡ q.state)

    state_type : (q : Place) → (d : IsDeclared t q) → IsType t d.0.value
    state_type q d =
        let state = all_at (is_state t) t.states q.state d.0 typed.cells d.1 in
        let used = (and_parts (is_type_in_use t d.0.value) _ (and_parts (is_key_type t d.0.key) _ state).1).0 in
        (and_parts (is_type_before t (length t.records) d.0.value) _ used).0

    cells_typed : (c : Counts) (n : ℕ) (qs : List Place) → AllByRecursion (IsDeclared t) qs
        → ((j : ℕ) (q : Place) → slice_get qs j ≡ Some q
        → (k : CellTerm) × (slice_get cells (n + j) ≡ Some k) × (k.state ≡ q.state))
        → AllByRecursion PieceTyped (pieces_for t c n qs)
    cells_typed c n [] declared at = tt
    cells_typed c n (q ∷ qs) declared at =
        let d = declared.0 in
        let k = at 0 q refl in
        let same : d.0.value ≡ run.value_type (slice_get t.states q.state) = sym (ap run.value_type d.1) in
        let root_is : root_type t p cells (root.Cell n) ≡ Some d.0.value =
        (let e : n ≡ n + 0 = omega arith in
        ap (λ m. cell_type t (slice_get cells m)) e ∙ ap (cell_type t) k.1
        ∙ ap (λ s. value_type (slice_get t.states s)) k.2 ∙ ap value_type d.1) in (
          piece_typed (root.Cell n) (run.value_type (slice_get t.states q.state)) c
              (root_is ∙ ap (λ u. Some u) same) (subst (IsType t) same (state_type q d)),
          cells_typed (counted c (piece_at t c n q).variables) (n + 1) qs declared.1
              (λ j r f. (let e : n + 1 + j ≡ n + suc j = omega arith in
              let more = at (suc j) r f in
              (more.0, ap (slice_get cells) e ∙ more.1, more.2))),
        )

    parameters_in_use : (us : List Ty) → list_all (is_type_in_use t) us ≡ true → AllByRecursion (IsType t) us
    parameters_in_use [] h = tt
    parameters_in_use (u ∷ us) h =
        let both = and_parts (is_type_in_use t u) (list_all (is_type_in_use t) us) h in
        ((and_parts (is_type_before t (length t.records) u) _ both.0).0, parameters_in_use us both.1)

    parameters_declared : (call : ℕ) → AllByRecursion (IsType t) (types_of t call)
    parameters_declared call = by (slice_get t.calls call) refl
      where
        by : (o : Option Call) → slice_get t.calls call ≡ o → AllByRecursion (IsType t) (parameter_types o)
        by (Some d) at =
            let whole = all_at (is_call t (length t.funs)) t.calls call d typed.bodies at in
            parameters_in_use (map (λ q. q.ty) d.params)
            (and_parts _ _ (and_parts (are_parameters t (map (λ q. q.ty) d.params)) _ (and_parts _ _ whole).0).0).0
        by None at = tt

    parameter_is : (call j : ℕ) (u : Ty) → slice_get (types_of t call) j ≡ Some u
        → type_of_part (parameter t call j) ≡ Some u
    parameter_is call j u at = by (slice_get t.calls call) at
      where
        found : (o : Option Part) → option_map (λ (q : Part). q.ty) o ≡ Some u → type_of_part o ≡ Some u
        found (Some q) h = h
        found None h = absurd (cc)

        by : (o : Option Call) → slice_get (parameter_types o) j ≡ Some u → type_of_part (parameter_in o j) ≡ Some u
        by (Some d) h = found (slice_get d.params j) (sym (slice_get-map (λ (q : Part). q.ty) d.params j) ∙ h)
        by None h = absurd (cc)

    module _ (places : List Place) (declared : AllByRecursion (IsDeclared t) places) (states : StatesAre places) where
      abbrev pieces : List Piece
      pieces = pieces_of t p places

      all_typed : AllByRecursion PieceTyped pieces
      all_typed =
          all_both PieceTyped (pieces_a t p) _
          (row_typed root.A 0 (types_of t p.a) first_counts
          (λ j u h. (let e : 0 + j ≡ j = omega arith in
          ap (λ n. type_of_part (parameter t p.a n)) e ∙ parameter_is p.a j u h)) (parameters_declared p.a))
          (all_both PieceTyped (pieces_b t p) _
          (row_typed root.B 0 (types_of t p.b) (counts_a t p)
          (λ j u h. (let e : 0 + j ≡ j = omega arith in
          ap (λ n. type_of_part (parameter t p.b n)) e ∙ parameter_is p.b j u h)) (parameters_declared p.b))
          (cells_typed (counts_b t p) 0 places declared
          (λ j q h. (let e : 0 + j ≡ j = omega arith in
          let k = states j q h in (k.0, ap (slice_get cells) e ∙ k.1, k.2)))))

      cells_row : (c : Counts) (n : ℕ) (qs : List Place)
          → InRow c (pieces_for t c n qs) (counted_all c (pieces_for t c n qs))
      cells_row c n [] = refl
      cells_row c n (q ∷ qs) = (refl, cells_row (counted c (piece_at t c n q).variables) (n + 1) qs)

      whole_row : InRow first_counts pieces (counted_all first_counts pieces)
      whole_row =
          row_both first_counts (pieces_a t p) (pieces_b t p ++ pieces_for t (counts_b t p) 0 places)
          (row_from t root.A 0 (types_of t p.a) first_counts)
          (row_both (counts_a t p) (pieces_b t p) (pieces_for t (counts_b t p) 0 places)
          (row_from t root.B 0 (types_of t p.b) (counts_a t p)) (cells_row (counts_b t p) 0 places))

      -- the form of the type that a variable was made for
      abbrev pub IsTypeOf : Var → Ty → Type 0
      IsTypeOf (OfElement x) u = (r : ℕ) × (slice_get (sorts_of pieces) x ≡ Some r) × (out-Ty u ≡ Ty-F.Sort r)
      IsTypeOf (OfNumber x) u = IsInteger u
      IsTypeOf (OfTag x) u =
          (e : ℕ) × (out-Ty u ≡ Ty-F.Enum e)
          × ((v : Valuation) → IsValuation pieces v → has_variant (slice_get t.enums e) (v.tag x) ≡ true)
      IsTypeOf (OfOption x) u = IsOptional u

      -- the variants of a tag's enum
      variant_of : (x : ℕ) (d : TagPart) → slice_get (parts_in (λ vs. vs.tags) pieces) x ≡ Some d → (e : ℕ)
          → (c : EnumDecl) → slice_get t.enums e ≡ Some c → d.variants ≡ variants_of (slice_get t.enums e)
          → (v : Valuation) → IsValuation pieces v → has_variant (slice_get t.enums e) (v.tag x) ≡ true
      variant_of x d part e c at many v is =
          let given = tags_given v first_counts pieces whole_row is.given x d part in
          let n : 0 + x ≡ x = omega arith in
          let lt : v.tag x < length c.variants =
          subst (λ m. v.tag x < m) (many ∙ ap variants_of at) (subst (λ y. v.tag y < d.variants) n given) in
          ap (λ o. has_variant o (v.tag x)) at ∙ lt-ltb (v.tag x) (length c.variants) lt

      -- the type of a variable's symbol
      pub symbol_typed : (x : Var) (s : Sym) → symbol_at pieces x ≡ Some s → HasType s (IsTypeOf x)
      symbol_typed (OfElement x) s at =
          let d = part_at kind.Element (λ vs. vs.elements) (λ (d : ElementPart). d.sym) (λ q. refl) pieces x s at in
          let h = all_get (λ (d : ElementPart). HasType d.sym (IsOfSort d)) (parts_in (λ vs. vs.elements) pieces) x d.0
          (parts_all (λ (d : ElementPart). HasType d.sym (IsOfSort d)) (λ vs. vs.elements) pieces
          (all_so PieceTyped _ pieces (λ q k. k.elements) all_typed)) d.1 in
          let sort : slice_get (sorts_of pieces) x ≡ Some d.0.sort =
          ap (λ ss. slice_get ss x) (sorts_are pieces)
          ∙ slice_get-map (λ (d : ElementPart). d.sort) (parts_in (λ vs. vs.elements) pieces) x
          ∙ ap (option_map (λ (d : ElementPart). d.sort)) d.1 in
          record {
            end = h.end;
            typed_so = ap (symbol_type t p cells) (sym d.2) ∙ h.typed_so;
            is_type = h.is_type;
            form = (d.0.sort, sort, h.form);
          }
      symbol_typed (OfNumber zero) s at = absurd (cc)
      symbol_typed (OfNumber (suc x)) s at =
          let d = part_at kind.Number (λ vs. vs.numbers) (λ (d : NumberPart). d.sym) (λ q. refl) pieces x s at in
          let h = all_get (λ (d : NumberPart). HasType d.sym IsInteger) (parts_in (λ vs. vs.numbers) pieces) x d.0
          (parts_all (λ (d : NumberPart). HasType d.sym IsInteger) (λ vs. vs.numbers) pieces
          (all_so PieceTyped _ pieces (λ q k. k.numbers) all_typed)) d.1 in
          record {
            end = h.end;
            typed_so = ap (symbol_type t p cells) (sym d.2) ∙ h.typed_so;
            is_type = h.is_type;
            form = h.form;
          }
      symbol_typed (OfTag x) s at =
          let d = part_at kind.Tag (λ vs. vs.tags) (λ (d : TagPart). d.sym) (λ q. refl) pieces x s at in
          let h = all_get (λ (d : TagPart). HasType d.sym (IsOfEnum t d)) (parts_in (λ vs. vs.tags) pieces) x d.0
          (parts_all (λ (d : TagPart). HasType d.sym (IsOfEnum t d)) (λ vs. vs.tags) pieces
          (all_so PieceTyped _ pieces (λ q k. k.tags) all_typed)) d.1 in
          let c = enum_declared h.end h.form.0 h.is_type h.form.1 in
          record {
            end = h.end;
            typed_so = ap (symbol_type t p cells) (sym d.2) ∙ h.typed_so;
            is_type = h.is_type;
            form = (h.form.0, h.form.1, variant_of x d.0 d.1 h.form.0 c.0 c.1 h.form.2);
          }
      symbol_typed (OfOption x) s at =
          let d = part_at kind.Option (λ vs. vs.options) (λ (d : OptionPart). d.sym) (λ q. refl) pieces x s at in
          let h = all_get (λ (d : OptionPart). HasType d.sym IsOptional) (parts_in (λ vs. vs.options) pieces) x d.0
          (parts_all (λ (d : OptionPart). HasType d.sym IsOptional) (λ vs. vs.options) pieces
          (all_so PieceTyped _ pieces (λ q k. k.options) all_typed)) d.1 in
          record {
            end = h.end;
            typed_so = ap (symbol_type t p cells) (sym d.2) ∙ h.typed_so;
            is_type = h.is_type;
            form = h.form;
          }
