-- From a world to a valuation, and from a valuation to a world.
use Rattle.std.proofs.Common.{◌≡◌, ◌+◌, ℕ, zero, suc, ◌==◌, pos, Bool, true, false, List, [], ◌∷◌, ◌++◌}
use Rattle.std.proofs.Common.{map, length, slice_get, Option, Some, None, refl, sym, ap, ◌∙◌, subst, arith}
use Rattle.std.proofs.Common.{append_assoc, if◌then◌else◌}
use Rattle.std.specs.List.{AllByRecursion, list_all}
use Rattle.std.proofs.lemmas.Bool.{and_parts, and_from, eqb-true, eq-eqb}
use Rattle.std.proofs.lemmas.List.{append-nil}
use Rattle.std.proofs.lemmas.Option.{slice_get-map}
use Rattle.std.specs.Option.{option_map}
use Rattle.cm_model.specs.Tables.{Tables}
use Rattle.cm_model.specs.WellTyped.{IsWellTyped, is_call, is_state, is_key_type, are_parameters}
use Rattle.cm_model.specs.Types.{IsType, is_type_before, is_type_in_use}
use Rattle.cm_model.specs.declared.ty.Ty.{Ty}
use Rattle.cm_model.specs.declared.body.Call.{Call}
use Rattle.cm_model.specs.declared.pair.Pair.{Pair}
use Rattle.cm_value.specs.declared.value.Value.{Value}
use Rattle.cm_value.specs.declared.value.Value.TheVariants as value
use Rattle.cm_value.specs.Membership.{is_value_of, are_values_of}
use Rattle.cm_value.specs.Least.{least_of}
use Rattle.cm_value.proofs.LeastMember.{least_is_value}
use Rattle.cm_value.proofs.Declared.{all_at}
use Rattle.cm_term.specs.declared.symbol.Root.{Root}
use Rattle.cm_term.specs.declared.symbol.Root.TheVariants as root
use Rattle.cm_term.specs.declared.question.Fact.{Fact}
use Rattle.cm_term.specs.Valuation.{Valuation, Var, valuation}
use Rattle.cm_term.specs.Terms.{value_of}
use Rattle.cm_eval.specs.declared.log.CellName.{CellName}
use Rattle.cm_cells.specs.CellTable.{Place}
use Rattle.cm_ctx.specs.declared.piece.Counts.{Counts}
use Rattle.cm_ctx.specs.declared.piece.NumberPart.{NumberPart}
use Rattle.cm_ctx.specs.declared.piece.Piece.{Piece}
use Rattle.cm_ctx.specs.Making.{counted, first_counts, piece_of}
use Rattle.cm_ctx.specs.Contexts.{payloads_of}
use Rattle.cm_ctx.specs.Giving.{Agree}
use Rattle.cm_ctx.specs.Asking.{InRow}
use Rattle.cm_ctx.specs.Grown.{IsRange}
use Rattle.cm_ctx.proofs.Counting.{agree_less, agree_then}
use Rattle.cm_ctx.proofs.Ranges.{fitting}
use Rattle.cm_world.specs.declared.world.World.{World}
use Rattle.cm_world.specs.World.{IsWorldOf, are_arguments_in, is_value_in}
use Rattle.cm_world.specs.Path.{path_of_world}
use Rattle.cm_exec.specs.Run.{piece_at, value_type}
use Rattle.cm_story.specs.Story.{story_of}
use Rattle.cm_story.specs.Following.{Look, looks, cells_in}
use Rattle.cm_story.specs.Touches.{IsLook, AreCells}
use Rattle.cm_story.proofs.Worlds.{path_told}
use Rattle.cm_story.proofs.Typed.{cells_typed}
use Rattle.cm_story.proofs.Places.{looked}
use Rattle.cm_world.proofs.TypedRuns.{look_up_typed}
use Rattle.cm_eval.specs.State.{Store}
use Rattle.cm_world.specs.World.{IsStateOf}
use Rattle.cm_relation.specs.Relation.{AreAll}
use Rattle.cm_cond.specs.Typing.{type_of_part, parameter, parameter_in, cell_type, root_type}
use Rattle.cm_cond.specs.Typing as typing
use Rattle.cm_beside.specs.Grounds.{Grounds}
use Rattle.cm_beside.specs.Fits.{Fits}
use Rattle.cm_beside.specs.Related.{IsGround}
use Rattle.cm_beside.specs.Beside.{PairTale, pair_tale, Beside}
use Rattle.cm_exec.specs.Run.{pieces_for, counted_all, GivesAll}
use Rattle.cm_beside.specs.Nodes.{pieces_from, types_of, parameter_types, pieces_a, pieces_b, counts_a}
use Rattle.cm_beside.specs.Nodes.{counts_b, args_a, args_b, pieces_of, Next, node, node_at, IsNode}
use Rattle.cm_beside.specs.Nodes.{IsValuation, Satisfies, CellsAgree, WorldSatisfies, grounds_of}
use Rattle.cm_beside.proofs.Rows.{gives_first, gives_last, gives_both, behind_both, row_both, row_from, ground, row_fits, one_fits}
use Rattle.cm_beside.proofs.Rows.{AreOfSymbols}
use Rattle.cm_beside.proofs.Enums.{part_type}
use Rattle.cm_beside.proofs.Fresh.{IsClosed}
use Rattle.cm_beside.proofs.Seen.{HaveTerms, have_parts, opened}
use Rattle.cm_beside.specs.Seen.{has_value}
use Rattle.cm_beside.specs.Enums.{without_key, cells_of, symbol_enum, enum_of}
use Rattle.cm_beside.proofs.Filling.{terms_of, TypedRow, typed_from, row_kept, filled, no_more}
use Rattle.cm_beside.proofs.Declaring.{IsDeclared}
use Rattle.cm_beside.proofs.Branch.{TermsFit, Given, goes_along}
use Rattle.cm_beside.proofs.Pairs.{pair_beside}

pub all_front : {X : Type 0} (P : X → Type 0) (xs ys : List X) → AllByRecursion P (xs ++ ys) → AllByRecursion P xs
all_front P [] ys h = tt
all_front P (x ∷ xs) ys h = (h.0, all_front P xs ys h.1)

-- what is made for some cells and for others behind them
pieces_more : (t : Tables) (c : Counts) (n : ℕ) (old new : List Place) → pieces_for t c n (old ++ new)
    ≡ pieces_for t c n old ++ pieces_for t (counted_all c (pieces_for t c n old)) (n + length old) new
pieces_more t c n [] new = let same : n ≡ n + 0 = omega arith in ap (λ m. pieces_for t c m new) same
pieces_more t c n (q ∷ old) new =
    let d : Counts = counted c (piece_at t c n q).variables in
    let same : n + 1 + length old ≡ n + length (q ∷ old) = omega arith in
    ap (λ l. piece_at t c n q ∷ l) (pieces_more t d (n + 1) old new
    ∙ ap (λ m. pieces_for t d (n + 1) old ++ pieces_for t (counted_all d (pieces_for t d (n + 1) old)) m new) same)

module _ (t : Tables) (typed : IsWellTyped t) (p : Pair) (a b : Call) (at_a : slice_get t.calls p.a ≡ Some a)
    (at_b : slice_get t.calls p.b ≡ Some b) (places : List Place) (declared : AllByRecursion (IsDeclared t) places) where
  abbrev pieces : List Piece
  pieces = pieces_of t p places

  abbrev type_at : Place → Ty
  type_at q = value_type (slice_get t.states q.state)

  -- the types of parameters and of cells are declared
  in_use : (us : List Ty) → list_all (is_type_in_use t) us ≡ true → AllByRecursion (IsType t) us
  in_use [] h = tt
  in_use (u ∷ us) h =
      let both_ = and_parts (is_type_in_use t u) (list_all (is_type_in_use t) us) h in
      ((and_parts (is_type_before t (length t.records) u) _ both_.0).0, in_use us both_.1)

  pub parameters : (c : Call) (i : ℕ) → slice_get t.calls i ≡ Some c → AllByRecursion (IsType t) (map (λ q. q.ty) c.params)
  parameters c i at =
      let whole = all_at (is_call t (length t.funs)) t.calls i c typed.bodies at in
      in_use (map (λ q. q.ty) c.params)
      (and_parts _ _ (and_parts (are_parameters t (map (λ q. q.ty) c.params)) _ (and_parts _ _ whole).0).0).0

  types_are : (c : Call) (i : ℕ) → slice_get t.calls i ≡ Some c → types_of t i ≡ map (λ q. q.ty) c.params
  types_are c i at = ap parameter_types at

  declared_a : AllByRecursion (IsType t) (types_of t p.a)
  declared_a = subst (AllByRecursion (IsType t)) (sym (types_are a p.a at_a)) (parameters a p.a at_a)

  declared_b : AllByRecursion (IsType t) (types_of t p.b)
  declared_b = subst (AllByRecursion (IsType t)) (sym (types_are b p.b at_b)) (parameters b p.b at_b)

  state_type : (q : Place) → IsDeclared t q → IsType t (type_at q)
  state_type q d =
      let state = all_at (is_state t) t.states q.state d.0 typed.cells d.1 in
      let used = (and_parts (is_type_in_use t d.0.value) _ (and_parts (is_key_type t d.0.key) _ state).1).0 in
      subst (IsType t) (sym (ap value_type d.1)) (and_parts (is_type_before t (length t.records) d.0.value) _ used).0

  state_types : (qs : List Place) → AllByRecursion (IsDeclared t) qs → AllByRecursion (IsType t) (map type_at qs)
  state_types [] h = tt
  state_types (q ∷ qs) h = (state_type q h.0, state_types qs h.1)

  -- rows
  cells_row : (c : Counts) (n : ℕ) (qs : List Place) → InRow c (pieces_for t c n qs) (counted_all c (pieces_for t c n qs))
  cells_row c n [] = refl
  cells_row c n (q ∷ qs) = (refl, cells_row (counted c (piece_at t c n q).variables) (n + 1) qs)

  pub pieces_row : (qs : List Place) → InRow first_counts (pieces_of t p qs) (counted_all first_counts (pieces_of t p qs))
  pieces_row qs =
      row_both first_counts (pieces_a t p) (pieces_b t p ++ pieces_for t (counts_b t p) 0 qs)
      (row_from t root.A 0 (types_of t p.a) first_counts)
      (subst (λ d. InRow (counts_a t p) (pieces_b t p ++ pieces_for t (counts_b t p) 0 qs) d) refl
      (row_both (counts_a t p) (pieces_b t p) (pieces_for t (counts_b t p) 0 qs)
      (row_from t root.B 0 (types_of t p.b) (counts_a t p)) (cells_row (counts_b t p) 0 qs)))

  whole_row : InRow first_counts pieces (counted_all first_counts pieces)
  whole_row = pieces_row places

  cells_typed_row : (c : Counts) (n : ℕ) (qs : List Place) → AllByRecursion (IsDeclared t) qs
      → TypedRow t typed c (map type_at qs) (pieces_for t c n qs)
  cells_typed_row c n [] h = tt
  cells_typed_row c n (q ∷ qs) h =
      ((root.Cell n, refl), state_type q h.0, cells_typed_row (counted c (piece_at t c n q).variables) (n + 1) qs h.1)

  -- the types of roots
  parameter_is : (call j : ℕ) (u : Ty) → slice_get (types_of t call) j ≡ Some u
      → type_of_part (parameter t call (0 + j)) ≡ Some u
  parameter_is call j u at =
      let same : 0 + j ≡ j = omega arith in
      ap (λ i. type_of_part (parameter t call i)) same ∙ by (slice_get t.calls call) at
    where
      by : (o : Option Call) → slice_get (parameter_types o) j ≡ Some u → type_of_part (parameter_in o j) ≡ Some u
      by (Some d) h = part_type d.params j u h
      by None h = absurd (cc)

  cell_is : (n : ℕ) (q : Place) → IsDeclared t q → slice_get places n ≡ Some q
      → root_type t p (cells_of places) (root.Cell n) ≡ Some (type_at q)
  cell_is n q d at =
      ap (cell_type t) (slice_get-map without_key places n ∙ ap (option_map without_key) at)
      ∙ ap typing.value_type d.1 ∙ sym (ap (λ o. Some (value_type o)) d.1)

  in_front_of : (qs more : List Place) (j : ℕ) (q : Place) → slice_get qs j ≡ Some q → slice_get (qs ++ more) j ≡ Some q
  in_front_of [] more j q at = absurd (cc)
  in_front_of (r ∷ qs) more zero q at = at
  in_front_of (r ∷ qs) more (suc j) q at = in_front_of qs more j q at

  -- numbers are near
  abbrev Near : Piece → Type 0
  Near q = (i : ℕ) (d : NumberPart) → slice_get q.variables.numbers i ≡ Some d → IsRange d

  near_from : (r : ℕ → _) (i : ℕ) (us : List Ty) (c : Counts) → AllByRecursion Near (pieces_from t r i us c)
  near_from r i [] c = tt
  near_from r i (u ∷ us) c =
      ((fitting t typed u (r i) c).numbers, near_from r (i + 1) us (counted c (piece_of t u (r i) c).variables))

  near_cells : (c : Counts) (n : ℕ) (qs : List Place) → AllByRecursion Near (pieces_for t c n qs)
  near_cells c n [] = tt
  near_cells c n (q ∷ qs) = (
    (fitting t typed (type_at q) (root.Cell n) c).numbers,
    near_cells (counted c (piece_at t c n q).variables) (n + 1) qs,
  )

  all_both : {X : Type 0} (P : X → Type 0) (xs ys : List X) → AllByRecursion P xs → AllByRecursion P ys
      → AllByRecursion P (xs ++ ys)
  all_both P [] ys h k = k
  all_both P (x ∷ xs) ys h k = (h.0, all_both P xs ys h.1 k)

  near : AllByRecursion Near pieces
  near = all_both Near (pieces_a t p) _ (near_from root.A 0 (types_of t p.a) first_counts)
      (all_both Near (pieces_b t p) _ (near_from root.B 0 (types_of t p.b) (counts_a t p))
      (near_cells (counts_b t p) 0 places))

  -- the first of the cells, by whose symbols alone what follows is said
  module _ (v : Valuation) (is : IsValuation pieces v) (first later : List Place) (whole : places ≡ first ++ later) where
    abbrev has : Var → Bool
    has = has_value t p first v

    abbrev pub here : Grounds
    here = grounds_of (pieces_of t p places) (enum_of t p places) v (has_value t p first v)

    abbrev after_ : List Piece
    after_ = pieces_for t (counted_all (counts_b t p) (pieces_for t (counts_b t p) 0 first)) (0 + length first) later

    -- what is made for the first cells comes first
    made_first : pieces ≡ pieces_of t p first ++ after_
    made_first =
        ap (λ qs. pieces_a t p ++ (pieces_b t p ++ qs)) (ap (pieces_for t (counts_b t p) 0) whole
        ∙ pieces_more t (counts_b t p) 0 first later)
        ∙ ap (λ qs. pieces_a t p ++ qs)
        (sym (append_assoc (pieces_b t p) (pieces_for t (counts_b t p) 0 first) after_))
        ∙ sym (append_assoc (pieces_a t p) (pieces_b t p ++ pieces_for t (counts_b t p) 0 first) after_)

    given_first : GivesAll (pieces_of t p first) v
    given_first = gives_first (pieces_of t p first) after_ v (subst (λ qs. GivesAll qs v) made_first is.given)

    first_row : InRow first_counts (pieces_of t p first) (counted_all first_counts (pieces_of t p first))
    first_row = pieces_row first

    closed : IsClosed t here
    closed o x at present has_ = opened t p first v given_first first_row after_ o x
        (ap (λ qs. slice_get (payloads_of qs) o) (sym made_first) ∙ at) present has_

    pub grounded : IsGround here
    grounded = ground t pieces (enum_of t p places) v has typed whole_row near is

    given_parts : GivesAll (pieces_a t p) v × GivesAll (pieces_b t p) v
        × GivesAll (pieces_for t (counts_b t p) 0 places) v
    given_parts =
        let rest = gives_last (pieces_a t p) _ v is.given in
        (gives_first (pieces_a t p) _ v is.given, gives_first (pieces_b t p) _ v rest, gives_last (pieces_b t p) _ v rest)

    have : HaveTerms t p first v given_first (pieces_a t p) × HaveTerms t p first v given_first (pieces_b t p)
        × HaveTerms t p first v given_first (pieces_for t (counts_b t p) 0 first)
    have = have_parts t p first v given_first first_row

    -- the types of the arguments and of what the cells hold
    abbrev types : Root → Option Ty
    types = root_type t p (cells_of places)

    of_symbols : AreOfSymbols t pieces (enum_of t p places) v has types
    of_symbols x s at = ap (symbol_enum t p places) at

    pub fit_a : AreAll (Fits t here) (map (λ q. q.ty) a.params) (map (value_of v) (args_a t p)) (args_a t p)
    fit_a =
        subst (λ us. AreAll (Fits t here) us (map (value_of v) (args_a t p)) (args_a t p)) (types_are a p.a at_a)
        (row_fits t pieces (enum_of t p places) v has typed closed types of_symbols [] root.A 0 (types_of t p.a)
        first_counts (pieces_b t p ++ pieces_for t (counts_b t p) 0 places) refl refl declared_a
        (λ j u at. parameter_is p.a j u at) given_parts.0 have.0)

    pub fit_b : AreAll (Fits t here) (map (λ q. q.ty) b.params) (map (value_of v) (args_b t p)) (args_b t p)
    fit_b =
        subst (λ us. AreAll (Fits t here) us (map (value_of v) (args_b t p)) (args_b t p)) (types_are b p.b at_b)
        (row_fits t pieces (enum_of t p places) v has typed closed types of_symbols (pieces_a t p) root.B 0
        (types_of t p.b) (counts_a t p) (pieces_for t (counts_b t p) 0 places) refl refl declared_b
        (λ j u at. parameter_is p.b j u at) given_parts.1 have.1)

    cells_fit : (done : List Piece) (c : Counts) (n : ℕ) (qs more : List Place)
        → pieces ≡ done ++ pieces_for t c n (qs ++ more) → c ≡ counted_all first_counts done
        → ((j : ℕ) (q : Place) → slice_get qs j ≡ Some q → slice_get places (n + j) ≡ Some q)
        → AllByRecursion (IsDeclared t) qs → GivesAll (pieces_for t c n (qs ++ more)) v
        → HaveTerms t p first v given_first (pieces_for t c n qs) → TermsFit t here grounded c n qs
    cells_fit done c n [] more is_ from at d given have_ = tt
    cells_fit done c n (q ∷ qs) more is_ from at d given have_ =
        let same : n + 0 ≡ n = omega arith in
        let piece = piece_at t c n q in (
          one_fits t pieces (enum_of t p places) v has typed closed types of_symbols done (type_at q) (root.Cell n) c
              (pieces_for t (counted c piece.variables) (n + 1) (qs ++ more)) is_ from (state_type q d.0)
              (cell_is n q d.0 (ap (slice_get places) (sym same) ∙ at 0 q refl)) given.0 have_.0,
          cells_fit (done ++ piece ∷ []) (counted c piece.variables) (n + 1) qs more
              (is_ ∙ sym (append_assoc done (piece ∷ []) (pieces_for t (counted c piece.variables) (n + 1) (qs ++ more))))
              (ap (λ e. counted e piece.variables) from ∙ sym (behind_both first_counts done (piece ∷ [])))
              (λ j r is. (let next : n + 1 + j ≡ n + suc j = omega arith in
              ap (slice_get places) next ∙ at (suc j) r is)) d.1 given.1 have_.1,
        )

    declared_first : AllByRecursion (IsDeclared t) first
    declared_first = all_front (IsDeclared t) first later (subst (AllByRecursion (IsDeclared t)) whole declared)

    pub terms_fit : TermsFit t here grounded (counts_b t p) 0 first
    terms_fit =
        cells_fit (pieces_a t p ++ pieces_b t p) (counts_b t p) 0 first later
        (ap (λ qs. pieces_a t p ++ (pieces_b t p ++ pieces_for t (counts_b t p) 0 qs)) whole
        ∙ sym (append_assoc (pieces_a t p) (pieces_b t p) (pieces_for t (counts_b t p) 0 (first ++ later))))
        (sym (behind_both first_counts (pieces_a t p) (pieces_b t p)))
        (λ j q at. (let same : 0 + j ≡ j = omega arith in
        ap (slice_get places) same ∙ ap (λ qs. slice_get qs j) whole ∙ in_front_of first later j q at)) declared_first
        (subst (λ qs. GivesAll (pieces_for t (counts_b t p) 0 qs) v) whole given_parts.2) have.2

    -- the story stands beside the tale
    pub stands : Beside t here (pair_tale t p (args_a t p) (args_b t p) (payloads_of pieces))
        (story_of t p (map (value_of v) (args_a t p)) (map (value_of v) (args_b t p)))
    stands =
        pair_beside t typed here grounded p a b at_a at_b (map (value_of v) (args_a t p)) (map (value_of v) (args_b t p))
        (args_a t p) (args_b t p) fit_a fit_b

  -- of a world's look-ups, as far as they are of the cells' states, and else least values
  module _ (o : Look) where
    picks : List Place → List CellName → List Value
    picks [] cs = []
    picks (q ∷ qs) [] = least_of t (type_at q) ∷ picks qs []
    picks (q ∷ qs) (d ∷ cs) = (if d.state == q.state then o d else least_of t (type_at q)) ∷ picks qs cs

    picks_typed : IsLook t o → (qs : List Place) → AllByRecursion (IsDeclared t) qs → (cs : List CellName) → AreCells t cs
        → are_values_of t (map type_at qs) (picks qs cs) ≡ true
    unfolding picks
    picks_typed look [] d cs are = refl
    picks_typed look (q ∷ qs) d [] are =
        and_from (is_value_of t (type_at q) (least_of t (type_at q))) _
        (least_is_value t typed (type_at q) (state_type q d.0)) (picks_typed look qs d.1 [] tt)
    picks_typed look (q ∷ qs) d (c ∷ cs) are =
        and_from (is_value_of t (type_at q) (if c.state == q.state then o c else least_of t (type_at q))) _
        (by (c.state == q.state) refl) (picks_typed look qs d.1 cs are.1)
      where
        by : (e : Bool) → (c.state == q.state) ≡ e
            → is_value_of t (type_at q) (if e then o c else least_of t (type_at q)) ≡ true
        by true same =
            let at : slice_get t.states c.state ≡ Some d.0.0 =
            ap (slice_get t.states) (eqb-true c.state q.state same) ∙ d.0.1 in
            subst (λ u. is_value_of t u (o c) ≡ true) (sym (ap value_type d.0.1))
            (sym (ap (λ s. is_value_in t s (o c)) at) ∙ look c are.0)
        by false same = least_is_value t typed (type_at q) (state_type q d.0)

  pub all_places : places ≡ places ++ []
  all_places = sym (append-nil places)

  looks_typed : (s : Store) → IsStateOf t s → IsLook t (looks s)
  looks_typed s is c cell = look_up_typed t s is c (looks s c) cell (looked t s is c cell)

  no_values : Valuation
  no_values = valuation (λ x. 0) (λ x. pos 0) (λ x. 0) (λ x. 0) (λ x. value.None)

  -- for any values of the arguments and of the cells
  pub record Filled (va vb xs : List Value) : Type 0 where
    pub v : Valuation
    pub is : IsValuation pieces v
    pub a_is : map (value_of v) (args_a t p) ≡ va
    pub b_is : map (value_of v) (args_b t p) ≡ vb
    pub cells_are : map (value_of v) (terms_of (pieces_for t (counts_b t p) 0 places)) ≡ xs

  pub fill : (va vb xs : List Value) → are_values_of t (types_of t p.a) va ≡ true
      → are_values_of t (types_of t p.b) vb ≡ true → are_values_of t (map type_at places) xs ≡ true → Filled va vb xs
  unfolding no_values
  fill va vb xs ta tb tc =
      let row_a = typed_from t typed root.A 0 (types_of t p.a) first_counts declared_a in
      let row_b = typed_from t typed root.B 0 (types_of t p.b) (counts_a t p) declared_b in
      let row_c = cells_typed_row (counts_b t p) 0 places declared in
      let one = filled t typed first_counts (types_of t p.a) (pieces_a t p) row_a va ta no_values in
      let two = filled t typed (counts_a t p) (types_of t p.b) (pieces_b t p) row_b vb tb one.0 in
      let three = filled t typed (counts_b t p) (map type_at places) (pieces_for t (counts_b t p) 0 places) row_c xs tc
      two.0 in
      let b_later : Agree (counts_a t p) two.0 three.0 =
      agree_less (counts_a t p) (counts_b t p) two.0 three.0 (no_more t typed (counts_a t p) (pieces_b t p)) three.1 in
      let a_later : Agree (counts_a t p) one.0 three.0 = agree_then (counts_a t p) one.0 two.0 three.0 two.1 b_later in
      let first_later : Agree first_counts no_values three.0 =
      agree_then first_counts no_values one.0 three.0 one.1
      (agree_less first_counts (counts_a t p) one.0 three.0 (no_more t typed first_counts (pieces_a t p)) a_later) in
      let a_kept = row_kept t typed first_counts (types_of t p.a) (pieces_a t p) row_a one.0 three.0 a_later one.2 in
      let b_kept = row_kept t typed (counts_a t p) (types_of t p.b) (pieces_b t p) row_b two.0 three.0 three.1 two.2 in
      record {
        v = three.0;
        is = record {
          zero = sym (first_later.numbers 0 (omega arith));
          given = gives_both (pieces_a t p) _ three.0 a_kept.0 (gives_both (pieces_b t p) _ three.0 b_kept.0 three.2);
        };
        a_is = a_kept.1 ∙ one.3;
        b_is = b_kept.1 ∙ two.3;
        cells_are = three.3;
      }

  -- by the symbols of all cells
  abbrev pub here_all : (v : Valuation) → IsValuation pieces v → Grounds
  here_all v is = here v is places [] all_places

  pub grounded_all : (v : Valuation) (is : IsValuation pieces v) → IsGround (here_all v is)
  grounded_all v is = grounded v is places [] all_places

  pub fit_all : (v : Valuation) (is : IsValuation pieces v)
      → TermsFit t (here_all v is) (grounded_all v is) (counts_b t p) 0 places
  fit_all v is = terms_fit v is places [] all_places

  -- from a world whose path begins with a node's answers
  module _ (answers : List ℕ) (facts : List Fact) (next : Next) (is_node : IsNode t p answers facts places next) where
    abbrev pub tale : PairTale
    tale = pair_tale t p (args_a t p) (args_b t p) (payloads_of pieces)

    pub at_node : node_at t p (payloads_of pieces) answers ≡ node facts places next
    at_node = is_node (payloads_of pieces) ([], sym (append-nil (payloads_of pieces)))

    pub facts_are : (node_at t p (payloads_of pieces) answers).facts ≡ facts
    facts_are = ap (λ n. n.facts) at_node

    pub places_are : (node_at t p (payloads_of pieces) answers).places ≡ places
    places_are = ap (λ n. n.places) at_node

    pub next_is : (node_at t p (payloads_of pieces) answers).next ≡ next
    next_is = ap (λ n. n.next) at_node

    given_from : (v : Valuation) (is : IsValuation pieces v) (o : Look) (c : Counts) (n : ℕ) (qs : List Place)
        (cs : List CellName) → map (value_of v) (terms_of (pieces_for t c n qs)) ≡ picks o qs cs
        → Given t (here_all v is) (grounded_all v is) c n qs o cs
    unfolding picks
    given_from v is o c n [] cs h = tt
    given_from v is o c n (q ∷ qs) [] h = tt
    given_from v is o c n (q ∷ qs) (d ∷ cs) h = (
      (λ same. sym (head_same h ∙ ap (λ e. if e then o d else least_of t (type_at q)) (eq-eqb d.state q.state same))),
      given_from v is o (counted c (piece_at t c n q).variables) (n + 1) qs cs (tail_same h),
    )
      where
        head_same : {x y : Value} {xs ys : List Value} → x ∷ xs ≡ y ∷ ys → x ≡ y
        head_same h = cc

        tail_same : {x y : Value} {xs ys : List Value} → x ∷ xs ≡ y ∷ ys → xs ≡ ys
        tail_same h = cc

    pub from_world : (w : World) → IsWorldOf t p w → (rest : List ℕ) → path_of_world t p w ≡ answers ++ rest
        → WorldSatisfies t p w facts places
    from_world w world rest begins =
        let o = looks w.init in
        let s = story_of t p w.a.vals w.b.vals in
        let cs = cells_in o s in
        let are_a : are_values_of t (map (λ q. q.ty) a.params) w.a.vals ≡ true =
        sym (ap (λ c. are_arguments_in t c w.a.vals) at_a) ∙ world.a in
        let are_b : are_values_of t (map (λ q. q.ty) b.params) w.b.vals ≡ true =
        sym (ap (λ c. are_arguments_in t c w.b.vals) at_b) ∙ world.b in
        let f = fill w.a.vals w.b.vals (picks o places cs)
        (subst (λ us. are_values_of t us w.a.vals ≡ true) (sym (types_are a p.a at_a)) are_a)
        (subst (λ us. are_values_of t us w.b.vals ≡ true) (sym (types_are b p.b at_b)) are_b)
        (picks_typed o (looks_typed w.init world.init) places declared cs
        (cells_typed t o (looks_typed w.init world.init) typed p w.a.vals w.b.vals world.a world.b)) in
        let same : story_of t p (map (value_of f.v) (args_a t p)) (map (value_of f.v) (args_b t p)) ≡ s =
        ap (λ vs. story_of t p vs (map (value_of f.v) (args_b t p))) f.a_is ∙ ap (story_of t p w.a.vals) f.b_is in
        let both = goes_along t (here_all f.v f.is) (grounded_all f.v f.is) tale s
        (subst (Beside t (here_all f.v f.is) tale) same (stands f.v f.is places [] all_places)) o (counts_b t p) 0 answers rest
        (sym (path_told t typed p w world) ∙ begins)
        (subst (TermsFit t (here_all f.v f.is) (grounded_all f.v f.is) (counts_b t p) 0) (sym places_are) (fit_all f.v f.is))
        (subst (λ qs. Given t (here_all f.v f.is) (grounded_all f.v f.is) (counts_b t p) 0 qs o cs) (sym places_are)
        (given_from f.v f.is o (counts_b t p) 0 places cs f.cells_are)) in
        record {
          valuation = f.v;
          is_valuation = f.is;
          agrees = record {
            a = sym f.a_is;
            b = sym f.b_is;
            cells = subst (CellsAgree t f.v o (counts_b t p) 0) places_are both.1;
          };
          satisfies = subst (Satisfies f.v) facts_are both.0;
        }
