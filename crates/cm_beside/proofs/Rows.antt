-- What a valuation of what was made gives: the terms fit their values.
use Rattle.std.proofs.Common.{◌≡◌, ◌<◌, ◌≤◌, ◌+◌, ℕ, zero, suc, ltb, ℤ, pos, neg_ℤ, ◌≤ℤ◌, int_le, Bool, true, false}
use Rattle.std.proofs.Common.{List, [], ◌∷◌, ◌++◌, map, length, slice_get, Option, Some, refl, sym, ap}
use Rattle.std.proofs.Common.{◌∙◌, subst, arith, append_assoc}
use Rattle.std.specs.List.{AllByRecursion}
use Rattle.std.proofs.lemmas.Bool.{and_from, ltb-true, ltb-false}
use Rattle.std.proofs.lemmas.Int.{ints}
use Rattle.std.proofs.lemmas.List.{length-append, length-map}
use Rattle.cm_model.specs.Limits.{number_limit}
use Rattle.cm_model.specs.Tables.{Tables}
use Rattle.cm_model.specs.WellTyped.{IsWellTyped}
use Rattle.cm_model.specs.Types.{IsType}
use Rattle.cm_model.specs.declared.ty.Ty.{Ty}
use Rattle.cm_term.specs.declared.symbol.Root.{Root}
use Rattle.cm_term.specs.declared.symbol.Sym.{Sym}
use Rattle.cm_term.specs.declared.term.Term.{Term}
use Rattle.cm_term.specs.Valuation.{Valuation, Var, OfTag}
use Rattle.cm_term.specs.Terms.{value_of, vars_of}
use Rattle.cm_ctx.specs.declared.piece.Counts.{Counts}
use Rattle.cm_ctx.specs.declared.piece.ElementPart.{ElementPart}
use Rattle.cm_ctx.specs.declared.piece.NumberPart.{NumberPart}
use Rattle.cm_ctx.specs.declared.piece.TagPart.{TagPart}
use Rattle.cm_ctx.specs.declared.piece.OptionPart.{OptionPart}
use Rattle.cm_ctx.specs.declared.piece.Piece.{Piece}
use Rattle.cm_ctx.specs.declared.naming.Kind.{Kind}
use Rattle.cm_ctx.specs.declared.naming.Kind.TheVariants as kind
use Rattle.cm_ctx.specs.Naming.{syms_in, syms_of}
use Rattle.cm_ctx.specs.Making.{counted, first_counts, piece_of, place}
use Rattle.cm_ctx.specs.Contexts.{payloads_of, payloads_in, sorts_of}
use Rattle.cm_ctx.specs.Giving.{EachFrom, Gives, IsWithin, HasPayload}
use Rattle.cm_ctx.specs.Asking.{InRow}
use Rattle.cm_ctx.specs.Grown.{IsRange}
use Rattle.cm_ctx.proofs.Each.{each_from}
use Rattle.cm_relation.specs.Relation.{AreAll}
use Rattle.cm_beside.specs.Grounds.{Grounds}
use Rattle.cm_beside.specs.Fits.{Fits, is_near}
use Rattle.cm_beside.specs.Related.{IsGround}
use Rattle.cm_exec.specs.Run.{counted_all, GivesAll}
use Rattle.cm_beside.specs.Nodes.{pieces_from, grounds_of, IsValuation}
use Rattle.cm_beside.specs.Seen.{symbol_at}
use Rattle.cm_beside.proofs.Fitting.{grows}
use Rattle.cm_beside.proofs.Near.{tested}
use Rattle.cm_beside.proofs.Fresh.{AreThere, IsClosed, enum_at, made_fresh}

-- rows of pieces
pub behind_both : (c : Counts) (ps qs : List Piece) → counted_all c (ps ++ qs) ≡ counted_all (counted_all c ps) qs
behind_both c [] qs = refl
behind_both c (p ∷ ps) qs = behind_both (counted c p.variables) ps qs

pub record NoFewer (c d : Counts) : Type 0 where
  pub elements : c.elements ≤ d.elements
  pub numbers : c.numbers ≤ d.numbers
  pub tags : c.tags ≤ d.tags
  pub options : c.options ≤ d.options

pub no_fewer : (c : Counts) (ps : List Piece) → NoFewer c (counted_all c ps)
no_fewer c [] = record { elements = omega arith; numbers = omega arith; tags = omega arith; options = omega arith }
no_fewer c (p ∷ ps) =
    let r = no_fewer (counted c p.variables) ps in
    let e = r.elements in
    let n = r.numbers in
    let k = r.tags in
    let o = r.options in
    record {
      elements = omega (arith, e);
      numbers = omega (arith, n);
      tags = omega (arith, k);
      options = omega (arith, o);
    }

pub row_both : (c : Counts) (ps qs : List Piece) → InRow c ps (counted_all c ps)
    → InRow (counted_all c ps) qs (counted_all (counted_all c ps) qs)
    → InRow c (ps ++ qs) (counted_all c (ps ++ qs))
row_both c [] qs h k = k
row_both c (p ∷ ps) qs h k = (h.0, row_both (counted c p.variables) ps qs h.1 k)

pub row_from : (t : Tables) (r : ℕ → Root) (i : ℕ) (us : List Ty) (c : Counts)
    → InRow c (pieces_from t r i us c) (counted_all c (pieces_from t r i us c))
row_from t r i [] c = refl
row_from t r i (u ∷ us) c = (refl, row_from t r (i + 1) us (counted c (piece_of t u (r i) c).variables))

many_sorts : (c : Counts) (ps : List Piece) → c.elements + length (sorts_of ps) ≡ (counted_all c ps).elements
many_sorts c [] = omega arith
many_sorts c (p ∷ ps) =
    let rest = many_sorts (counted c p.variables) ps in
    let n = length-append (map (λ (d : ElementPart). d.sort) p.variables.elements) (sorts_of ps) in
    let m = length-map p.variables.elements (λ (d : ElementPart). d.sort) in
    omega (arith, rest, n, m)

pub many_payloads : (c : Counts) (ps : List Piece) → c.options + length (payloads_of ps) ≡ (counted_all c ps).options
many_payloads c [] = omega arith
many_payloads c (p ∷ ps) =
    let rest = many_payloads (counted c p.variables) ps in
    let n = length-append (payloads_in p.variables.options) (payloads_of ps) in
    let m = length-map p.variables.options (λ (d : OptionPart). d.payload) in
    omega (arith, rest, n, m)

-- the symbols of pieces
pub syms_both : (k : Kind) (ps qs : List Piece) → syms_of k (ps ++ qs) ≡ syms_of k ps ++ syms_of k qs
syms_both k [] qs = refl
syms_both k (p ∷ ps) qs =
    ap (λ ss. syms_in k p ++ ss) (syms_both k ps qs) ∙ sym (append_assoc (syms_in k p) (syms_of k ps) (syms_of k qs))

pub many_tags : (c : Counts) (ps : List Piece) → c.tags + length (syms_of kind.Tag ps) ≡ (counted_all c ps).tags
many_tags c [] = omega arith
many_tags c (p ∷ ps) =
    let rest = many_tags (counted c p.variables) ps in
    let n = length-append (syms_in kind.Tag p) (syms_of kind.Tag ps) in
    let m = length-map p.variables.tags (λ (d : TagPart). d.sym) in
    omega (arith, rest, n, m)

-- the i-th of some, behind others and before others
pub behind : {Y : Type 0} (before ys : List Y) (i : ℕ) → slice_get (before ++ ys) (length before + i) ≡ slice_get ys i
behind [] ys i = (let e : 0 + i ≡ i = omega arith in ap (slice_get ys) e)
behind (y ∷ before) ys i =
    (let e : length (y ∷ before) + i ≡ suc (length before + i) = omega arith in
    ap (slice_get (y ∷ (before ++ ys))) e ∙ behind before ys i)

pub in_front : {X Y : Type 0} (f : X → Y) (xs : List X) (more : List Y) (i : ℕ) (x : X) → slice_get xs i ≡ Some x
    → slice_get (map f xs ++ more) i ≡ Some (f x)
in_front f [] more i x at = absurd (cc)
in_front f (z ∷ xs) more zero x at = (let s : z ≡ x = cc in ap (λ y. Some (f y)) s)
in_front f (z ∷ xs) more (suc i) x at = in_front f xs more i x at

pub within : {X Y : Type 0} (f : X → Y) (before : List Y) (xs : List X) (more : List Y) (i : ℕ) (x : X)
    → slice_get xs i ≡ Some x → slice_get (before ++ (map f xs ++ more)) (length before + i) ≡ Some (f x)
within f before xs more i x at = behind before (map f xs ++ more) i ∙ in_front f xs more i x at

sorts_both : (ps qs : List Piece) → sorts_of (ps ++ qs) ≡ sorts_of ps ++ sorts_of qs
sorts_both [] qs = refl
sorts_both (p ∷ ps) qs =
    ap (λ ss. map (λ (d : ElementPart). d.sort) p.variables.elements ++ ss) (sorts_both ps qs)
    ∙ sym (append_assoc (map (λ (d : ElementPart). d.sort) p.variables.elements) (sorts_of ps) (sorts_of qs))

pub payloads_both : (ps qs : List Piece) → payloads_of (ps ++ qs) ≡ payloads_of ps ++ payloads_of qs
payloads_both [] qs = refl
payloads_both (p ∷ ps) qs =
    ap (λ ss. payloads_in p.variables.options ++ ss) (payloads_both ps qs)
    ∙ sym (append_assoc (payloads_in p.variables.options) (payloads_of ps) (payloads_of qs))

-- a valuation that gives some pieces values, and others behind them
pub gives_first : (ps qs : List Piece) (v : Valuation) → GivesAll (ps ++ qs) v → GivesAll ps v
gives_first [] qs v h = tt
gives_first (p ∷ ps) qs v h = (h.0, gives_first ps qs v h.1)

pub gives_last : (ps qs : List Piece) (v : Valuation) → GivesAll (ps ++ qs) v → GivesAll qs v
gives_last [] qs v h = h
gives_last (p ∷ ps) qs v h = gives_last ps qs v h.1

pub gives_both : (ps qs : List Piece) (v : Valuation) → GivesAll ps v → GivesAll qs v → GivesAll (ps ++ qs) v
gives_both [] qs v g h = h
gives_both (p ∷ ps) qs v g h = (g.0, gives_both ps qs v g.1 h)

module _ (t : Tables) (pieces : List Piece) (enums : ℕ → Option ℕ) (v : Valuation) (has : Var → Bool) where
  abbrev g : Grounds
  g = grounds_of pieces enums v has

  abbrev total : Counts
  total = counted_all first_counts pieces

  -- each enum is that of the type of the variable's symbol, by the types of roots
  abbrev pub AreOfSymbols : (Root → Option Ty) → Type 0
  AreOfSymbols type_of_root =
      (x : ℕ) (s : Sym) → symbol_at pieces (OfTag x) ≡ Some s → enums x ≡ enum_at t g type_of_root s

  -- a piece stands behind these
  there_at : (type_of_root : Root → Option Ty) → AreOfSymbols type_of_root → (done : List Piece) (p : Piece)
      (more : List Piece) → pieces ≡ done ++ p ∷ more → p.from ≡ counted_all first_counts done
      → AreThere t g type_of_root p.from p.variables
  there_at type_of_root of done p more is from = record {
    sorts = each_from (λ x (d : ElementPart). slice_get (sorts_of pieces) x ≡ Some d.sort) p.from.elements
        p.variables.elements (λ i d at.
        ap (λ n. slice_get (sorts_of pieces) (n + i)) elements_are
        ∙ ap (λ ss. slice_get ss (length (sorts_of done) + i)) (ap sorts_of is ∙ sorts_both done (p ∷ more))
        ∙ within (λ (d : ElementPart). d.sort) (sorts_of done) p.variables.elements (sorts_of more) i d at);
    numbers = each_from (λ x (d : NumberPart). x < total.numbers) p.from.numbers p.variables.numbers (λ i d at.
        let lt : i < length p.variables.numbers = get_within p.variables.numbers i d at in
        let n = fewer.numbers in omega (arith, lt, n));
    tags = each_from (λ x (d : TagPart). (x < total.tags) × (enums x ≡ enum_at t g type_of_root d.sym)) p.from.tags
        p.variables.tags (λ i d at. (
          let lt : i < length p.variables.tags = get_within p.variables.tags i d at in
              let n = fewer.tags in omega (arith, lt, n),
          of (p.from.tags + i) d.sym (symbol_is i d at),
        ));
    options = each_from (λ x (d : OptionPart). (x < total.options) × (slice_get (payloads_of pieces) x ≡ Some d.payload))
        p.from.options p.variables.options (λ i d at. (
          let lt : i < length p.variables.options = get_within p.variables.options i d at in
              let n = fewer.options in omega (arith, lt, n),
          ap (λ n. slice_get (payloads_of pieces) (n + i)) options_are
              ∙ ap (λ ss. slice_get ss (length (payloads_of done) + i)) (ap payloads_of is ∙ payloads_both done (p ∷ more))
              ∙ within (λ (d : OptionPart). d.payload) (payloads_of done) p.variables.options (payloads_of more) i d at,
        ));
  }
    where
      get_within : {X : Type 0} (xs : List X) (i : ℕ) (x : X) → slice_get xs i ≡ Some x → i < length xs
      get_within [] i x at = absurd (cc)
      get_within (y ∷ xs) zero x at = omega arith
      get_within (y ∷ xs) (suc i) x at = (let lt = get_within xs i x at in omega (arith, lt))

      elements_are : p.from.elements ≡ length (sorts_of done)
      elements_are = ap (λ c. c.elements) from ∙ sym (let e = many_sorts first_counts done in omega (arith, e))

      tags_are : p.from.tags ≡ length (syms_of kind.Tag done)
      tags_are = ap (λ c. c.tags) from ∙ sym (let e = many_tags first_counts done in omega (arith, e))

      symbol_is : (i : ℕ) (d : TagPart) → slice_get p.variables.tags i ≡ Some d
          → symbol_at pieces (OfTag (p.from.tags + i)) ≡ Some d.sym
      symbol_is i d at =
          ap (λ n. slice_get (syms_of kind.Tag pieces) (n + i)) tags_are
          ∙ ap (λ ss. slice_get ss (length (syms_of kind.Tag done) + i))
          (ap (syms_of kind.Tag) is ∙ syms_both kind.Tag done (p ∷ more))
          ∙ within (λ (d : TagPart). d.sym) (syms_of kind.Tag done) p.variables.tags (syms_of kind.Tag more) i d at

      options_are : p.from.options ≡ length (payloads_of done)
      options_are = ap (λ c. c.options) from ∙ sym (let e = many_payloads first_counts done in omega (arith, e))

      whole : counted_all (counted p.from p.variables) more ≡ total
      whole =
          ap (λ c. counted_all (counted c p.variables) more) from
          ∙ sym (behind_both first_counts done (p ∷ more)) ∙ sym (ap (counted_all first_counts) is)

      fewer : NoFewer (counted p.from p.variables) total
      fewer = subst (NoFewer (counted p.from p.variables)) whole (no_fewer (counted p.from p.variables) more)

  -- payloads have the values of their terms
  payloads_in_part : (x : ℕ) (os : List OptionPart) (rest : List Term) → EachFrom (HasPayload v) x os
      → ((i : ℕ) (u : Term) → slice_get rest i ≡ Some u → v.payload (x + length os + i) ≡ value_of v u)
      → (i : ℕ) (u : Term) → slice_get (payloads_in os ++ rest) i ≡ Some u → v.payload (x + i) ≡ value_of v u
  payloads_in_part x [] rest e more i u at =
      (let n : x + i ≡ x + 0 + i = omega arith in ap v.payload n ∙ more i u at)
  payloads_in_part x (d ∷ os) rest e more zero u at =
      (let n : x + 0 ≡ x = omega arith in let s : d.payload ≡ u = cc in
      ap v.payload n ∙ e.0.1 ∙ ap (value_of v) s)
  payloads_in_part x (d ∷ os) rest e more (suc i) u at =
      (let n : x + suc i ≡ x + 1 + i = omega arith in
      ap v.payload n ∙ payloads_in_part (x + 1) os rest e.1
      (λ j w k. (let m : x + 1 + length os + j ≡ x + length (d ∷ os) + j = omega arith in
      ap v.payload m ∙ more j w k)) i u at)

  payloads_hold : (c : Counts) (ps : List Piece) → InRow c ps (counted_all c ps)
      → GivesAll ps v
      → (i : ℕ) (u : Term) → slice_get (payloads_of ps) i ≡ Some u → v.payload (c.options + i) ≡ value_of v u
  payloads_hold c [] row all i u at = absurd (cc)
  payloads_hold c (p ∷ ps) row all i u at =
      payloads_in_part c.options p.variables.options (payloads_of ps)
      (subst (λ f. EachFrom (HasPayload v) f p.variables.options) (ap (λ c. c.options) row.0) all.0.options)
      (payloads_hold (counted c p.variables) ps row.1 all.1) i u at

  module _ (typed : IsWellTyped t) where
    -- each number is near to 0, since those of its type are
    abbrev AreNear : List NumberPart → Type 0
    AreNear ds = (i : ℕ) (d : NumberPart) → slice_get ds i ≡ Some d → IsRange d

    near_between : (d : NumberPart) (n : ℤ) → IsRange d → d.lo ≤ℤ n → n ≤ℤ d.hi → is_near number_limit n ≡ true
    near_between d n r low high =
        let a = r.low in
        let b = r.high in
        and_from _ _ (tested (neg_ℤ (pos number_limit)) n (omega (arith, ints, a, low)))
        (tested n (pos number_limit) (omega (arith, ints, b, high)))

    numbers_in_part : (x : ℕ) (ds : List NumberPart) → AreNear ds → EachFrom (IsWithin v) x ds → (y : ℕ) → x ≤ y
        → y < x + length ds → is_near number_limit (v.number y) ≡ true
    numbers_in_part x [] near e y low high = absurd (omega (arith, low, high))
    numbers_in_part x (d ∷ ds) near e y low high =
        by (λ more. numbers_in_part (x + 1) ds (λ i f at. near (suc i) f at) e.1 y more (omega (arith, high))) (ltb x y) refl
      where
        by : (x + 1 ≤ y → is_near number_limit (v.number y) ≡ true) → (b : Bool) → ltb x y ≡ b
            → is_near number_limit (v.number y) ≡ true
        by later true less = later (let lt = ltb-true x y less in omega (arith, lt))
        by later false more =
            let same : x ≡ y = (let ge = ltb-false x y more in omega (arith, low, ge)) in
            subst (λ z. is_near number_limit (v.number z) ≡ true) same
            (near_between d (v.number x) (near 0 d refl) e.0.0 e.0.1)

    abbrev AllNear : List Piece → Type 0
    AllNear = AllByRecursion (λ (p : Piece). AreNear p.variables.numbers)

    numbers_near : (c : Counts) (ps : List Piece) → InRow c ps (counted_all c ps)
        → GivesAll ps v → AllNear ps → (y : ℕ) → c.numbers ≤ y
        → y < (counted_all c ps).numbers → is_near number_limit (v.number y) ≡ true
    numbers_near c [] row all near y low high = absurd (omega (arith, low, high))
    numbers_near c (p ∷ ps) row all near y low high =
        by (λ more. numbers_near (counted c p.variables) ps row.1 all.1 near.1 y more high)
        (ltb y (c.numbers + length p.variables.numbers)) refl
      where
        by : (c.numbers + length p.variables.numbers ≤ y → is_near number_limit (v.number y) ≡ true) → (b : Bool)
            → ltb y (c.numbers + length p.variables.numbers) ≡ b → is_near number_limit (v.number y) ≡ true
        by later true less = numbers_in_part c.numbers p.variables.numbers near.0
            (subst (λ f. EachFrom (IsWithin v) f p.variables.numbers) (ap (λ c. c.numbers) row.0) all.0.numbers) y low
            (ltb-true y (c.numbers + length p.variables.numbers) less)
        by later false more = later (ltb-false y (c.numbers + length p.variables.numbers) more)

    -- a run stands on such a valuation
    pub ground : InRow first_counts pieces total → AllNear pieces → IsValuation pieces v → IsGround g
    ground row near is = record {
      holds = λ o u at. (let n : o ≡ 0 + o = omega arith in
          ap v.payload n ∙ payloads_hold first_counts pieces row is.given o u at);
      zero = (let n = (no_fewer first_counts pieces).numbers in omega (arith, n));
      numbers = λ x lt. by x (ltb x 1) refl lt;
    }
      where
        at_zero : is_near number_limit (pos 0) ≡ true
        at_zero = and_from _ _ (low number_limit) (high number_limit)
          where
            low : (n : ℕ) → int_le (neg_ℤ (pos n)) (pos 0) ≡ true
            low n = grind (arith, ints)

            high : (n : ℕ) → int_le (pos 0) (pos n) ≡ true
            high n = grind (arith, ints)

        by : (x : ℕ) (b : Bool) → ltb x 1 ≡ b → x < total.numbers → is_near number_limit (v.number x) ≡ true
        by x true less lt =
            let none : 0 ≡ x = (let l = ltb-true x 1 less in omega (arith, l)) in
            subst (λ y. is_near number_limit (v.number y) ≡ true) none
            (subst (λ n. is_near number_limit n ≡ true) (sym is.zero) at_zero)
        by x false more lt = numbers_near first_counts pieces row is.given near x (ltb-false x 1 more) lt

    -- terms of a row of pieces fit their values
    abbrev AllDeclared : List Ty → Type 0
    AllDeclared = AllByRecursion (IsType t)

    module _ (closed : IsClosed t g) (type_of_root : Root → Option Ty) (of : AreOfSymbols type_of_root) where
      pub one_fits : (done : List Piece) (u : Ty) (r : Root) (c : Counts) (more : List Piece)
          → pieces ≡ done ++ piece_of t u r c ∷ more → c ≡ counted_all first_counts done → IsType t u
          → type_of_root r ≡ Some u → Gives c (piece_of t u r c).variables v
          → AllByRecursion (λ x. has x ≡ true) (vars_of (piece_of t u r c).term)
          → Fits t g u (value_of v (piece_of t u r c).term) (piece_of t u r c).term
      one_fits done u r c more is from declared root_is gives have =
          let q = piece_of t u r c in
          let fresh = made_fresh t typed g closed type_of_root u declared in
          let less : (counted c q.variables).options ≤ total.options =
          (let n = (no_fewer (counted c q.variables) more).options in
          let e = ap (λ c. c.options) (ap (λ c. counted_all (counted c q.variables) more) from
          ∙ sym (behind_both first_counts done (q ∷ more)) ∙ sym (ap (counted_all first_counts) is)) in
          omega (arith, n, e)) in
          grows t g (value_of v q.term) u (counted c q.variables).options total.options q.term less
          (fresh.fits_ (place r [] c) root_is gives (there_at type_of_root of done q more is from) have)

      abbrev HaveTerms : List Piece → Type 0
      HaveTerms = AllByRecursion (λ (p : Piece). AllByRecursion (λ x. has x ≡ true) (vars_of p.term))

      -- those of symbols of these types, behind and before others
      pub row_fits : (done : List Piece) (r : ℕ → Root) (i : ℕ) (us : List Ty) (c : Counts) (more : List Piece)
          → pieces ≡ done ++ (pieces_from t r i us c ++ more) → c ≡ counted_all first_counts done → AllDeclared us
          → ((j : ℕ) (u : Ty) → slice_get us j ≡ Some u → type_of_root (r (i + j)) ≡ Some u)
          → GivesAll (pieces_from t r i us c) v
          → HaveTerms (pieces_from t r i us c)
          → AreAll (Fits t g) us (map (value_of v) (map (λ (q : Piece). q.term) (pieces_from t r i us c)))
          (map (λ (q : Piece). q.term) (pieces_from t r i us c))
      row_fits done r i [] c more is from declared roots gives have = tt
      row_fits done r i (u ∷ us) c more is from declared roots gives have =
          let q = piece_of t u (r i) c in
          let here : i ≡ i + 0 = omega arith in (
            one_fits done u (r i) c (pieces_from t r (i + 1) us (counted c q.variables) ++ more) is from declared.0
                (ap (λ n. type_of_root (r n)) here ∙ roots 0 u refl) gives.0 have.0,
            row_fits (done ++ q ∷ []) r (i + 1) us (counted c q.variables) more
                (is ∙ sym (append_assoc done (q ∷ []) (pieces_from t r (i + 1) us (counted c q.variables) ++ more)))
                (ap (λ d. counted d q.variables) from ∙ sym (behind_both first_counts done (q ∷ [])))
                declared.1
                (λ j w at. (let next : i + 1 + j ≡ i + suc j = omega arith in
                ap (λ n. type_of_root (r n)) next ∙ roots (suc j) w at)) gives.1 have.1,
          )
