-- What is so of symbols with the first cells of a path is so with more.
use Rattle.std.proofs.Common.{◌≡◌, ◌<◌, ◌≤◌, ◌+◌, ℕ, zero, suc, true, List, [], ◌∷◌, ◌++◌, map, length, slice_get}
use Rattle.std.proofs.Common.{Option, Some, None, refl, sym, ap, subst, ◌∙◌, append_assoc, arith}
use Rattle.std.proofs.lemmas.List.{append-nil, map-append, length-map}
use Rattle.std.specs.List.{AllByRecursion}
use Rattle.cm_model.specs.Tables.{Tables}
use Rattle.cm_model.specs.declared.ty.Ty.{Ty}
use Rattle.cm_model.specs.declared.pair.Pair.{Pair}
use Rattle.cm_value.specs.declared.value.Value.{Value}
use Rattle.cm_term.specs.declared.symbol.Root.{Root}
use Rattle.cm_term.specs.declared.symbol.Root.TheVariants as root
use Rattle.cm_term.specs.declared.symbol.Sym.{Sym}
use Rattle.cm_term.specs.Symbols.{Roots, root_value, symbol_value, followed, joined}
use Rattle.cm_term.specs.Terms.{value_of}
use Rattle.cm_term.specs.Valuation.{Valuation, Var, OfElement, OfNumber, OfTag, OfOption}
use Rattle.cm_cells.specs.Alike.{is_there}
use Rattle.cm_cells.specs.CellTable.{Place}
use Rattle.cm_ctx.specs.declared.naming.Kind.{Kind}
use Rattle.cm_ctx.specs.declared.naming.Kind.TheVariants as kind
use Rattle.cm_ctx.specs.declared.piece.Counts.{Counts}
use Rattle.cm_ctx.specs.declared.piece.ElementPart.{ElementPart}
use Rattle.cm_ctx.specs.declared.piece.NumberPart.{NumberPart}
use Rattle.cm_ctx.specs.declared.piece.TagPart.{TagPart}
use Rattle.cm_ctx.specs.declared.piece.OptionPart.{OptionPart}
use Rattle.cm_ctx.specs.declared.piece.Piece.{Piece}
use Rattle.cm_ctx.specs.Making.{counted, first_counts, piece_of}
use Rattle.cm_ctx.specs.Naming.{syms_in, syms_of}
use Rattle.cm_ctx.proofs.Indexing.{get_left}
use Rattle.cm_exec.specs.Run.{piece_at, pieces_for, counted_all, GivesAll}
use Rattle.cm_beside.specs.Nodes.{pieces_from, pieces_a, pieces_b, pieces_of, types_of, counts_a, counts_b, args_a}
use Rattle.cm_beside.specs.Nodes.{args_b, IsValuation}
use Rattle.cm_beside.proofs.Rows.{gives_first}
use Rattle.cm_beside.specs.Seen.{roots_under, symbol_at, is_seen_in, has_value}
use Rattle.cm_case.proofs.Parts.{LeadsTo, IsOfSort, IsOfEnum, IsInteger, IsOptional, piece_leads, all_so, all_both}

pub get_found : {A : Type 0} (xs ys : List A) (i : ℕ) (a : A) → slice_get xs i ≡ Some a
    → slice_get (xs ++ ys) i ≡ Some a
get_found [] ys i a at = absurd (cc)
get_found (x ∷ xs) ys zero a at = at
get_found (x ∷ xs) ys (suc i) a at = get_found xs ys i a at

pub all_get : {A : Type 0} (P : A → Type 0) (xs : List A) (i : ℕ) (a : A) → AllByRecursion P xs
    → slice_get xs i ≡ Some a → P a
all_get P [] i a h at = absurd (cc)
all_get P (x ∷ xs) zero a h at = let same : x ≡ a = cc in subst P same h.0
all_get P (x ∷ xs) (suc i) a h at = all_get P xs i a h.1 at

pub all_mapped : {A B : Type 0} (P : B → Type 0) (f : A → B) (xs : List A) → AllByRecursion (λ x. P (f x)) xs
    → AllByRecursion P (map f xs)
all_mapped P f [] h = tt
all_mapped P f (x ∷ xs) h = (h.0, all_mapped P f xs h.1)

-- the symbols of pieces
pub syms_both : (k : Kind) (ps qs : List Piece) → syms_of k (ps ++ qs) ≡ syms_of k ps ++ syms_of k qs
syms_both k [] qs = refl
syms_both k (p ∷ ps) qs =
    ap (λ ss. syms_in k p ++ ss) (syms_both k ps qs) ∙ sym (append_assoc (syms_in k p) (syms_of k ps) (syms_of k qs))

syms_found : (k : Kind) (ps qs : List Piece) (x : ℕ) (s : Sym) → slice_get (syms_of k ps) x ≡ Some s
    → slice_get (syms_of k (ps ++ qs)) x ≡ Some s
syms_found k ps qs x s at =
    ap (λ ss. slice_get ss x) (syms_both k ps qs) ∙ get_found (syms_of k ps) (syms_of k qs) x s at

-- the symbol of a variable stays where further pieces come
pub symbol_found : (ps qs : List Piece) (x : Var) (s : Sym) → symbol_at ps x ≡ Some s → symbol_at (ps ++ qs) x ≡ Some s
symbol_found ps qs (OfElement x) s at = syms_found kind.Element ps qs x s at
symbol_found ps qs (OfNumber zero) s at = absurd (cc)
symbol_found ps qs (OfNumber (suc x)) s at = syms_found kind.Number ps qs x s at
symbol_found ps qs (OfTag x) s at = syms_found kind.Tag ps qs x s at
symbol_found ps qs (OfOption x) s at = syms_found kind.Option ps qs x s at

-- a fact of all symbols of pieces is one of each variable's
abbrev pub AllSyms : (Sym → Type 0) → Piece → Type 0
AllSyms P q = (k : Kind) → AllByRecursion P (syms_in k q)

syms_all : (P : Sym → Type 0) (k : Kind) (ps : List Piece) → AllByRecursion (AllSyms P) ps
    → AllByRecursion P (syms_of k ps)
syms_all P k [] h = tt
syms_all P k (p ∷ ps) h = all_both P (syms_in k p) (syms_of k ps) (h.0 k) (syms_all P k ps h.1)

pub symbol_so : (P : Sym → Type 0) (ps : List Piece) → AllByRecursion (AllSyms P) ps → (x : Var) (s : Sym)
    → symbol_at ps x ≡ Some s → P s
symbol_so P ps h (OfElement x) s at = all_get P (syms_of kind.Element ps) x s (syms_all P kind.Element ps h) at
symbol_so P ps h (OfNumber zero) s at = absurd (cc)
symbol_so P ps h (OfNumber (suc x)) s at = all_get P (syms_of kind.Number ps) x s (syms_all P kind.Number ps h) at
symbol_so P ps h (OfTag x) s at = all_get P (syms_of kind.Tag ps) x s (syms_all P kind.Tag ps h) at
symbol_so P ps h (OfOption x) s at = all_get P (syms_of kind.Option ps) x s (syms_all P kind.Option ps h) at

-- an argument, or one of so many cells
abbrev pub IsAmong : ℕ → Root → Type 0
IsAmong n (root.A i) = Unit {0}
IsAmong n (root.B i) = Unit {0}
IsAmong n (root.Cell i) = i < n

abbrev pub SymAmong : ℕ → Sym → Type 0
SymAmong n s = IsAmong n s.root

pub followed_none : (s : Sym) → followed s.path None ≡ None
followed_none s = by s.path
  where
    by : (ss : List _) → followed ss None ≡ None
    by [] = refl
    by (s ∷ ss) = refl

module _ (t : Tables) where
  syms_among : (n : ℕ) (u : Ty) (r : Root) (c : Counts) → IsAmong n r → AllSyms (SymAmong n) (piece_of t u r c)
  syms_among n u r c h k = by k
    where
      lead : (s : Sym) (P : Ty → Type 0) → LeadsTo t r [] u s P → SymAmong n s
      lead s P l = subst (IsAmong n) (sym l.root) h

      by : (k : Kind) → AllByRecursion (SymAmong n) (syms_in k (piece_of t u r c))
      by kind.Element = all_mapped (SymAmong n) (λ (d : ElementPart). d.sym) _
          (all_so _ (λ (d : ElementPart). SymAmong n d.sym) _ (λ d. lead d.sym (IsOfSort d))
          (piece_leads t u r c).elements)
      by kind.Number = all_mapped (SymAmong n) (λ (d : NumberPart). d.sym) _
          (all_so _ (λ (d : NumberPart). SymAmong n d.sym) _ (λ d. lead d.sym IsInteger) (piece_leads t u r c).numbers)
      by kind.Tag = all_mapped (SymAmong n) (λ (d : TagPart). d.sym) _
          (all_so _ (λ (d : TagPart). SymAmong n d.sym) _ (λ d. lead d.sym (IsOfEnum t d)) (piece_leads t u r c).tags)
      by kind.Option = all_mapped (SymAmong n) (λ (d : OptionPart). d.sym) _
          (all_so _ (λ (d : OptionPart). SymAmong n d.sym) _ (λ d. lead d.sym IsOptional) (piece_leads t u r c).options)

  row_among : (n : ℕ) (r : ℕ → Root) → ((i : ℕ) → IsAmong n (r i)) → (i : ℕ) (us : List Ty) (c : Counts)
      → AllByRecursion (AllSyms (SymAmong n)) (pieces_from t r i us c)
  row_among n r h i [] c = tt
  row_among n r h i (u ∷ us) c =
      (syms_among n u (r i) c (h i), row_among n r h (i + 1) us (counted c (piece_of t u (r i) c).variables))

  cells_among : (n : ℕ) (c : Counts) (m : ℕ) (qs : List Place) → m + length qs ≤ n
      → AllByRecursion (AllSyms (SymAmong n)) (pieces_for t c m qs)
  cells_among n c m [] le = tt
  cells_among n c m (q ∷ qs) le = (
    syms_among n _ (root.Cell m) c (let lt : m < n = omega (arith, le) in lt),
    cells_among n (counted c (piece_at t c m q).variables) (m + 1) qs (omega (arith, le)),
  )

  -- a piece for each cell
  pub as_many : (c : Counts) (n : ℕ) (qs : List Place) → length (pieces_for t c n qs) ≡ length qs
  as_many c n [] = refl
  as_many c n (q ∷ qs) = ap suc (as_many (counted c (piece_at t c n q).variables) (n + 1) qs)

  -- the pieces of cells, and of more behind them
  pub cells_both : (c : Counts) (n : ℕ) (first more : List Place) → pieces_for t c n (first ++ more)
      ≡ pieces_for t c n first ++ pieces_for t (counted_all c (pieces_for t c n first)) (n + length first) more
  cells_both c n [] more = let e : n ≡ n + 0 = omega arith in ap (λ m. pieces_for t c m more) e
  cells_both c n (q ∷ first) more =
      let d = counted c (piece_at t c n q).variables in
      let e : n + 1 + length first ≡ n + suc (length first) = omega arith in
      ap (λ ps. piece_at t c n q ∷ ps) (cells_both d (n + 1) first more
      ∙ ap (λ m. pieces_for t d (n + 1) first ++ pieces_for t (counted_all d (pieces_for t d (n + 1) first)) m more) e)

  module _ (p : Pair) where
    -- those of the cells behind these
    abbrev pub later_pieces : List Place → List Place → List Piece
    later_pieces first more =
        pieces_for t (counted_all (counts_b t p) (pieces_for t (counts_b t p) 0 first)) (0 + length first) more

    pub pieces_both : (first more : List Place)
        → pieces_of t p (first ++ more) ≡ pieces_of t p first ++ later_pieces first more
    pieces_both first more =
        let made = pieces_for t (counts_b t p) 0 first in
        let later = later_pieces first more in
        ap (λ ps. pieces_a t p ++ (pieces_b t p ++ ps)) (cells_both (counts_b t p) 0 first more)
        ∙ ap (λ ps. pieces_a t p ++ ps) (sym (append_assoc (pieces_b t p) made later))
        ∙ sym (append_assoc (pieces_a t p) (pieces_b t p ++ made) later)

    -- a valuation with more cells is one with the first
    pub valuation_less : (first more : List Place) (v : Valuation) → IsValuation (pieces_of t p (first ++ more)) v
        → IsValuation (pieces_of t p first) v
    valuation_less first more v is = record {
      zero = is.zero;
      given = gives_first (pieces_of t p first) (later_pieces first more) v
          (subst (λ ps. GivesAll ps v) (pieces_both first more) is.given);
    }

    -- a symbol stays
    pub symbol_more : (first more : List Place) (x : Var) (s : Sym) → symbol_at (pieces_of t p first) x ≡ Some s
        → symbol_at (pieces_of t p (first ++ more)) x ≡ Some s
    symbol_more first more x s at =
        ap (λ ps. symbol_at ps x) (pieces_both first more)
        ∙ symbol_found (pieces_of t p first) (later_pieces first more) x s at

    -- it is one of an argument or of one of the cells
    pub symbol_among : (first : List Place) (x : Var) (s : Sym) → symbol_at (pieces_of t p first) x ≡ Some s
        → IsAmong (length first) s.root
    symbol_among first x s at =
        let n = length first in
        symbol_so (SymAmong n) (pieces_of t p first)
        (all_both (AllSyms (SymAmong n)) (pieces_a t p) _
        (row_among n root.A (λ i. tt) 0 (types_of t p.a) first_counts)
        (all_both (AllSyms (SymAmong n)) (pieces_b t p) _
        (row_among n root.B (λ i. tt) 0 (types_of t p.b) (counts_a t p))
        (cells_among n (counts_b t p) 0 first (omega arith)))) x s at

    -- the arguments are these, and the cells begin so
    pub record Begins (first : List Place) (v : Valuation) (r : Roots) : Type 0 where
      pub a : r.a ≡ map (value_of v) (args_a t p)
      pub b : r.b ≡ map (value_of v) (args_b t p)
      pub later : List (Option Value)
      pub cells : r.cells ≡ (roots_under t p first v).cells ++ later

    -- where they do, a symbol has the same value
    pub seen_same : (first : List Place) (v : Valuation) (r : Roots) → Begins first v r → (x : Var) (s : Sym)
        → symbol_at (pieces_of t p first) x ≡ Some s → symbol_value r s ≡ symbol_value (roots_under t p first v) s
    seen_same first v r h x s at = ap (followed s.path) (by s.root (symbol_among first x s at))
      where
        many : length (roots_under t p first v).cells ≡ length first
        many = length-map (pieces_for t (counts_b t p) 0 first) (λ (q : Piece). Some (value_of v q.term))
            ∙ as_many (counts_b t p) 0 first

        by : (k : Root) → IsAmong (length first) k → root_value r k ≡ root_value (roots_under t p first v) k
        by (root.A i) lt = ap (λ xs. slice_get xs i) h.a
        by (root.B i) lt = ap (λ xs. slice_get xs i) h.b
        by (root.Cell i) lt =
            ap (λ xs. joined (slice_get xs i)) h.cells
            ∙ ap joined (get_left (roots_under t p first v).cells h.later i (omega (arith, lt, many)))

    -- with more cells it begins so
    pub begins_more : (first more : List Place) (v : Valuation) → Begins first v (roots_under t p (first ++ more) v)
    begins_more first more v = record {
      a = refl;
      b = refl;
      later = map (λ (q : Piece). Some (value_of v q.term)) (later_pieces first more);
      cells = ap (map (λ (q : Piece). Some (value_of v q.term))) (cells_both (counts_b t p) 0 first more)
          ∙ map-append (λ (q : Piece). Some (value_of v q.term)) (pieces_for t (counts_b t p) 0 first)
          (later_pieces first more);
    }

    pub begins_itself : (first : List Place) (v : Valuation) → Begins first v (roots_under t p first v)
    begins_itself first v = record {
      a = refl;
      b = refl;
      later = [];
      cells = sym (append-nil (roots_under t p first v).cells);
    }

    -- a symbol of the first cells has the same value with more
    pub extended : (first more : List Place) (v : Valuation) (x : Var) (s : Sym)
        → symbol_at (pieces_of t p first) x ≡ Some s
        → symbol_value (roots_under t p (first ++ more) v) s ≡ symbol_value (roots_under t p first v) s
    extended first more v = seen_same first v (roots_under t p (first ++ more) v) (begins_more first more v)

    -- the symbol of a variable that has a value
    pub has_symbol : (first : List Place) (v : Valuation) (x : Var) → has_value t p first v x ≡ true
        → (s : Sym) × (symbol_at (pieces_of t p first) x ≡ Some s) × (y : Value)
        × (symbol_value (roots_under t p first v) s ≡ Some y)
    has_symbol first v x h = by (symbol_at (pieces_of t p first) x) refl h
      where
        there : (s : Sym) → symbol_at (pieces_of t p first) x ≡ Some s → (o : Option Value)
            → symbol_value (roots_under t p first v) s ≡ o → is_there o ≡ true
            → (s : Sym) × (symbol_at (pieces_of t p first) x ≡ Some s) × (y : Value)
            × (symbol_value (roots_under t p first v) s ≡ Some y)
        there s at (Some y) e k = (s, at, y, e)
        there s at None e k = absurd (cc)

        by : (o : Option Sym) → symbol_at (pieces_of t p first) x ≡ o
            → is_seen_in (roots_under t p first v) o ≡ true
            → (s : Sym) × (symbol_at (pieces_of t p first) x ≡ Some s) × (y : Value)
            × (symbol_value (roots_under t p first v) s ≡ Some y)
        by (Some s) at k = there s at (symbol_value (roots_under t p first v) s) refl k
        by None at k = absurd (cc)

    -- a variable that has a value has it with more cells
    pub has_more : (first more : List Place) (v : Valuation) (x : Var) → has_value t p first v x ≡ true
        → has_value t p (first ++ more) v x ≡ true
    has_more first more v x h =
        let s = has_symbol first v x h in
        ap (is_seen_in (roots_under t p (first ++ more) v)) (symbol_more first more x s.0 s.1)
        ∙ ap is_there (extended first more v x s.0 s.1 ∙ s.3)
