-- Under a valuation of the arguments and of some cells their variables' symbols have values.
use Rattle.std.proofs.Common.{◌≡◌, ◌+◌, ℕ, zero, suc, true, List, [], ◌∷◌, ◌++◌, map, length, slice_get}
use Rattle.std.proofs.Common.{Option, Some, None, refl, sym, ap, subst, ◌∙◌, arith, append_assoc, ◌⊎◌, inl, inr}
use Rattle.std.proofs.lemmas.List.{length-append, length-map}
use Rattle.std.specs.List.{AllByRecursion}
use Rattle.cm_model.specs.Tables.{Tables}
use Rattle.cm_model.specs.declared.ty.Ty.{Ty}
use Rattle.cm_model.specs.declared.pair.Pair.{Pair}
use Rattle.cm_value.specs.declared.value.Value.{Value}
use Rattle.cm_term.specs.declared.symbol.Root.{Root}
use Rattle.cm_term.specs.declared.symbol.Root.TheVariants as root
use Rattle.cm_term.specs.declared.symbol.Sym.{Sym}
use Rattle.cm_term.specs.declared.term.Term.{Term}
use Rattle.cm_term.specs.Symbols.{Roots, root_value, symbol_value, followed, joined}
use Rattle.cm_term.specs.Terms.{value_of, vars_of}
use Rattle.cm_term.specs.Valuation.{Valuation, Var, OfElement, OfNumber, OfTag, OfOption}
use Rattle.cm_cells.specs.Alike.{is_there}
use Rattle.cm_cells.specs.CellTable.{Place}
use Rattle.cm_ctx.specs.declared.piece.Counts.{Counts}
use Rattle.cm_ctx.specs.declared.piece.ElementPart.{ElementPart}
use Rattle.cm_ctx.specs.declared.piece.NumberPart.{NumberPart}
use Rattle.cm_ctx.specs.declared.piece.TagPart.{TagPart}
use Rattle.cm_ctx.specs.declared.piece.OptionPart.{OptionPart}
use Rattle.cm_ctx.specs.declared.piece.Piece.{Piece}
use Rattle.cm_ctx.specs.declared.naming.Kind.TheVariants as kind
use Rattle.cm_ctx.specs.Naming.{syms_in, syms_of}
use Rattle.cm_ctx.specs.Making.{counted, first_counts, piece_of, place}
use Rattle.cm_ctx.specs.Contexts.{payloads_of}
use Rattle.cm_ctx.specs.Asking.{InRow}
use Rattle.cm_ctx.proofs.Each.{each_at}
use Rattle.cm_exec.specs.Run.{pieces_for, piece_at, counted_all, GivesAll}
use Rattle.cm_beside.specs.Nodes.{pieces_from, types_of, pieces_a, pieces_b, counts_a, counts_b}
use Rattle.cm_beside.specs.Nodes.{pieces_of}
use Rattle.cm_beside.specs.Seen.{roots_under, number_symbol, symbol_at, is_seen_in, has_value}
use Rattle.cm_beside.proofs.Rows.{within, payloads_both, many_payloads, behind_both, gives_first, gives_last}
use Rattle.cm_beside.proofs.Rows.{syms_both, many_tags}
use Rattle.cm_beside.proofs.Seeing.{IsNamed, IsSeen, IsOpened, PieceSeen, piece_seen, spot}

-- how many symbols of pieces there are
many_elements : (c : Counts) (ps : List Piece) → c.elements + length (syms_of kind.Element ps) ≡ (counted_all c ps).elements
many_elements c [] = omega arith
many_elements c (p ∷ ps) =
    let rest = many_elements (counted c p.variables) ps in
    let n = length-append (syms_in kind.Element p) (syms_of kind.Element ps) in
    let m = length-map p.variables.elements (λ (d : ElementPart). d.sym) in
    omega (arith, rest, n, m)

many_numbers : (c : Counts) (ps : List Piece) → c.numbers + length (syms_of kind.Number ps) ≡ (counted_all c ps).numbers
many_numbers c [] = omega arith
many_numbers c (p ∷ ps) =
    let rest = many_numbers (counted c p.variables) ps in
    let n = length-append (syms_in kind.Number p) (syms_of kind.Number ps) in
    let m = length-map p.variables.numbers (λ (d : NumberPart). d.sym) in
    omega (arith, rest, n, m)

many_options : (c : Counts) (ps : List Piece) → c.options + length (syms_of kind.Option ps) ≡ (counted_all c ps).options
many_options c [] = omega arith
many_options c (p ∷ ps) =
    let rest = many_options (counted c p.variables) ps in
    let n = length-append (syms_in kind.Option p) (syms_of kind.Option ps) in
    let m = length-map p.variables.options (λ (d : OptionPart). d.sym) in
    omega (arith, rest, n, m)

in_place : {X : Type 0} (f : X → Sym) (before : List Sym) (xs : List X) (more : List Sym) (i : ℕ) (x : X) (n : ℕ)
    → slice_get xs i ≡ Some x → n ≡ length before + i → slice_get (before ++ (map f xs ++ more)) n ≡ Some (f x)
in_place f before xs more i x n at is =
    ap (slice_get (before ++ (map f xs ++ more))) is ∙ within f before xs more i x at

-- the symbol of a variable of a piece that stands behind these
pub symbol_in_row : (done : List Piece) (q : Piece) (more : List Piece) → q.from ≡ counted_all first_counts done
    → (x : Var) (s : Sym) → IsNamed q.from q.variables x s → symbol_at (done ++ q ∷ more) x ≡ Some s
symbol_in_row done q more from (OfElement x) s h =
    let n = many_elements first_counts done in
    let e = ap (λ c. c.elements) from in
    let k = h.3 in
    ap (λ ss. slice_get ss x) (syms_both kind.Element done (q ∷ more))
    ∙ in_place (λ (d : ElementPart). d.sym) (syms_of kind.Element done) q.variables.elements (syms_of kind.Element more) h.0
    h.1 x h.2 (omega (arith, n, e, k)) ∙ ap Some h.4
symbol_in_row done q more from (OfNumber x) s h =
    let n = many_numbers first_counts done in
    let e = ap (λ c. c.numbers) from in
    let k = h.3 in
    let above : x ≡ suc (length (syms_of kind.Number done) + h.0) = omega (arith, n, e, k) in
    ap (number_symbol (done ++ q ∷ more)) above
    ∙ ap (λ ss. slice_get ss (length (syms_of kind.Number done) + h.0)) (syms_both kind.Number done (q ∷ more))
    ∙ in_place (λ (d : NumberPart). d.sym) (syms_of kind.Number done) q.variables.numbers (syms_of kind.Number more) h.0
    h.1 (length (syms_of kind.Number done) + h.0) h.2 refl ∙ ap Some h.4
symbol_in_row done q more from (OfTag x) s h =
    let n = many_tags first_counts done in
    let e = ap (λ c. c.tags) from in
    let k = h.3 in
    ap (λ ss. slice_get ss x) (syms_both kind.Tag done (q ∷ more))
    ∙ in_place (λ (d : TagPart). d.sym) (syms_of kind.Tag done) q.variables.tags (syms_of kind.Tag more) h.0
    h.1 x h.2 (omega (arith, n, e, k)) ∙ ap Some h.4
symbol_in_row done q more from (OfOption x) s h =
    let n = many_options first_counts done in
    let e = ap (λ c. c.options) from in
    let k = h.3 in
    ap (λ ss. slice_get ss x) (syms_both kind.Option done (q ∷ more))
    ∙ in_place (λ (d : OptionPart). d.sym) (syms_of kind.Option done) q.variables.options (syms_of kind.Option more) h.0
    h.1 x h.2 (omega (arith, n, e, k)) ∙ ap Some h.4

-- whose an option's symbol is
record OptionFound (c : Counts) (ps : List Piece) (o : ℕ) (s : Sym) : Type 0 where
  done : List Piece
  piece : Piece
  more : List Piece
  whole : ps ≡ done ++ piece ∷ more
  from : piece.from ≡ counted_all c done
  number : ℕ
  part : OptionPart
  at : slice_get piece.variables.options number ≡ Some part
  symbol : part.sym ≡ s
  is : o ≡ length (payloads_of done) + number

option_found : (c : Counts) (ps : List Piece) → InRow c ps (counted_all c ps) → (o : ℕ) (s : Sym)
    → slice_get (syms_of kind.Option ps) o ≡ Some s → OptionFound c ps o s
option_found c [] row o s at = absurd (cc)
option_found c (p ∷ ps) row o s at = elim (split p.variables.options o at) [
  | inl f ↦ record {
    done = [];
    piece = p;
    more = ps;
    whole = refl;
    from = row.0;
    number = o;
    part = f.0;
    at = f.1;
    symbol = f.2;
    is = omega arith;
  }
  | inr f ↦ later (option_found (counted c p.variables) ps row.1 f.0 s f.2) f.0 refl f.1
]
  where
    later : {k : ℕ} → OptionFound (counted c p.variables) ps k s → (n : ℕ) → k ≡ n
        → o ≡ length p.variables.options + n → OptionFound c (p ∷ ps) o s
    later f n same is =
        let n = length-append (map (λ (d : OptionPart). d.payload) p.variables.options) (payloads_of f.done) in
        let m = length-map p.variables.options (λ (d : OptionPart). d.payload) in
        let j = f.is in
        record {
          done = p ∷ f.done;
          piece = f.piece;
          more = f.more;
          whole = ap (λ qs. p ∷ qs) f.whole;
          from = f.from;
          number = f.number;
          part = f.part;
          at = f.at;
          symbol = f.symbol;
          is = omega (arith, is, same, n, m, j);
        }

    split : (ds : List OptionPart) (i : ℕ) → slice_get (map (λ (d : OptionPart). d.sym) ds ++ syms_of kind.Option ps) i ≡ Some s
        → ((d : OptionPart) × (slice_get ds i ≡ Some d) × (d.sym ≡ s))
        ⊎ ((k : ℕ) × (i ≡ length ds + k) × (slice_get (syms_of kind.Option ps) k ≡ Some s))
    split [] i h = inr (i, omega arith, h)
    split (d ∷ ds) zero h = let e : d.sym ≡ s = cc in inl (d, refl, e)
    split (d ∷ ds) (suc i) h = elim (split ds i h) [
      | inl f ↦ inl f
      | inr f ↦ let e = f.1 in inr (f.0, omega (arith, e), f.2)
    ]

all_in : {X : Type 0} (P : X → Type 0) (done : List X) (x : X) (more : List X) → AllByRecursion P (done ++ x ∷ more) → P x
all_in P [] x more h = h.0
all_in P (y ∷ done) x more h = all_in P done x more h.1

all_both : {X : Type 0} (P : X → Type 0) (xs ys : List X) → AllByRecursion P xs → AllByRecursion P ys
    → AllByRecursion P (xs ++ ys)
all_both P [] ys h k = k
all_both P (x ∷ xs) ys h k = (h.0, all_both P xs ys h.1 k)

all_parts : {X : Type 0} (P : X → Type 0) (xs ys : List X) → AllByRecursion P (xs ++ ys)
    → AllByRecursion P xs × AllByRecursion P ys
all_parts P [] ys h = (tt, h)
all_parts P (x ∷ xs) ys h = let rest = all_parts P xs ys h.1 in ((h.0, rest.0), rest.1)

next_one : {X : Type 0} (done : List X) (x : X) (n : ℕ) → n ≡ length done → n + 1 ≡ length (done ++ x ∷ [])
next_one done x n is = let e = length-append done (x ∷ []) in omega (arith, is, e)

mapped : {X Y : Type 0} (f : X → Y) (done : List X) (x : X) (more : List X) (n : ℕ) → n ≡ length done
    → slice_get (map f (done ++ x ∷ more)) n ≡ Some (f x)
mapped f [] x more zero is = refl
mapped f [] x more (suc n) is = absurd (omega (arith, is))
mapped f (y ∷ done) x more zero is = absurd (omega (arith, is))
mapped f (y ∷ done) x more (suc n) is = mapped f done x more n (omega (arith, is))

module _ (t : Tables) (p : Pair) (places : List Place) (v : Valuation) (given : GivesAll (pieces_of t p places) v) where
  abbrev pieces : List Piece
  pieces = pieces_of t p places

  abbrev roots : Roots
  roots = roots_under t p places v

  abbrev Has : Var → Type 0
  Has x = has_value t p places v x ≡ true

  -- its symbol's root has the value of its term, in which its variables are seen
  record IsRooted (q : Piece) : Type 0 where
    worth : root_value roots q.root ≡ Some (value_of v q.term)
    seen : PieceSeen v t q

  has_of_seen : (done : List Piece) (q : Piece) (more : List Piece) → pieces ≡ done ++ q ∷ more
      → q.from ≡ counted_all first_counts done → IsRooted q → (x : Var)
      → IsSeen v (spot v (place q.root [] q.from) (value_of v q.term)) q.variables x → Has x
  has_of_seen done q more whole from rooted x seen =
      ap (λ ps. is_seen_in roots (symbol_at ps x)) whole
      ∙ ap (is_seen_in roots) (symbol_in_row done q more from x seen.symbol seen.named)
      ∙ ap is_there (ap (λ ss. followed ss (root_value roots seen.symbol.root)) seen.path
      ∙ ap (λ r. followed seen.rest (root_value roots r)) seen.root
      ∙ ap (followed seen.rest) rooted.worth ∙ seen.leads)

  have_of_seen : (done : List Piece) (q : Piece) (more : List Piece) → pieces ≡ done ++ q ∷ more
      → q.from ≡ counted_all first_counts done → IsRooted q → (xs : List Var)
      → AllByRecursion (IsSeen v (spot v (place q.root [] q.from) (value_of v q.term)) q.variables) xs
      → AllByRecursion Has xs
  have_of_seen done q more whole from rooted [] h = tt
  have_of_seen done q more whole from rooted (x ∷ xs) h =
      (has_of_seen done q more whole from rooted x h.0, have_of_seen done q more whole from rooted xs h.1)

  -- the arguments of a call
  rooted_from : (r : ℕ → Root) (done : List Piece) (i : ℕ) (us : List Ty) (c : Counts)
      → i ≡ length done
      → ((j : ℕ) → root_value roots (r j)
      ≡ slice_get (map (value_of v) (map (λ (q : Piece). q.term) (done ++ pieces_from t r i us c))) j)
      → GivesAll (pieces_from t r i us c) v → AllByRecursion IsRooted (pieces_from t r i us c)
  rooted_from r done i [] c long is g = tt
  rooted_from r done i (u ∷ us) c long is g =
      let q = piece_of t u (r i) c in
      let more = pieces_from t r (i + 1) us (counted c q.variables) in (
        record {
          worth = is i ∙ twice done q more i long;
          seen = piece_seen v t u (r i) c g.0;
        },
        rooted_from r (done ++ q ∷ []) (i + 1) us (counted c q.variables) (next_one done q i long)
            (λ j. is j ∙ ap (λ qs. slice_get (map (value_of v) (map (λ (q : Piece). q.term) qs)) j)
            (sym (append_assoc done (q ∷ []) more))) g.1,
      )
    where
      twice : (done : List Piece) (q : Piece) (more : List Piece) (n : ℕ) → n ≡ length done
          → slice_get (map (value_of v) (map (λ (q : Piece). q.term) (done ++ q ∷ more))) n ≡ Some (value_of v q.term)
      twice [] q more zero is = refl
      twice [] q more (suc n) is = absurd (omega (arith, is))
      twice (y ∷ done) q more zero is = absurd (omega (arith, is))
      twice (y ∷ done) q more (suc n) is = twice done q more n (omega (arith, is))

  -- the cells
  rooted_cells : (done : List Piece) (c : Counts) (n : ℕ) (qs : List Place) → n ≡ length done
      → ((j : ℕ) → root_value roots (root.Cell j)
      ≡ joined (slice_get (map (λ (q : Piece). Some (value_of v q.term)) (done ++ pieces_for t c n qs)) j))
      → GivesAll (pieces_for t c n qs) v → AllByRecursion IsRooted (pieces_for t c n qs)
  rooted_cells done c n [] long is g = tt
  rooted_cells done c n (o ∷ qs) long is g =
      let q = piece_at t c n o in
      let more = pieces_for t (counted c q.variables) (n + 1) qs in (
        record {
          worth = is n ∙ ap joined (mapped (λ (q : Piece). Some (value_of v q.term)) done q more n long);
          seen = piece_seen v t _ (root.Cell n) c g.0;
        },
        rooted_cells (done ++ q ∷ []) (counted c q.variables) (n + 1) qs (next_one done q n long)
            (λ j. is j ∙ ap (λ rs. joined (slice_get (map (λ (q : Piece). Some (value_of v q.term)) rs) j))
            (sym (append_assoc done (q ∷ []) more))) g.1,
      )

  abbrev cells : List Piece
  cells = pieces_for t (counts_b t p) 0 places

  given_b : GivesAll (pieces_b t p ++ pieces_for t (counts_b t p) 0 places) v
  given_b = gives_last (pieces_a t p) _ v given

  all_rooted : AllByRecursion IsRooted pieces
  all_rooted =
      all_both IsRooted (pieces_a t p) _
      (rooted_from root.A [] 0 (types_of t p.a) first_counts refl (λ j. refl) (gives_first (pieces_a t p) _ v given))
      (all_both IsRooted (pieces_b t p) _
      (rooted_from root.B [] 0 (types_of t p.b) (counts_a t p) refl (λ j. refl) (gives_first (pieces_b t p) _ v given_b))
      (rooted_cells [] (counts_b t p) 0 places refl (λ j. refl) (gives_last (pieces_b t p) _ v given_b)))

  -- each variable of a term that was made has a value
  abbrev pub HaveTerms : List Piece → Type 0
  HaveTerms = AllByRecursion (λ (q : Piece). AllByRecursion Has (vars_of q.term))

  have_row : (done ps : List Piece) → pieces ≡ done ++ ps → InRow (counted_all first_counts done) ps
      (counted_all (counted_all first_counts done) ps) → AllByRecursion IsRooted ps → HaveTerms ps
  have_row done [] whole row rooted = tt
  have_row done (q ∷ ps) whole row rooted =
      let more = sym (behind_both first_counts done (q ∷ [])) in (
        have_of_seen done q ps whole row.0 rooted.0 (vars_of q.term) rooted.0.seen.term,
        have_row (done ++ q ∷ []) ps (whole ∙ sym (append_assoc done (q ∷ []) ps))
            (subst (λ c. InRow c ps (counted_all c ps))
            (ap (λ c. counted c q.variables) (sym row.0 ∙ row.0) ∙ more)
            (subst (λ c. InRow (counted c q.variables) ps (counted_all (counted c q.variables) ps)) refl row.1))
            rooted.1,
      )

  pub have_all : InRow first_counts pieces (counted_all first_counts pieces) → HaveTerms pieces
  have_all row = have_row [] pieces refl row all_rooted

  pub have_parts : InRow first_counts pieces (counted_all first_counts pieces)
      → HaveTerms (pieces_a t p) × HaveTerms (pieces_b t p) × HaveTerms (pieces_for t (counts_b t p) 0 places)
  have_parts row =
      let one = all_parts (λ (q : Piece). AllByRecursion Has (vars_of q.term)) (pieces_a t p) _ (have_all row) in
      let two = all_parts (λ (q : Piece). AllByRecursion Has (vars_of q.term)) (pieces_b t p) _ one.1 in
      (one.0, two.0, two.1)

  -- what lies in an option that is there has values where the option has one
  pub opened : InRow first_counts pieces (counted_all first_counts pieces) → (later : List Piece) (o : ℕ) (x : Term)
      → slice_get (payloads_of (pieces ++ later)) o ≡ Some x → v.present o ≡ 1 → Has (OfOption o) → AllByRecursion Has (vars_of x)
  opened row later o x at present has = by (symbol_at pieces (OfOption o)) refl has
    where
      some : (s : Sym) → symbol_at pieces (OfOption o) ≡ Some s → (y : Option Value) → symbol_value roots s ≡ y
          → is_there y ≡ true → AllByRecursion Has (vars_of x)
      some s is None seen there = absurd (cc)
      some s is (Some y) seen there =
          let f = option_found first_counts pieces row o s is in
          let rooted = all_in IsRooted f.done f.piece f.more (subst (AllByRecursion IsRooted) f.whole all_rooted) in
          let q = f.piece in
          let d = f.part in
          let open_ = each_at (IsOpened v (spot v (place q.root [] q.from) (value_of v q.term)) q.variables)
          q.from.options q.variables.options rooted.seen.options f.number d f.at in
          let n = many_payloads first_counts f.done in
          let e = ap (λ c. c.options) f.from in
          let k = f.is in
          let number : q.from.options + f.number ≡ o = omega (arith, n, e, k) in
          let payload : d.payload ≡ x = some_one d.payload x
          (sym (ap (λ i. slice_get (payloads_of (f.done ++ q ∷ (f.more ++ later))) i) k
          ∙ ap (λ ts. slice_get ts (length (payloads_of f.done) + f.number)) (payloads_both f.done (q ∷ (f.more ++ later)))
          ∙ within (λ (d : OptionPart). d.payload) (payloads_of f.done) q.variables.options (payloads_of (f.more ++ later))
          f.number d f.at) ∙ sym (ap (λ ps. slice_get (payloads_of ps) o)
          (ap (λ ps. ps ++ later) f.whole ∙ append_assoc f.done (q ∷ f.more) later)) ∙ at) in
          subst (λ z. AllByRecursion Has (vars_of z)) payload
          (have_of_seen f.done q f.more f.whole f.from rooted (vars_of d.payload)
          (open_.opens (ap v.present number ∙ present) y
          (ap (λ ss. followed ss (Some (value_of v q.term))) (sym open_.path)
          ∙ ap (followed d.sym.path) (sym rooted.worth)
          ∙ ap (λ r. followed d.sym.path (root_value roots r)) (sym open_.root)
          ∙ ap (symbol_value roots) f.symbol ∙ seen)))
        where
          some_one : {X : Type 0} (x y : X) → Some x ≡ Some y → x ≡ y
          some_one x y h = cc

      by : (s : Option Sym) → symbol_at pieces (OfOption o) ≡ s → is_seen_in roots s ≡ true
          → AllByRecursion Has (vars_of x)
      by None is h = absurd (cc)
      by (Some s) is h = some s is (symbol_value roots s) refl h
