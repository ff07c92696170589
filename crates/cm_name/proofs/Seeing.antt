-- Under a valuation of the arguments and of some cells the symbol of a variable has the variable's value, if any.
use Rattle.std.proofs.Common.{◌≡◌, ◌<◌, ◌+◌, ℕ, zero, suc, List, [], ◌∷◌, ◌++◌, map, length, slice_get, IfSome}
use Rattle.std.proofs.Common.{Some, refl, sym, ap, subst, ◌∙◌, arith, append_assoc}
use Rattle.std.specs.List.{AllByRecursion}
use Rattle.std.proofs.lemmas.List.{length-append}
use Rattle.cm_model.specs.Tables.{Tables}
use Rattle.cm_model.specs.declared.ty.Ty.{Ty}
use Rattle.cm_model.specs.declared.pair.Pair.{Pair}
use Rattle.cm_value.specs.declared.value.Value.{Value}
use Rattle.cm_value.specs.declared.value.Value.TheVariants as value
use Rattle.cm_term.specs.declared.symbol.Root.{Root}
use Rattle.cm_term.specs.declared.symbol.Root.TheVariants as root
use Rattle.cm_term.specs.declared.symbol.Sym.{Sym}
use Rattle.cm_term.specs.Symbols.{Roots, root_value, symbol_value, followed, joined}
use Rattle.cm_term.specs.Terms.{value_of}
use Rattle.cm_term.specs.Valuation.{Valuation, Var, OfElement, OfNumber, OfTag, OfOption}
use Rattle.cm_cells.specs.CellTable.{Place}
use Rattle.cm_ctx.specs.declared.piece.Counts.{Counts}
use Rattle.cm_ctx.specs.declared.piece.ElementPart.{ElementPart}
use Rattle.cm_ctx.specs.declared.piece.NumberPart.{NumberPart}
use Rattle.cm_ctx.specs.declared.piece.TagPart.{TagPart}
use Rattle.cm_ctx.specs.declared.piece.OptionPart.{OptionPart}
use Rattle.cm_ctx.specs.declared.piece.Piece.{Piece}
use Rattle.cm_ctx.specs.Asking.{IsAmong, InRow}
use Rattle.cm_ctx.specs.Belonging.{PayloadsHold, NamesPart, Names, option_value}
use Rattle.cm_ctx.specs.Giving.{Gives, HasPayload}
use Rattle.cm_ctx.specs.Making.{counted, first_counts, piece_of}
use Rattle.cm_ctx.proofs.Each.{each_at, each_so}
use Rattle.cm_ctx.proofs.Leading.{piece_names}
use Rattle.cm_exec.specs.Run.{counted_all, pieces_for, piece_at, GivesAll}
use Rattle.cm_beside.specs.Nodes.{pieces_from, types_of, pieces_a, pieces_b, counts_a, counts_b, pieces_of, IsValuation}
use Rattle.cm_beside.specs.Seen.{roots_under, symbol_at}
use Rattle.cm_beside.proofs.Rows.{row_both, row_from, gives_first, gives_last}
use Rattle.cm_beside.proofs.Seeing.{value_at}
use Rattle.cm_name.proofs.Finding.{FoundAt, found}

pub all_both : {A : Type 0} (P : A → Type 0) (xs ys : List A) → AllByRecursion P xs → AllByRecursion P ys
    → AllByRecursion P (xs ++ ys)
all_both P [] ys h k = k
all_both P (x ∷ xs) ys h k = (h.0, all_both P xs ys h.1 k)

all_at : {A : Type 0} (P : A → Type 0) (xs : List A) → AllByRecursion P xs → (k : ℕ) (x : A)
    → slice_get xs k ≡ Some x → P x
all_at P [] h k x at = absurd (cc)
all_at P (y ∷ xs) h zero x at = let same : y ≡ x = cc in subst P same h.0
all_at P (y ∷ xs) h (suc k) x at = all_at P xs h.1 k x at

next_one : {A : Type 0} (done : List A) (x : A) (n : ℕ) → n ≡ length done → n + 1 ≡ length (done ++ x ∷ [])
next_one done x n is = let e = length-append done (x ∷ []) in omega (arith, is, e)

mapped : {A B : Type 0} (f : A → B) (done : List A) (x : A) (more : List A) (n : ℕ) → n ≡ length done
    → slice_get (map f (done ++ x ∷ more)) n ≡ Some (f x)
mapped f [] x more zero is = refl
mapped f [] x more (suc n) is = absurd (omega (arith, is))
mapped f (y ∷ done) x more zero is = absurd (omega (arith, is))
mapped f (y ∷ done) x more (suc n) is = mapped f done x more n (omega (arith, is))

twice : (v : Valuation) (done : List Piece) (q : Piece) (more : List Piece) (n : ℕ) → n ≡ length done
    → slice_get (map (value_of v) (map (λ (q : Piece). q.term) (done ++ q ∷ more))) n ≡ Some (value_of v q.term)
twice v [] q more zero is = refl
twice v [] q more (suc n) is = absurd (omega (arith, is))
twice v (y ∷ done) q more zero is = absurd (omega (arith, is))
twice v (y ∷ done) q more (suc n) is = twice v done q more n (omega (arith, is))

payloads : (v : Valuation) (q : Piece) → Gives q.from q.variables v → PayloadsHold v q
payloads v q g = each_so (HasPayload v) (λ o (d : OptionPart). v.payload o ≡ value_of v d.payload) q.from.options
    q.variables.options (λ o d low high h. h.1) g.options

-- the pieces of cells stand one behind another
cells_row : (t : Tables) (c : Counts) (n : ℕ) (qs : List Place)
    → InRow c (pieces_for t c n qs) (counted_all c (pieces_for t c n qs))
cells_row t c n [] = refl
cells_row t c n (q ∷ qs) = (refl, cells_row t (counted c (piece_at t c n q).variables) (n + 1) qs)

module _ (t : Tables) (p : Pair) (places : List Place) where
  abbrev pieces : List Piece
  pieces = pieces_of t p places

  -- so do those of arguments and cells
  pub whole_row : InRow first_counts pieces (counted_all first_counts pieces)
  whole_row =
      row_both first_counts (pieces_a t p) (pieces_b t p ++ pieces_for t (counts_b t p) 0 places)
      (row_from t root.A 0 (types_of t p.a) first_counts)
      (row_both (counts_a t p) (pieces_b t p) (pieces_for t (counts_b t p) 0 places)
      (row_from t root.B 0 (types_of t p.b) (counts_a t p)) (cells_row t (counts_b t p) 0 places))

  module _ (v : Valuation) (is : IsValuation pieces v) where
    abbrev roots : Roots
    roots = roots_under t p places v

    -- a piece's root has the value of its term, and its symbols name their variables' values
    record IsRooted (q : Piece) : Type 0 where
      worth : root_value roots q.root ≡ Some (value_of v q.term)
      gives : Gives q.from q.variables v
      names : Names v q

    rooted : (u : Ty) (r : Root) (c : Counts) → root_value roots r ≡ Some (value_of v (piece_of t u r c).term)
        → Gives c (piece_of t u r c).variables v → IsRooted (piece_of t u r c)
    rooted u r c worth g = record {
      worth = worth;
      gives = g;
      names = piece_names t u r c v (payloads v (piece_of t u r c) g);
    }

    -- the arguments of a call
    rooted_from : (r : ℕ → Root) (done : List Piece) (i : ℕ) (us : List Ty) (c : Counts) → i ≡ length done
        → ((j : ℕ) → root_value roots (r j)
        ≡ slice_get (map (value_of v) (map (λ (q : Piece). q.term) (done ++ pieces_from t r i us c))) j)
        → GivesAll (pieces_from t r i us c) v → AllByRecursion IsRooted (pieces_from t r i us c)
    rooted_from r done i [] c long at g = tt
    rooted_from r done i (u ∷ us) c long at g =
        let q = piece_of t u (r i) c in
        let more = pieces_from t r (i + 1) us (counted c q.variables) in (
          rooted u (r i) c (at i ∙ twice v done q more i long) g.0,
          rooted_from r (done ++ q ∷ []) (i + 1) us (counted c q.variables) (next_one done q i long)
              (λ j. at j ∙ ap (λ qs. slice_get (map (value_of v) (map (λ (q : Piece). q.term) qs)) j)
              (sym (append_assoc done (q ∷ []) more))) g.1,
        )

    -- the cells
    rooted_cells : (done : List Piece) (c : Counts) (n : ℕ) (qs : List Place) → n ≡ length done
        → ((j : ℕ) → root_value roots (root.Cell j)
        ≡ joined (slice_get (map (λ (q : Piece). Some (value_of v q.term)) (done ++ pieces_for t c n qs)) j))
        → GivesAll (pieces_for t c n qs) v → AllByRecursion IsRooted (pieces_for t c n qs)
    rooted_cells done c n [] long at g = tt
    rooted_cells done c n (o ∷ qs) long at g =
        let q = piece_at t c n o in
        let more = pieces_for t (counted c q.variables) (n + 1) qs in (
          rooted _ (root.Cell n) c
              (at n ∙ ap joined (mapped (λ (q : Piece). Some (value_of v q.term)) done q more n long)) g.0,
          rooted_cells (done ++ q ∷ []) (counted c q.variables) (n + 1) qs (next_one done q n long)
              (λ j. at j ∙ ap (λ rs. joined (slice_get (map (λ (q : Piece). Some (value_of v q.term)) rs) j))
              (sym (append_assoc done (q ∷ []) more))) g.1,
        )

    given_b : GivesAll (pieces_b t p ++ pieces_for t (counts_b t p) 0 places) v
    given_b = gives_last (pieces_a t p) _ v is.given

    all_rooted : AllByRecursion IsRooted pieces
    all_rooted =
        all_both IsRooted (pieces_a t p) _
        (rooted_from root.A [] 0 (types_of t p.a) first_counts refl (λ j. refl)
        (gives_first (pieces_a t p) _ v is.given))
        (all_both IsRooted (pieces_b t p) _
        (rooted_from root.B [] 0 (types_of t p.b) (counts_a t p) refl (λ j. refl)
        (gives_first (pieces_b t p) _ v given_b))
        (rooted_cells [] (counts_b t p) 0 places refl (λ j. refl) (gives_last (pieces_b t p) _ v given_b)))

    rooted_at : (q : Piece) → IsAmong pieces q → IsRooted q
    rooted_at q among = all_at IsRooted pieces all_rooted among.0 q among.1

    -- what a symbol names by the piece that it is of
    named_so : (q : Piece) → IsRooted q → (s : Sym) (y : Value) → NamesPart q.root (value_of v q.term) s y
        → IfSome (symbol_value roots s) (λ z. z ≡ y)
    named_so q r s y n = subst (λ o. IfSome (followed s.path o) (λ z. z ≡ y))
        (sym (ap (root_value roots) n.root ∙ r.worth)) n.part

    seen : (x : Var) (s : Sym) → FoundAt pieces x s → IfSome (symbol_value roots s) (λ y. y ≡ value_at v x)
    seen (OfElement x) s f =
        let r = rooted_at f.piece f.among in
        let named = each_at (λ n (d : ElementPart). NamesPart f.piece.root (value_of v f.piece.term) d.sym
        (value.Elem (v.element n))) f.piece.from.elements f.piece.variables.elements r.names.elements f.place f.part
        f.here in
        subst (λ n. IfSome (symbol_value roots s) (λ y. y ≡ value.Elem (v.element n))) (sym f.number)
        (subst (λ u. IfSome (symbol_value roots u) (λ y. y ≡ value.Elem (v.element (f.piece.from.elements + f.place))))
        f.named (named_so f.piece r f.part.sym _ named))
    seen (OfNumber x) s f =
        let r = rooted_at f.piece f.among in
        let named = each_at (λ n (d : NumberPart). NamesPart f.piece.root (value_of v f.piece.term) d.sym
        (value.Int (v.number n))) f.piece.from.numbers f.piece.variables.numbers r.names.numbers f.place f.part
        f.here in
        subst (λ n. IfSome (symbol_value roots s) (λ y. y ≡ value.Int (v.number n))) (sym f.number)
        (subst (λ u. IfSome (symbol_value roots u) (λ y. y ≡ value.Int (v.number (f.piece.from.numbers + f.place))))
        f.named (named_so f.piece r f.part.sym _ named))
    seen (OfTag x) s f =
        let r = rooted_at f.piece f.among in
        let named = each_at (λ n (d : TagPart). NamesPart f.piece.root (value_of v f.piece.term) d.sym
        (value.Tag (v.tag n))) f.piece.from.tags f.piece.variables.tags r.names.tags f.place f.part
        f.here in
        subst (λ n. IfSome (symbol_value roots s) (λ y. y ≡ value.Tag (v.tag n))) (sym f.number)
        (subst (λ u. IfSome (symbol_value roots u) (λ y. y ≡ value.Tag (v.tag (f.piece.from.tags + f.place))))
        f.named (named_so f.piece r f.part.sym _ named))
    seen (OfOption o) s f =
        let r = rooted_at f.piece f.among in
        let named = each_at (λ n (d : OptionPart). NamesPart f.piece.root (value_of v f.piece.term) d.sym
        (option_value v n)) f.piece.from.options f.piece.variables.options r.names.options f.place f.part
        f.here in
        subst (λ n. IfSome (symbol_value roots s) (λ y. y ≡ option_value v n)) (sym f.number)
        (subst (λ u. IfSome (symbol_value roots u) (λ y. y ≡ option_value v (f.piece.from.options + f.place)))
        f.named (named_so f.piece r f.part.sym _ named))

    -- the symbol of a variable has the variable's value, if it has one
    pub may_see : (x : Var) (s : Sym) → symbol_at pieces x ≡ Some s
        → IfSome (symbol_value (roots_under t p places v) s) (λ y. y ≡ value_at v x)
    may_see x s at = seen x s (found pieces (counted_all first_counts pieces) whole_row x s at)

    -- an option that was made is none or some
    pub presence : (o : ℕ) (s : Sym) → symbol_at pieces (OfOption o) ≡ Some s → v.present o < 2
    presence o s at =
        let f = found pieces (counted_all first_counts pieces) whole_row (OfOption o) s at in
        let r = rooted_at f.piece f.among in
        let has = each_at (HasPayload v) f.piece.from.options f.piece.variables.options r.gives.options f.place f.part
        f.here in
        subst (λ n. v.present n < 2) (sym f.number) has.0
