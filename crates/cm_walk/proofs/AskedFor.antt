-- What is asked for the arguments of a call, one after another.
use Rattle.std.proofs.Common.{◌≡◌, ◌≢◌, ◌≤◌, ◌+◌, ◌↔◌, ◌⊎◌, inl, inr, ℕ, zero, suc, List, [], ◌∷◌, ◌++◌, length, map}
use Rattle.std.proofs.Common.{drop, slice_get, Some, refl, sym, ap, ◌∙◌, subst, append_assoc, arith}
use Rattle.std.proofs.lemmas.List.{append-nil}
use Rattle.cm_model.specs.Tables.{Tables}
use Rattle.cm_model.specs.declared.ty.Ty.{Ty}
use Rattle.cm_term.specs.declared.symbol.Root.{Root}
use Rattle.cm_term.specs.declared.term.Term.{Term}
use Rattle.cm_term.specs.Valuation.{Valuation}
use Rattle.cm_ctx.specs.declared.piece.Counts.{Counts}
use Rattle.cm_ctx.specs.declared.piece.Piece.{Piece}
use Rattle.cm_ctx.specs.Asking.{IsAmong, IsNew}
use Rattle.cm_ctx.specs.Contexts.{Context, Satisfies, Keeps, counts_of}
use Rattle.cm_ctx.specs.Giving.{Gives}
use Rattle.cm_ctx.specs.Making.{counted, piece_of}
use Rattle.cm_exec.specs.Run.{counted_all, GivesAll}
use Rattle.cm_beside.specs.Nodes.{pieces_from}
use Rattle.cm_walk.specs.declared.arguments.Side.{Side}
use Rattle.cm_walk.specs.declared.arguments.Side.TheVariants as side
use Rattle.cm_walk.specs.Arguments.{root_of, AreNewFrom, IsOther}

abbrev pub terms_of : List Piece → List Term
terms_of ps = map (λ (q : Piece). q.term) ps

among_either : (ps : List Piece) (q p : Piece) → IsAmong (ps ++ q ∷ []) p → IsAmong ps p ⊎ (p ≡ q)
among_either [] q p (zero, at) = inr (let e : p ≡ q = cc in e)
among_either [] q p (suc k, at) = absurd (cc)
among_either (x ∷ ps) q p (zero, at) = inl (zero, at)
among_either (x ∷ ps) q p (suc k, at) = elim (among_either ps q p (k, at)) [
  | inl a ↦ inl (suc a.0, a.1)
  | inr e ↦ inr e
]

new_more : (ps : List Piece) (q : Piece) (r : Root) → IsNew ps r → q.root ≢ r → IsNew (ps ++ q ∷ []) r
new_more ps q r new other p among e = elim (among_either ps q p among) [
  | inl a ↦ new p a e
  | inr same ↦ other (ap (λ (x : Piece). x.root) (sym same) ∙ e)
]

one_root : (s : Side) (i j : ℕ) → root_of s i ≡ root_of s j → i ≡ j
one_root side.A i j e = cc
one_root side.B i j e = cc

drop_next : {X : Type 0} (xs : List X) (i : ℕ) (x : X) → slice_get xs i ≡ Some x → drop i xs ≡ x ∷ drop (suc i) xs
drop_next [] i x at = absurd (cc)
drop_next (y ∷ xs) zero x at = let e : y ≡ x = cc in ap (λ z. z ∷ xs) e
drop_next (y ∷ xs) (suc i) x at = drop_next xs i x at

drop_at : {X : Type 0} (xs : List X) (i : ℕ) (x : X) → slice_get xs i ≡ Some x → drop i xs ≡ x ∷ drop (i + 1) xs
drop_at xs i x at =
    let e : suc i ≡ i + 1 = omega arith in
    drop_next xs i x at ∙ ap (λ j. x ∷ drop j xs) e

drop_all : {X : Type 0} (xs : List X) (i : ℕ) → length xs ≤ i → drop i xs ≡ []
drop_all [] zero le = refl
drop_all [] (suc i) le = refl
drop_all (x ∷ xs) zero le = absurd (omega (arith, le))
drop_all (x ∷ xs) (suc i) le = drop_all xs i (omega (arith, le))

module _ (t : Tables) (s : Side) (us : List Ty) (old : Context) where
  abbrev pub all : List Piece
  all = pieces_from t (root_of s) 0 us (counts_of old)

  -- what is still to be asked for
  abbrev pub rest : ℕ → Counts → List Piece
  rest i c = pieces_from t (root_of s) i (drop i us) c

  -- the symbols of the first arguments were asked for
  pub record HasAsked (i : ℕ) (now : Context) (ts : List Term) : Type 0 where
    pub terms : ts ++ terms_of (rest i (counts_of now)) ≡ terms_of all
    pub pieces : now.pieces ++ rest i (counts_of now) ≡ old.pieces ++ all
    pub counts : counted_all (counts_of now) (rest i (counts_of now)) ≡ counted_all (counts_of old) all
    pub kept : (v : Valuation) → (Satisfies now v × GivesAll (rest i (counts_of now)) v)
        ↔ (Satisfies old v × GivesAll all v)
    pub new : AreNewFrom s i now.pieces
    pub others : (r : Root) → IsOther s r → IsNew old.pieces r → IsNew now.pieces r

  pub none_asked : AreNewFrom s 0 old.pieces → HasAsked 0 old []
  none_asked new = record {
    terms = refl;
    pieces = refl;
    counts = refl;
    kept = λ v. ((λ h. h), (λ h. h));
    new = new;
    others = λ r other h. h;
  }

  module _ (i : ℕ) (u : Ty) (now later : Context) (ts : List Term) (at : slice_get us i ≡ Some u) where
    abbrev one : Piece
    one = piece_of t u (root_of s i) (counts_of now)

    pub one_more : later.pieces ≡ now.pieces ++ one ∷ [] → counts_of later ≡ counted (counts_of now) one.variables
        → Keeps now later (Gives (counts_of now) one.variables) → HasAsked i now ts
        → HasAsked (i + 1) later (ts ++ one.term ∷ [])
    one_more pieces count keeps h = record {
      terms = append_assoc ts (one.term ∷ []) (terms_of more) ∙ ap (λ ps. ts ++ terms_of ps) (sym rest_is) ∙ h.terms;
      pieces = ap (λ ps. ps ++ more) pieces ∙ append_assoc now.pieces (one ∷ []) more
          ∙ ap (λ ps. now.pieces ++ ps) (sym rest_is) ∙ h.pieces;
      counts = ap (λ c. counted_all c more) count ∙ ap (counted_all (counts_of now)) (sym rest_is) ∙ h.counts;
      kept = λ v. (
        (λ k.
            let r = (keeps v).0 k.0 in
            (h.kept v).0 (r.0, subst (λ ps. GivesAll ps v) (sym rest_is) (r.1, k.1))),
        (λ k.
            let r = (h.kept v).1 k in
            let g = subst (λ ps. GivesAll ps v) rest_is r.1 in
            ((keeps v).1 (r.0, g.0), g.1)),
      );
      new = λ j le. subst (λ ps. IsNew ps (root_of s j)) (sym pieces)
          (new_more now.pieces one (root_of s j) (h.new j (omega (arith, le)))
          (λ e. let same = one_root s i j e in omega (arith, le, same)));
      others = λ r other new. subst (λ ps. IsNew ps r) (sym pieces)
          (new_more now.pieces one r (h.others r other new) (other i));
    }
      where
        more : List Piece
        more = rest (i + 1) (counts_of later)

        rest_is : rest i (counts_of now) ≡ one ∷ more
        rest_is =
            ap (λ xs. pieces_from t (root_of s) i xs (counts_of now)) (drop_at us i u at)
            ∙ ap (λ c. one ∷ pieces_from t (root_of s) (i + 1) (drop (i + 1) us) c) (sym count)

    -- where the symbol's root is known by an equation
    pub one_more_at : (r : Root) (x : Term) → r ≡ root_of s i → x ≡ (piece_of t u r (counts_of now)).term
        → later.pieces ≡ now.pieces ++ piece_of t u r (counts_of now) ∷ []
        → counts_of later ≡ counted (counts_of now) (piece_of t u r (counts_of now)).variables
        → Keeps now later (Gives (counts_of now) (piece_of t u r (counts_of now)).variables) → HasAsked i now ts
        → HasAsked (i + 1) later (ts ++ x ∷ [])
    one_more_at r x is term pieces count keeps h =
        let same : piece_of t u r (counts_of now) ≡ one = ap (λ a. piece_of t u a (counts_of now)) is in
        subst (λ y. HasAsked (i + 1) later (ts ++ y ∷ [])) (sym (term ∙ ap (λ (q : Piece). q.term) same))
        (one_more (pieces ∙ ap (λ q. now.pieces ++ q ∷ []) same)
        (count ∙ ap (λ (q : Piece). counted (counts_of now) q.variables) same)
        (subst (λ (q : Piece). Keeps now later (Gives (counts_of now) q.variables)) same keeps) h)

  module _ (i : ℕ) (now : Context) (ts : List Term) (whole : length us ≤ i) (h : HasAsked i now ts) where
    none_left : rest i (counts_of now) ≡ []
    none_left = ap (λ xs. pieces_from t (root_of s) i xs (counts_of now)) (drop_all us i whole)

    pub all_terms : ts ≡ terms_of all
    all_terms = sym (append-nil ts) ∙ ap (λ ps. ts ++ terms_of ps) (sym none_left) ∙ h.terms

    pub all_pieces : now.pieces ≡ old.pieces ++ all
    all_pieces = sym (append-nil now.pieces) ∙ ap (λ ps. now.pieces ++ ps) (sym none_left) ∙ h.pieces

    pub all_counts : counts_of now ≡ counted_all (counts_of old) all
    all_counts = ap (counted_all (counts_of now)) (sym none_left) ∙ h.counts

    pub all_kept : (v : Valuation) → Satisfies now v ↔ (Satisfies old v × GivesAll all v)
    all_kept v = (
      (λ k. (h.kept v).0 (k, subst (λ ps. GivesAll ps v) (sym none_left) tt)),
      (λ k. ((h.kept v).1 k).0),
    )
