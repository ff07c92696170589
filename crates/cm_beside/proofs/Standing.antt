-- How a walk goes on from where it stands.
use Rattle.std.proofs.Common.{◌≡◌, ◌↔◌, ◌+◌, ℕ, ltb, Bool, true, false, List, [], ◌∷◌, ◌++◌, length, refl}
use Rattle.std.proofs.Common.{sym, ap, ◌∙◌, append_assoc, if◌then◌else◌}
use Rattle.std.proofs.lemmas.List.{append-nil, length-append}
use Rattle.cm_model.specs.Limits.{cell_limit}
use Rattle.cm_model.specs.Tables.{Tables}
use Rattle.cm_model.specs.declared.pair.Pair.{Pair}
use Rattle.cm_term.specs.declared.question.Question.{Question}
use Rattle.cm_term.specs.declared.question.Fact.{Fact}
use Rattle.cm_term.specs.declared.term.Term.{Term}
use Rattle.cm_term.specs.Valuation.{Valuation}
use Rattle.cm_term.specs.Questions.{IsTold}
use Rattle.cm_cells.specs.CellTable.{CellTable, Place}
use Rattle.cm_ctx.specs.declared.piece.Counts.{Counts}
use Rattle.cm_ctx.specs.declared.piece.Piece.{Piece}
use Rattle.cm_ctx.specs.Making.{counted, first_counts}
use Rattle.cm_ctx.specs.Contexts.{payloads_of}
use Rattle.cm_story.specs.Tale.{Asks, Needs, Ends}
use Rattle.cm_exec.specs.Comparing.{Extends}
use Rattle.cm_exec.specs.Run.{Asked, Telling, piece_at, counted_all, settled_at, settled}
use Rattle.cm_beside.specs.declared.verdict.Verdict.{Verdict}
use Rattle.cm_beside.specs.Beside.{PairTale, followed_by, pair_tale}
use Rattle.cm_beside.specs.Nodes.{args_a, args_b, counts_b, pieces_a, pieces_b, pieces_of, Asking, Ended, node}
use Rattle.cm_beside.specs.Nodes.{after, node_at, IsNode, IsValuation, Satisfies, fact}
use Rattle.cm_beside.specs.Standing.{beyond, StandsAt, SaysAll}
use Rattle.cm_beside.proofs.Rows.{behind_both, gives_first}

module _ (t : Tables) (p : Pair) where
  abbrev counts_at : List Place → Counts
  counts_at places = counted_all first_counts (pieces_of t p places)

  none_more : pieces_of t p [] ≡ pieces_a t p ++ pieces_b t p
  none_more = ap (λ qs. pieces_a t p ++ qs) (append-nil (pieces_b t p))

  first_counts_are : counts_at [] ≡ counts_b t p
  first_counts_are =
      ap (counted_all first_counts) none_more ∙ behind_both first_counts (pieces_a t p) (pieces_b t p)

  -- a walk that has not begun
  pub starts : StandsAt t p [] [] [] (pair_tale t p (args_a t p) (args_b t p))
  starts = record {
    ahead = λ ps extends more.
        ap (λ c. after t (pair_tale t p (args_a t p) (args_b t p) ps) c 0 more) (sym first_counts_are);
  }

  -- an answered question
  pub answered : (answers : List ℕ) (facts : List Fact) (places : List Place) (left : List Term → PairTale)
      (q : Question) (d : ℕ) (later : List Term → PairTale) → StandsAt t p answers facts places left
      → ((ps : List Term) → Extends (payloads_of (pieces_of t p places)) ps → (more : List ℕ)
      → after t (left ps) (counts_at places) (length places) (d ∷ more)
      ≡ beyond (fact q d ∷ []) [] (after t (later ps) (counts_at places) (length places) more))
      → StandsAt t p (answers ++ d ∷ []) (facts ++ fact q d ∷ []) places later
  answered answers facts places left q d later h step = record {
    ahead = λ ps extends more.
        let n = after t (later ps) (counts_at places) (length places) more in
        ap (node_at t p ps) (append_assoc answers (d ∷ []) more)
        ∙ h.ahead ps extends (d ∷ more)
        ∙ ap (beyond facts places) (step ps extends more)
        ∙ ap (λ fs. node fs (places ++ n.places) n.next) (sym (append_assoc facts (fact q d ∷ []) n.facts));
  }

  -- a question at its head takes the answer
  pub takes : (a : Asked) (k : ℕ → PairTale) (c : Counts) (n d : ℕ) (more : List ℕ)
      → after t (Asks a k) c n (d ∷ more) ≡ beyond (fact a.question d ∷ []) [] (after t (k d) c n more)
  takes a k c n d more = refl

  -- an open question, and the end
  pub asks : (answers : List ℕ) (facts : List Fact) (places : List Place) (left : List Term → PairTale) (q : Question)
      → StandsAt t p answers facts places left
      → ((ps : List Term) → Extends (payloads_of (pieces_of t p places)) ps
      → after t (left ps) (counts_at places) (length places) [] ≡ node [] [] (Asking q))
      → IsNode t p answers facts places (Asking q)
  asks answers facts places left q h head ps extends =
      sym (ap (node_at t p ps) (append-nil answers)) ∙ h.ahead ps extends []
      ∙ ap (beyond facts places) (head ps extends)
      ∙ ap (λ fs. node fs (places ++ []) (Asking q)) (append-nil facts)
      ∙ ap (λ qs. node facts qs (Asking q)) (append-nil places)

  pub ends : (answers : List ℕ) (facts : List Fact) (places : List Place) (left : List Term → PairTale) (w : Verdict)
      → StandsAt t p answers facts places left
      → ((ps : List Term) → Extends (payloads_of (pieces_of t p places)) ps → left ps ≡ Ends w)
      → IsNode t p answers facts places (Ended w)
  ends answers facts places left w h head ps extends =
      sym (ap (node_at t p ps) (append-nil answers)) ∙ h.ahead ps extends []
      ∙ ap (λ tale. beyond facts places (after t tale (counts_at places) (length places) [])) (head ps extends)
      ∙ ap (λ fs. node fs (places ++ []) (Ended w)) (append-nil facts)
      ∙ ap (λ qs. node facts qs (Ended w)) (append-nil places)

module _ (t : Tables) where
  -- where new cells have got their terms, as many as a path may touch
  pub settled_beyond : (T : Telling) (K : Term → CellTable → PairTale) (places : List Place) (c : Counts)
      (made : List Piece) (facts : List Fact) (more : List ℕ)
      → beyond facts places (after t (followed_by T K) c (length places) more)
      ≡ beyond facts (settled t places c made T).places (after t (followed_by (settled t places c made T).rest K)
      (settled t places c made T).counts (length (settled t places c made T).places) more)
  settled_beyond (Asks a f) K places c made facts more = refl
  settled_beyond (Ends e) K places c made facts more = refl
  settled_beyond (Needs q f) K places c made facts more =
      by (settled_beyond (f (piece_at t c (length places) q).term) K (places ++ q ∷ [])
      (counted c (piece_at t c (length places) q).variables) (made ++ piece_at t c (length places) q ∷ []) facts more)
      (ltb (length places) cell_limit)
    where
      x : Piece
      x = piece_at t c (length places) q

      there : Counts
      there = counted c x.variables

      count : length (places ++ q ∷ []) ≡ length places + 1
      count = length-append places (q ∷ [])

      by : beyond facts (places ++ q ∷ []) (after t (followed_by (f x.term) K) there (length (places ++ q ∷ [])) more)
          ≡ beyond facts (settled t (places ++ q ∷ []) there (made ++ x ∷ []) (f x.term)).places
          (after t (followed_by (settled t (places ++ q ∷ []) there (made ++ x ∷ []) (f x.term)).rest K)
          (settled t (places ++ q ∷ []) there (made ++ x ∷ []) (f x.term)).counts
          (length (settled t (places ++ q ∷ []) there (made ++ x ∷ []) (f x.term)).places) more)
          → (b : Bool)
          → beyond facts places (after t (followed_by (Needs q f) K) c (length places) more)
          ≡ beyond facts (if b then settled t (places ++ q ∷ []) there (made ++ x ∷ []) (f x.term)
          else settled_at places c made (Needs q f)).places
          (after t (followed_by (if b then settled t (places ++ q ∷ []) there (made ++ x ∷ []) (f x.term)
          else settled_at places c made (Needs q f)).rest K)
          (if b then settled t (places ++ q ∷ []) there (made ++ x ∷ []) (f x.term)
          else settled_at places c made (Needs q f)).counts
          (length (if b then settled t (places ++ q ∷ []) there (made ++ x ∷ []) (f x.term)
          else settled_at places c made (Needs q f)).places) more)
      by later true =
          let n = after t (followed_by (f x.term) K) there (length places + 1) more in
          ap (λ qs. node (facts ++ n.facts) qs n.next) (sym (append_assoc places (q ∷ []) n.places))
          ∙ ap (λ m. beyond facts (places ++ q ∷ []) (after t (followed_by (f x.term) K) there m more)) (sym count)
          ∙ later
      by later false = refl

-- facts that are kept, and those that need not be
pub satisfies_both : (v : Valuation) (fs gs : List Fact) → Satisfies v (fs ++ gs) ↔ (Satisfies v fs × Satisfies v gs)
satisfies_both v [] gs = ((λ h. (tt, h)), (λ h. h.1))
satisfies_both v (f ∷ fs) gs =
    let r = satisfies_both v fs gs in
    ((λ h. let s = r.0 h.1 in ((h.0, s.0), s.1)), (λ h. (h.0.0, r.1 (h.0.1, h.1))))

pub says_added : (pieces : List Piece) (kept facts : List Fact) (f : Fact) → SaysAll pieces kept facts
    → SaysAll pieces (kept ++ f ∷ []) (facts ++ f ∷ [])
says_added pieces kept facts f h = record {
  says = λ v is.
      let a = satisfies_both v kept (f ∷ []) in
      let b = satisfies_both v facts (f ∷ []) in (
        (λ s. let r = a.0 s in b.1 ((h.says v is).0 r.0, r.1)),
        (λ s. let r = b.0 s in a.1 ((h.says v is).1 r.0, r.1)),
      );
}

pub says_forced : (pieces : List Piece) (kept facts : List Fact) (f : Fact) → SaysAll pieces kept facts
    → ((v : Valuation) → IsValuation pieces v → Satisfies v facts → IsTold v f)
    → SaysAll pieces kept (facts ++ f ∷ [])
says_forced pieces kept facts f h told = record {
  says = λ v is.
      let b = satisfies_both v facts (f ∷ []) in (
        (λ s. let r = (h.says v is).0 s in b.1 (r, (told v is r, tt))),
        (λ s. (h.says v is).1 (b.0 s).0),
      );
}

-- where more pieces are made
pub says_still : (pieces more : List Piece) (kept facts : List Fact) → SaysAll pieces kept facts
    → SaysAll (pieces ++ more) kept facts
says_still pieces more kept facts h = record {
  says = λ v is. h.says v (record { zero = is.zero; given = gives_first pieces more v is.given });
}
