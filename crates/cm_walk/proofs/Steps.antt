-- How a prefix goes on: more cells, and one outcome more.
use Rattle.std.proofs.Common.{◌≡◌, ℕ, List, [], ◌∷◌, ◌++◌, length, sym, ap, ◌∙◌}
use Rattle.cm_model.specs.Tables.{Tables}
use Rattle.cm_model.specs.declared.pair.Pair.{Pair}
use Rattle.cm_term.specs.declared.question.Question.{Question}
use Rattle.cm_term.specs.declared.question.Fact.{Fact}
use Rattle.cm_term.specs.declared.term.Term.{Term}
use Rattle.cm_term.specs.Questions.{outcome_under}
use Rattle.cm_cells.specs.CellTable.{CellTable, Place}
use Rattle.cm_ctx.specs.declared.piece.Counts.{Counts}
use Rattle.cm_ctx.specs.declared.piece.Piece.{Piece}
use Rattle.cm_ctx.specs.Making.{first_counts}
use Rattle.cm_ctx.specs.Contexts.{Context, payloads_of, counts_of}
use Rattle.cm_ctx.specs.Contexts as contexts
use Rattle.cm_story.specs.Tale.{Asks}
use Rattle.cm_exec.specs.Comparing.{Extends}
use Rattle.cm_exec.specs.Run.{counted_all, asked}
use Rattle.cm_exec.proofs.Growing.{extends_on}
use Rattle.cm_beside.specs.Beside.{PairTale}
use Rattle.cm_beside.specs.Nodes.{pieces_of, Asking, IsNode, after, fact}
use Rattle.cm_beside.specs.Standing.{beyond, StandsAt}
use Rattle.cm_beside.proofs.Standing.{answered, asks, satisfies_both}
use Rattle.cm_chain.specs.Chains.{told, GoOnAlike}
use Rattle.cm_walk.specs.Prefixes.{Knows}

module _ (t : Tables) (p : Pair) where
  abbrev counts_at : List Place → Counts
  counts_at places = counted_all first_counts (pieces_of t p places)

  -- with more cells, where whatever is answered the tales go on alike
  pub stands_on : (answers : List ℕ) (facts : List Fact) (old new : List Place) (left later : List Term → PairTale)
      (c d : Counts) → c ≡ counts_at old → d ≡ counts_at new
      → Extends (payloads_of (pieces_of t p old)) (payloads_of (pieces_of t p new))
      → ((ps : List Term) → Extends (payloads_of (pieces_of t p new)) ps
      → GoOnAlike t old c (left ps) new d (later ps))
      → StandsAt t p answers facts old left → StandsAt t p answers facts new later
  stands_on answers facts old new left later c d count_c count_d more moved h = record {
    ahead = λ ps extends next.
        h.ahead ps (extends_on _ _ ps more extends) next
        ∙ ap (λ k. beyond facts old (after t (left ps) k (length old) next)) (sym count_c)
        ∙ (moved ps extends).alike facts next
        ∙ ap (λ k. beyond facts new (after t (later ps) k (length new) next)) count_d;
  }

  -- behind an outcome of the question that is open
  pub stands_behind : (answers : List ℕ) (facts : List Fact) (places : List Place) (cs : CellTable)
      (left later : List Term → PairTale) (q : Question) (d : ℕ)
      → ((ps : List Term) → left ps ≡ Asks (asked q cs) (told (left ps)))
      → ((ps : List Term) → later ps ≡ told (left ps) d)
      → StandsAt t p answers facts places left
      → StandsAt t p (answers ++ d ∷ []) (facts ++ fact q d ∷ []) places later
  stands_behind answers facts places cs left later q d open_ next h =
      answered t p answers facts places left q d later h (λ ps extends more.
      ap (λ s. after t s (counts_at places) (length places) (d ∷ more)) (open_ ps)
      ∙ ap (λ s. beyond (fact q d ∷ []) [] (after t s (counts_at places) (length places) more)) (sym (next ps)))

  -- the node at which the question is open
  pub node_asks : (answers : List ℕ) (facts : List Fact) (places : List Place) (cs : CellTable)
      (left : List Term → PairTale) (q : Question)
      → ((ps : List Term) → left ps ≡ Asks (asked q cs) (told (left ps)))
      → StandsAt t p answers facts places left → IsNode t p answers facts places (Asking q)
  node_asks answers facts places cs left q open_ h =
      asks t p answers facts places left q h
      (λ ps extends. ap (λ s. after t s (counts_at places) (length places) []) (open_ ps))

module _ (pieces : List Piece) (k e : Context) (facts : List Fact) (q : Question) (d : ℕ) where
  -- a context that was told an outcome more
  pub knows_told : e.pieces ≡ k.pieces → counts_of e ≡ counts_of k
      → contexts.Keeps k e (λ v. outcome_under v q ≡ d) → Knows pieces k facts → Knows pieces e (facts ++ fact q d ∷ [])
  knows_told same count keeps h = record {
    made = same ∙ h.made;
    counts = count ∙ h.counts;
    valuations = λ v.
        let one = keeps v in
        let two = h.valuations v in
        let both = satisfies_both v facts (fact q d ∷ []) in (
          (λ s. let r = one.0 s in let w = two.0 r.0 in (w.0, both.1 (w.1, (r.1, tt)))),
          (λ s. let r = both.0 s.1 in one.1 (two.1 (s.0, r.0), r.1.0)),
        );
  }
