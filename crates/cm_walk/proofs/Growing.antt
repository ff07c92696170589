-- What was made where a prefix has got more cells.
use Rattle.std.proofs.Common.{◌≡◌, List, [], ◌++◌, length, refl, sym, ap, ◌∙◌, subst, append_assoc}
use Rattle.cm_model.specs.Tables.{Tables}
use Rattle.cm_model.specs.declared.pair.Pair.{Pair}
use Rattle.cm_term.specs.declared.question.Fact.{Fact}
use Rattle.cm_cells.specs.CellTable.{Place}
use Rattle.cm_ctx.specs.declared.piece.Counts.{Counts}
use Rattle.cm_ctx.specs.declared.piece.Piece.{Piece}
use Rattle.cm_ctx.specs.Making.{first_counts}
use Rattle.cm_ctx.specs.Contexts.{Context, counts_of}
use Rattle.cm_ctx.specs.Contexts as contexts
use Rattle.cm_exec.specs.Run.{pieces_for, counted_all, GivesAll, IsGrown, KeepsAll}
use Rattle.cm_exec.proofs.Growing.{grown_on}
use Rattle.cm_beside.specs.Nodes.{pieces_a, pieces_b, counts_b, pieces_of}
use Rattle.cm_beside.proofs.Rows.{behind_both, gives_first, gives_last, gives_both}
use Rattle.cm_walk.specs.Prefixes.{Knows}

module _ (t : Tables) (p : Pair) where
  abbrev arguments : List Piece
  arguments = pieces_a t p ++ pieces_b t p

  of_arguments : counted_all first_counts arguments ≡ counts_b t p
  of_arguments = behind_both first_counts (pieces_a t p) (pieces_b t p)

  all_of : (places : List Place) → arguments ++ pieces_for t (counts_b t p) 0 places ≡ pieces_of t p places
  all_of places = append_assoc (pieces_a t p) (pieces_b t p) (pieces_for t (counts_b t p) 0 places)

  -- the cells are those that have come since the arguments were made
  since : (places : List Place) → IsGrown t [] (counts_b t p) arguments places
      (counted_all (counts_b t p) (pieces_for t (counts_b t p) 0 places)) (pieces_of t p places)
  since places = record { cells = places; places = refl; pieces = sym (all_of places); variables = refl }

  counts_at : (places : List Place)
      → counted_all first_counts (pieces_of t p places)
      ≡ counted_all (counts_b t p) (pieces_for t (counts_b t p) 0 places)
  counts_at places =
      ap (counted_all first_counts) (sym (all_of places))
      ∙ behind_both first_counts arguments (pieces_for t (counts_b t p) 0 places)
      ∙ ap (λ c. counted_all c (pieces_for t (counts_b t p) 0 places)) of_arguments

  module _ (old new : List Place) (c d : Counts) (before after : List Piece) (made : before ≡ pieces_of t p old)
      (count : c ≡ counted_all first_counts (pieces_of t p old)) (grown : IsGrown t old c before new d after) where
    whole : IsGrown t [] (counts_b t p) arguments new d after
    whole =
        grown_on t [] old new (counts_b t p) c d arguments before after
        (subst (λ ps. IsGrown t [] (counts_b t p) arguments old c ps) (sym made)
        (subst (λ e. IsGrown t [] (counts_b t p) arguments old e (pieces_of t p old)) (sym (count ∙ counts_at old))
        (since old))) grown

    pub made_after : after ≡ pieces_of t p new
    made_after =
        whole.pieces ∙ ap (λ qs. arguments ++ pieces_for t (counts_b t p) 0 qs) (sym whole.places) ∙ all_of new

    pub counted_after : d ≡ counted_all first_counts (pieces_of t p new)
    counted_after =
        whole.variables ∙ ap (λ qs. counted_all (counts_b t p) (pieces_for t (counts_b t p) 0 qs)) (sym whole.places)
        ∙ sym (counts_at new)

    abbrev pub more : List Piece
    more = pieces_for t c (length old) grown.cells

    pub made_more : pieces_of t p new ≡ pieces_of t p old ++ more
    made_more = sym made_after ∙ grown.pieces ∙ ap (λ ps. ps ++ more) made

    pub knows_more : (k e : Context) (facts : List Fact) → k.pieces ≡ before → e.pieces ≡ after → counts_of e ≡ d
        → KeepsAll before (contexts.Satisfies k) after (contexts.Satisfies e) → Knows (pieces_of t p old) k facts
        → Knows (pieces_of t p new) e facts
    knows_more k e facts at_k at_e at_d keeps knows = record {
      made = at_e ∙ made_after;
      counts = at_d ∙ counted_after;
      valuations = λ v.
          let one = keeps more grown.pieces v in
          let two = knows.valuations v in (
            (λ s.
                let parts = one.0 s in
                let had = two.0 parts.0 in (
                  record {
                    zero = had.0.zero;
                    given = subst (λ ps. GivesAll ps v) (sym made_more)
                        (gives_both (pieces_of t p old) more v had.0.given parts.1);
                  },
                  had.1,
                )),
            (λ h.
                let given = subst (λ ps. GivesAll ps v) made_more h.0.given in
                one.1 (
                  two.1 (record { zero = h.0.zero; given = gives_first (pieces_of t p old) more v given }, h.1),
                  gives_last (pieces_of t p old) more v given,
                )),
          );
    }
