-- A context that was asked for nothing.
use Rattle.std.proofs.Common.{◌≡◌, List, [], Bool, subst, sym}
use Rattle.cm_sorts.specs.Partition.{Partition}
use Rattle.cm_order.specs.Differences.{Differences}
use Rattle.cm_ctx.specs.declared.piece.Counts.{Counts}
use Rattle.cm_ctx.specs.declared.choice.Choice.{Choice}
use Rattle.cm_ctx.specs.declared.piece.Piece.{Piece}
use Rattle.cm_ctx.specs.Choices.{AreChoices}
use Rattle.cm_ctx.specs.Contexts.{payloads_of, context}
use Rattle.cm_ctx.specs.Proper.{AreEarlier, IsProper}

pub no_choices : (cs : List Choice) → cs ≡ [] → AreChoices cs
no_choices cs e = subst AreChoices (sym e) (λ x d f. absurd (cc))

pub no_pieces : (ps : List Piece) → ps ≡ [] → AreEarlier (payloads_of ps)
no_pieces ps e = subst (λ (qs : List Piece). AreEarlier (payloads_of qs)) (sym e) (λ k u f. absurd (cc))

-- whether there is a spare changes nothing else
pub other_spare : (n : Counts) (k : Partition) (b : Differences) (ts os : List Choice) (ps : List Piece) (s : Bool)
    → IsProper n (context k b ts os ps) → IsProper n (context (record k { spare = s }) b ts os ps)
other_spare n k b ts os ps s h = record {
  counts = h.counts;
  sorts = h.sorts;
  elements = (h.elements.0, record { same = h.elements.1.same; apart = h.elements.1.apart });
  numbers = h.numbers;
  zero = h.zero;
  tags = h.tags;
  options = h.options;
  payloads = h.payloads;
  row = h.row;
  earlier = h.earlier;
}
