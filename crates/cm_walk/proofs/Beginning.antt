-- A prefix at which nothing was decided.
use Rattle.std.proofs.Common.{◌≡◌, ◌<◌, ◌↔◌, ℕ, pos, ◌≤ℤ◌, ◌-ℤ◌, List, [], ◌++◌, length, Some, slice_get}
use Rattle.std.proofs.Common.{refl, sym, ap, ◌∙◌, subst, arith}
use Rattle.std.proofs.lemmas.List.{append-nil}
use Rattle.cm_order.specs.Differences as order
use Rattle.cm_model.specs.Tables.{Tables}
use Rattle.cm_model.specs.declared.pair.Pair.{Pair}
use Rattle.cm_term.specs.declared.symbol.Root.{Root}
use Rattle.cm_term.specs.declared.symbol.Root.TheVariants as root
use Rattle.cm_term.specs.Valuation.{Valuation}
use Rattle.cm_ctx.specs.declared.choice.Choice.{Choice}
use Rattle.cm_ctx.specs.declared.piece.Piece.{Piece}
use Rattle.cm_ctx.specs.Asking.{IsNew}
use Rattle.cm_ctx.specs.Choices as choices
use Rattle.cm_ctx.specs.Contexts.{Context, Satisfies, IsSatisfiable, counts_of, payloads_of, Holds}
use Rattle.cm_ctx.specs.Making.{first_counts}
use Rattle.cm_exec.specs.Run.{counted_all, GivesAll}
use Rattle.cm_beside.specs.Nodes.{pieces_a, pieces_b, counts_a, pieces_of}
use Rattle.cm_beside.proofs.Rows.{behind_both, gives_first, gives_last, gives_both}
use Rattle.cm_term.specs.declared.term.Term.{Term}
use Rattle.cm_cells.specs.CellTable.{CellTable, no_cells}
use Rattle.cm_beside.specs.Beside.{pair_tale}
use Rattle.cm_beside.specs.Nodes.{after, args_a, args_b}
use Rattle.cm_beside.specs.Standing.{beyond, StandsAt, SaysAll}
use Rattle.cm_beside.proofs.Standing.{starts}
use Rattle.cm_chain.specs.Chains.{left, IsCoded}
use Rattle.cm_walk.specs.declared.prefix.Prefix.{Prefix}
use Rattle.cm_walk.specs.Prefixes.{AreOpenDecisions, IsPrefix}
use Rattle.cm_walk.specs.declared.arguments.Side.TheVariants as side
use Rattle.cm_walk.specs.Arguments.{IsOther, AreNewFrom}
use Rattle.cm_walk.specs.Prefixes.{Knows}

-- a context that was asked for nothing
module _ (c : Context) (pieces : c.pieces ≡ []) (ss : c.classes.sorts ≡ []) (numbers : length c.bounds ≡ 1)
    (tags : c.tags ≡ []) (options : c.options ≡ []) where
  pub counts_first : counts_of c ≡ first_counts
  counts_first = rw (ap length ss, numbers, ap length tags, ap length options) refl

  pub nothing_new : (r : Root) → IsNew c.pieces r
  nothing_new r p among = absurd (let at = subst (λ ps. slice_get ps among.0 ≡ Some p) pieces among.1 in cc)

  pub all_new : (s : _) → AreNewFrom s 0 c.pieces
  all_new s j le = nothing_new _

  pub is_first : IsSatisfiable c → (v : Valuation) → Satisfies c v ↔ (v.number 0 ≡ pos 0)
  is_first some v = (
    (λ s. s.numbers.zero),
    (λ zero. record {
      elements = record {
        same = λ x lt. absurd (let n = ap length ss in omega (arith, n, lt));
        apart = λ x y lt. absurd (let n = ap length ss in omega (arith, n, lt));
      };
      numbers = record { zero = zero; within = λ x y lt_x lt_y. difference x y lt_x lt_y zero };
      tags = subst (λ (cs : List Choice). choices.Satisfies cs v.tag) (sym tags) (λ x d at. absurd (cc));
      options = subst (λ (cs : List Choice). choices.Satisfies cs v.present) (sym options) (λ x d at. absurd (cc));
      payloads = subst (λ (ps : List Piece). Holds (payloads_of ps) v) (sym pieces) (λ o u at. absurd (cc));
    }),
  )
    where
      difference : (x y : ℕ) → x < length c.bounds → y < length c.bounds → v.number 0 ≡ pos 0
          → (v.number x -ℤ v.number y) ≤ℤ order.difference c.bounds x y
      difference x y lt_x lt_y zero =
          let same_x : x ≡ 0 = omega (arith, numbers, lt_x) in
          let same_y : y ≡ 0 = omega (arith, numbers, lt_y) in
          let w = some.0 in
          let within = some.1.numbers.within x y lt_x lt_y in
          let one = ap v.number same_x ∙ zero ∙ sym (ap w.number same_x ∙ some.1.numbers.zero) in
          let two = ap v.number same_y ∙ zero ∙ sym (ap w.number same_y ∙ some.1.numbers.zero) in
          subst (λ m. (m -ℤ v.number y) ≤ℤ order.difference c.bounds x y) (sym one)
          (subst (λ m. (w.number x -ℤ m) ≤ℤ order.difference c.bounds x y) (sym two) within)

module _ (t : Tables) (p : Pair) where
  none_touched : pieces_of t p [] ≡ pieces_a t p ++ pieces_b t p
  none_touched = ap (λ qs. pieces_a t p ++ qs) (append-nil (pieces_b t p))

  -- a context that was asked for the arguments of both calls
  pub knows_arguments : (c d e : Context) → ((v : Valuation) → Satisfies c v ↔ (v.number 0 ≡ pos 0))
      → d.pieces ≡ pieces_a t p → ((v : Valuation) → Satisfies d v ↔ (Satisfies c v × GivesAll (pieces_a t p) v))
      → e.pieces ≡ d.pieces ++ pieces_b t p → counts_of e ≡ counted_all (counts_a t p) (pieces_b t p)
      → ((v : Valuation) → Satisfies e v ↔ (Satisfies d v × GivesAll (pieces_b t p) v))
      → Knows (pieces_of t p []) e []
  knows_arguments c d e first at_d keeps_d at_e count keeps_e = record {
    made = at_e ∙ ap (λ ps. ps ++ pieces_b t p) at_d ∙ sym none_touched;
    counts = count ∙ sym (behind_both first_counts (pieces_a t p) (pieces_b t p))
        ∙ ap (counted_all first_counts) (sym none_touched);
    valuations = λ v. (
      (λ s.
          let b = (keeps_e v).0 s in
          let a = (keeps_d v).0 b.0 in (
            record {
              zero = (first v).0 a.0;
              given = subst (λ ps. GivesAll ps v) (sym none_touched) (gives_both (pieces_a t p) (pieces_b t p) v a.1 b.1);
            },
            tt,
          )),
      (λ h.
          let given = subst (λ ps. GivesAll ps v) none_touched h.0.given in
          (keeps_e v).1 (
            (keeps_d v).1 ((first v).1 h.0.zero, gives_first (pieces_a t p) (pieces_b t p) v given),
            gives_last (pieces_a t p) (pieces_b t p) v given,
          )),
    );
  }

  -- the prefix at which nothing was decided
  pub begun : (x : Prefix) → p.a < length t.calls → p.b < length t.calls → x.decisions ≡ [] → x.facts ≡ []
      → x.cells ≡ no_cells → Knows (pieces_of t p []) x.known []
      → ((ps : List Term) → left t ps x.chain no_cells ≡ pair_tale t p (args_a t p) (args_b t p) ps)
      → IsCoded t x.chain → ((i : ℕ) → IsNew x.known.pieces (root.Cell i)) → IsPrefix t p x
  begun x a b decisions facts cells knows asks coded new = record {
    call_a = a;
    call_b = b;
    all = [];
    stands = subst (λ ds. StandsAt t p ds [] x.cells.places (λ ps. left t ps x.chain x.cells)) (sym decisions)
        (subst (λ (cs : CellTable). StandsAt t p [] [] cs.places (λ ps. left t ps x.chain cs)) (sym cells)
        (record {
          ahead = λ ps extends more.
              (starts t p).ahead ps extends more
              ∙ ap (λ s. beyond [] [] (after t s (counted_all first_counts (pieces_of t p [])) 0 more)) (sym (asks ps));
        }));
    says = subst (λ fs. SaysAll (pieces_of t p x.cells.places) fs []) (sym facts)
        (record { says = λ v is. ((λ s. s), (λ s. s)) });
    were_open = subst (λ ds. AreOpenDecisions t p [] [] ds x.facts x.cells.places) (sym decisions) facts;
    knows = subst (λ fs. Knows (pieces_of t p x.cells.places) x.known fs) (sym facts)
        (subst (λ (cs : CellTable). Knows (pieces_of t p cs.places) x.known []) (sym cells) knows);
    coded = coded;
    roomy = λ i le. new i;
  }

pub b_other : (i : ℕ) → IsOther side.A (root.B i)
b_other i j e = absurd (cc)

pub cell_other_a : (i : ℕ) → IsOther side.A (root.Cell i)
cell_other_a i j e = absurd (cc)

pub cell_other_b : (i : ℕ) → IsOther side.B (root.Cell i)
cell_other_b i j e = absurd (cc)
