-- How a prefix goes on.
use Rattle.std.proofs.Common.{◌≡◌, ◌≢◌, ◌<◌, ◌≤◌, ◌↔◌, ◌+◌, ℕ, Bool, List, [], ◌∷◌, ◌++◌, length, Option, Some, refl, sym, ap, ◌∙◌}
use Rattle.std.proofs.Common.{subst, arith}
use Rattle.std.proofs.lemmas.List.{append-nil}
use Rattle.cm_model.specs.Limits.{cell_limit}
use Rattle.cm_model.specs.Tables.{Tables}
use Rattle.cm_model.specs.declared.pair.Pair.{Pair}
use Rattle.cm_term.specs.declared.question.Question.{Question}
use Rattle.cm_term.specs.declared.question.Question.TheVariants as question
use Rattle.cm_term.specs.declared.question.Fact.{Fact}
use Rattle.cm_term.specs.declared.term.Term.{Term}
use Rattle.cm_term.specs.Valuation.{Valuation}
use Rattle.cm_term.specs.Questions.{outcome_under}
use Rattle.cm_cells.specs.CellTable.{CellTable, Place}
use Rattle.cm_ctx.specs.declared.piece.Counts.{Counts}
use Rattle.cm_ctx.specs.Contexts.{Context, IsQuestion, IsSatisfiable, Allows, counts_of, payloads_of, sorts_of}
use Rattle.cm_ctx.specs.Contexts as contexts
use Rattle.cm_ctx.specs.Making.{counted, first_counts}
use Rattle.cm_ctx.specs.Masks.{Has}
use Rattle.cm_ctx.specs.declared.piece.Piece.{Piece}
use Rattle.cm_story.specs.Tale.{Asks, Needs, Ends}
use Rattle.cm_exec.specs.Comparing.{Extends}
use Rattle.cm_exec.specs.Run.{IsGrown, KeepsAll, asked, counted_all, piece_at}
use Rattle.cm_exec.specs.Running.{IsRoomy}
use Rattle.cm_world.specs.declared.world.World.{World}
use Rattle.cm_world.specs.World.{IsWorldOf}
use Rattle.cm_world.specs.Order.{touched_cells}
use Rattle.cm_world.specs.Over.{IsPath, TooManyCells}
use Rattle.cm_forks.specs.Paths.{Begins, Covers}
use Rattle.cm_forks.specs.Paths as paths
use Rattle.cm_beside.specs.declared.verdict.Verdict.{Verdict}
use Rattle.cm_beside.specs.Beside.{PairTale}
use Rattle.cm_beside.specs.Leaf.{IsRightLeaf, IsRightNode, TouchesMore}
use Rattle.cm_beside.specs.Nodes.{pieces_of, IsNode, IsValuation, Satisfies, Asking, Ended, Node, after, fact, node, node_at}
use Rattle.cm_beside.specs.Nodes.{grounds_of}
use Rattle.cm_beside.specs.Seen.{has_value}
use Rattle.cm_beside.specs.Enums.{enum_of}
use Rattle.cm_beside.specs.Standing.{StandsAt, SaysAll, beyond}
use Rattle.cm_beside.proofs.Standing as standing
use Rattle.cm_beside.proofs.Standing.{says_added, says_forced, says_still}
use Rattle.cm_chain.specs.declared.chain.Chain.{Chain}
use Rattle.cm_chain.specs.declared.chain.Stage.{Stage}
use Rattle.cm_chain.specs.declared.chain.Stage.TheVariants as stage
use Rattle.cm_chain.specs.Chains.{at_stage, left, told, IsCoded, IsAskedAt, IsEnded, Moved}
use Rattle.cm_chain.proofs.Chains as chains
use Rattle.cm_walk.specs.declared.prefix.Prefix.{Prefix}
use Rattle.cm_walk.specs.Prefixes.{Knows, IsPrefix, IsOpen, AreOpenDecisions}
use Rattle.cm_walk.specs.Sets.{TouchesFew}
use Rattle.cm_walk.proofs.Asked.{can_be_asked}
use Rattle.cm_walk.proofs.Growing.{counted_after, knows_more, made_after, made_more, more}
use Rattle.cm_walk.proofs.Opened.{forced_added, open_added, open_still, was_open}
use Rattle.cm_walk.proofs.Sets as sets
use Rattle.cm_walk.proofs.Steps.{stands_on, stands_behind, node_asks, knows_told}

-- a stage that has ended has a verdict
pub verdict_of : (s : Stage) → IsEnded s → (w : Verdict) × (s ≡ stage.Ended w)
verdict_of (stage.Runs r) h = absurd h
verdict_of (stage.Compares e) h = absurd h
verdict_of (stage.Ended w) h = (w, refl)

module _ (t : Tables) where
  -- with no answer there is no fact
  no_facts : (s : PairTale) (c : Counts) (n : ℕ) → (after t s c n []).facts ≡ []
  no_facts (Asks a k) c n = refl
  no_facts (Needs p k) c n = no_facts (k _) _ _
  no_facts (Ends w) c n = refl

module _ (t : Tables) (p : Pair) where
  -- where a further cell is needed, it is touched
  touches_more : (answers : List ℕ) (facts : List Fact) (places : List Place) (rest : List Term → PairTale)
      → StandsAt t p answers facts places rest
      → ((ps : List Term) → (q : Place) × (f : Term → PairTale) × (rest ps ≡ Needs q f))
      → TouchesMore t p answers facts places
  touches_more answers facts places rest h needs ps extends =
      let n = needs ps in
      let c : Counts = counted_all first_counts (pieces_of t p places) in
      let m : ℕ = length places in
      let k : Counts = counted c (piece_at t c m n.0).variables in
      let s : PairTale = n.1 (piece_at t c m n.0).term in
      let b : Node = after t s k (m + 1) [] in (
        n.0,
        b.places,
        b.next,
        sym (ap (node_at t p ps) (append-nil answers)) ∙ h.ahead ps extends []
            ∙ ap (λ x. beyond facts places (after t x c m [])) n.2
            ∙ ap (λ fs. node (facts ++ fs) (places ++ n.0 ∷ b.places) b.next) (no_facts t s k (m + 1))
            ∙ ap (λ fs. node fs (places ++ n.0 ∷ b.places) b.next) (append-nil facts),
      )

module _ (t : Tables) (p : Pair) where
  abbrev pub LeavesAreRight : Type 0
  LeavesAreRight =
      (answers : List ℕ) (facts : List Fact) (places : List Place) (w : Verdict)
      → IsNode t p answers facts places (Ended w) → IsRightLeaf t p answers facts places w

  abbrev pub NodesAreRight : Type 0
  NodesAreRight =
      (answers : List ℕ) (facts : List Fact) (places : List Place) (q : Question)
      → IsNode t p answers facts places (Asking q) → IsRightNode t p answers facts places q

  abbrev pub MoreIsTouched : Type 0
  MoreIsTouched =
      (answers : List ℕ) (facts : List Fact) (places : List Place) → TouchesMore t p answers facts places
      → (v : Valuation) → IsValuation (pieces_of t p places) v → Satisfies v facts
      → (u : World) × IsWorldOf t p u × (length places < length (touched_cells t p u))

  module _ (x : Prefix) (h : IsPrefix t p x) where
    abbrev tale : List Term → PairTale
    tale ps = left t ps x.chain x.cells

    -- some valuation satisfies its facts
    pub satisfied : IsSatisfiable x.known
        → (v : Valuation) × IsValuation (pieces_of t p x.cells.places) v × Satisfies v h.all
    satisfied some =
        let s = (h.knows.valuations some.0).0 some.1 in
        (some.0, s.0, (h.says.says some.0 s.0).0 s.1)

    pub open_tale : (q : Question) → IsAskedAt t q x.chain.stage x.cells → (ps : List Term)
        → tale ps ≡ Asks (asked q x.cells) (told (tale ps))
    open_tale q is ps =
        chains.asks t x.chain.calls x.chain.replies ps x.chain.stage x.cells q h.coded.runs is

    -- what is so where a question is open, at the end, and where there would be one cell too many
    pub right_node : NodesAreRight → (q : Question) → IsAskedAt t q x.chain.stage x.cells
        → IsRightNode t p x.decisions h.all x.cells.places q
    right_node law q asked =
        law x.decisions h.all x.cells.places q
        (node_asks t p x.decisions h.all x.cells.places x.cells tale q (open_tale q asked) h.stands)

    pub right_leaf : LeavesAreRight → (w : Verdict) → x.chain.stage ≡ stage.Ended w
        → IsRightLeaf t p x.decisions h.all x.cells.places w
    right_leaf law w is =
        law x.decisions h.all x.cells.places w
        (standing.ends t p x.decisions h.all x.cells.places tale w h.stands
        (λ ps extends. ap (λ s. at_stage t x.chain.calls ps x.chain.replies s x.cells) is))

    pub too_many : MoreIsTouched → IsSatisfiable x.known → cell_limit ≤ length x.cells.places
        → ((ps : List Term) → (q : Place) × (f : Term → PairTale) × (tale ps ≡ Needs q f)) → TooManyCells t p
    too_many law some whole needs =
        let v = satisfied some in
        let u = law x.decisions h.all x.cells.places
        (touches_more t p x.decisions h.all x.cells.places tale h.stands needs) v.0 v.1 v.2 in
        record { world = u.0; is_world = u.1; many = omega (arith, u.2, whole) }

    -- the question can be asked of the context
    pub askable : NodesAreRight → IsSatisfiable x.known → x.known.classes.sorts ≡ sorts_of x.known.pieces
        → (q : Question) → IsAskedAt t q x.chain.stage x.cells → IsQuestion x.known q
    askable law some sorts q asked =
        let v = satisfied some in
        let count = h.knows.counts in
        let places = x.cells.places in
        let ground = grounds_of (pieces_of t p places) (enum_of t p places) v.0 (has_value t p places v.0) in
        can_be_asked t ground x.known (sorts ∙ ap sorts_of h.knows.made) (ap (λ (k : Counts). k.numbers) count)
        (ap (λ (k : Counts). k.tags) count) (ap (λ (k : Counts). k.options) count) q
        ((right_node law q asked).asked v.0 v.1 v.2)

    pub opens : NodesAreRight → IsSatisfiable x.known → x.known.classes.sorts ≡ sorts_of x.known.pieces
        → (q : Question) → x.open ≡ Some q → IsAskedAt t q x.chain.stage x.cells → IsOpen t p x q
    opens law some sorts q is asked = record {
      is_prefix = h;
      open_is = is;
      asked = asked;
      can_be_asked = askable law some sorts q asked;
    }

    pub goes_on : NodesAreRight → (q : Question) → IsAskedAt t q x.chain.stage x.cells → IsPath t p x.decisions → ⊥
    goes_on law q asked = sets.goes_on t p x.decisions h.all x.cells.places q (right_node law q asked)

    pub ends : LeavesAreRight → IsEnded x.chain.stage → paths.Ends (IsPath t p) x.decisions
    ends law ended =
        let w = verdict_of x.chain.stage ended in
        sets.ends t p x.decisions h.all x.cells.places w.0 (right_leaf law w.0 w.1)

    pub touches_few : LeavesAreRight → IsEnded x.chain.stage → length x.cells.places ≤ cell_limit
        → TouchesFew t p x.decisions
    touches_few law ended few =
        let w = verdict_of x.chain.stage ended in
        sets.touches_few t p x.decisions h.all x.cells.places w.0 (right_leaf law w.0 w.1) few

    -- of the leaf it is enough to ask the kept facts
    pub kept_leaf : LeavesAreRight → (w : Verdict) → x.chain.stage ≡ stage.Ended w
        → IsRightLeaf t p x.decisions x.facts x.cells.places w
    kept_leaf law w is =
        sets.right_by t p x.decisions h.all x.facts x.cells.places w h.says (right_leaf law w is)

  -- one more was asked, and new cells have got their terms
  pub asked_on : (x y : Prefix) → y.decisions ≡ x.decisions → y.facts ≡ x.facts
      → Moved t x.chain x.cells (counts_of x.known) y.chain y.cells (counts_of y.known) y.known.pieces
      → IsCoded t y.chain
      → IsGrown t x.cells.places (counts_of x.known) x.known.pieces y.cells.places (counts_of y.known) y.known.pieces
      → KeepsAll x.known.pieces (contexts.Satisfies x.known) y.known.pieces (contexts.Satisfies y.known)
      → Extends (payloads_of x.known.pieces) (payloads_of y.known.pieces)
      → IsRoomy y.known.pieces (length y.cells.places) → IsPrefix t p x → IsPrefix t p y
  asked_on x y same_decisions same_facts moved coded grown keeps extends roomy h = record {
    call_a = h.call_a;
    call_b = h.call_b;
    all = h.all;
    stands = subst (λ ds. StandsAt t p ds h.all y.cells.places (λ ps. left t ps y.chain y.cells)) (sym same_decisions)
        (stands_on t p x.decisions h.all old new (λ ps. left t ps x.chain x.cells) (λ ps. left t ps y.chain y.cells)
        (counts_of x.known) (counts_of y.known) h.knows.counts (counted_after t p old new c d before later made count grown)
        (subst (λ ps. Extends (payloads_of (pieces_of t p old)) (payloads_of ps)) is_made
        (subst (λ ps. Extends (payloads_of ps) (payloads_of later)) made extends))
        (λ ps ext. moved ps (subst (λ qs. Extends (payloads_of qs) ps) (sym is_made) ext)) h.stands);
    were_open = subst (λ ds. AreOpenDecisions t p [] [] ds y.facts new) (sym same_decisions)
        (subst (λ fs. AreOpenDecisions t p [] [] x.decisions fs new) (sym same_facts)
        (open_still t p [] [] x.decisions x.facts old new grown.cells grown.places h.were_open));
    says = subst (λ fs. SaysAll (pieces_of t p new) fs h.all) (sym same_facts)
        (subst (λ ps. SaysAll ps x.facts h.all) (sym (made_more t p old new c d before later made count grown))
        (says_still (pieces_of t p old) (more t p old new c d before later made count grown) x.facts h.all h.says));
    knows = subst (Knows (pieces_of t p new) y.known) (sym same_facts)
        (knows_more t p old new c d before later made count grown x.known y.known x.facts refl refl refl keeps h.knows);
    coded = coded;
    roomy = roomy;
  }
    where
      old : List Place
      old = x.cells.places

      new : List Place
      new = y.cells.places

      c : Counts
      c = counts_of x.known

      d : Counts
      d = counts_of y.known

      before : List Piece
      before = x.known.pieces

      later : List Piece
      later = y.known.pieces

      made : before ≡ pieces_of t p old
      made = h.knows.made

      count : c ≡ counted_all first_counts (pieces_of t p old)
      count = h.knows.counts

      is_made : later ≡ pieces_of t p new
      is_made = made_after t p old new c d before later made count grown

  module _ (x y : Prefix) (q : Question) (d : ℕ) (h : IsPrefix t p x) (asked : IsAskedAt t q x.chain.stage x.cells)
      (decisions : y.decisions ≡ x.decisions ++ d ∷ []) (cells : y.cells ≡ x.cells) (coded : IsCoded t y.chain)
      (next : (ps : List Term) → left t ps y.chain y.cells ≡ told (left t ps x.chain x.cells) d) where
    behind : StandsAt t p y.decisions (h.all ++ fact q d ∷ []) y.cells.places (λ ps. left t ps y.chain y.cells)
    behind =
        subst (λ ds. StandsAt t p ds (h.all ++ fact q d ∷ []) y.cells.places (λ ps. left t ps y.chain y.cells))
        (sym decisions)
        (subst (λ (cs : CellTable). StandsAt t p (x.decisions ++ d ∷ []) (h.all ++ fact q d ∷ []) cs.places
        (λ ps. left t ps y.chain y.cells)) (sym cells)
        (stands_behind t p x.decisions h.all x.cells.places x.cells (λ ps. left t ps x.chain x.cells)
        (λ ps. left t ps y.chain y.cells) q d (open_tale x h q asked) next h.stands))

    -- the only outcome was taken
    pub followed : NodesAreRight → ((e : ℕ) → Begins (IsPath t p) (x.decisions ++ e ∷ []) → e ≡ d)
        → y.facts ≡ x.facts → y.known ≡ x.known → IsPrefix t p y
    followed law alone facts known = record {
      call_a = h.call_a;
      call_b = h.call_b;
      all = h.all ++ fact q d ∷ [];
      stands = behind;
      were_open = subst (λ ds. AreOpenDecisions t p [] [] ds y.facts y.cells.places) (sym decisions)
          (subst (λ fs. AreOpenDecisions t p [] [] (x.decisions ++ d ∷ []) fs y.cells.places) (sym facts)
          (subst (λ (cs : CellTable). AreOpenDecisions t p [] [] (x.decisions ++ d ∷ []) x.facts cs.places) (sym cells)
          (forced_added t p [] [] x.decisions x.facts x.cells.places d h.were_open alone)));
      says = subst (λ fs. SaysAll (pieces_of t p y.cells.places) fs (h.all ++ fact q d ∷ [])) (sym facts)
          (subst (λ (cs : CellTable). SaysAll (pieces_of t p cs.places) x.facts (h.all ++ fact q d ∷ [])) (sym cells)
          (says_forced (pieces_of t p x.cells.places) x.facts h.all (fact q d) h.says
          (λ v is sat. sets.forced t p x.decisions h.all x.facts x.cells.places q d h.says (right_node x h law q asked)
          alone v is ((h.says.says v is).1 sat))));
      knows = subst (λ fs. Knows (pieces_of t p y.cells.places) y.known fs) (sym facts)
          (subst (λ (cs : CellTable). Knows (pieces_of t p cs.places) y.known x.facts) (sym cells)
          (subst (λ (k : Context). Knows (pieces_of t p x.cells.places) k x.facts) (sym known) h.knows));
      coded = coded;
      roomy = subst (λ (k : Context). IsRoomy k.pieces (length y.cells.places)) (sym known)
          (subst (λ (cs : CellTable). IsRoomy x.known.pieces (length cs.places)) (sym cells) h.roomy);
    }

    -- one of several was taken
    pub added : NodesAreRight → ((e : ℕ) × (e ≢ d) × Begins (IsPath t p) (x.decisions ++ e ∷ []))
        → y.facts ≡ x.facts ++ fact q d ∷ [] → y.known.pieces ≡ x.known.pieces
        → counts_of y.known ≡ counts_of x.known
        → contexts.Keeps x.known y.known (λ v. outcome_under v q ≡ d) → IsPrefix t p y
    added law several facts pieces counts keeps = record {
      call_a = h.call_a;
      call_b = h.call_b;
      all = h.all ++ fact q d ∷ [];
      stands = behind;
      were_open = subst (λ ds. AreOpenDecisions t p [] [] ds y.facts y.cells.places) (sym decisions)
          (subst (λ fs. AreOpenDecisions t p [] [] (x.decisions ++ d ∷ []) fs y.cells.places) (sym facts)
          (subst (λ (cs : CellTable). AreOpenDecisions t p [] [] (x.decisions ++ d ∷ []) (x.facts ++ fact q d ∷ [])
          cs.places) (sym cells)
          (open_added t p [] [] x.decisions x.facts x.cells.places d (fact q d) refl h.were_open
          (was_open t p x.decisions x.facts x.cells.places q d several.0 several.1
          (sets.node_by t p x.decisions h.all x.facts x.cells.places q h.says (right_node x h law q asked))
          several.2))));
      says = subst (λ fs. SaysAll (pieces_of t p y.cells.places) fs (h.all ++ fact q d ∷ [])) (sym facts)
          (subst (λ (cs : CellTable). SaysAll (pieces_of t p cs.places) (x.facts ++ fact q d ∷ [])
          (h.all ++ fact q d ∷ [])) (sym cells)
          (says_added (pieces_of t p x.cells.places) x.facts h.all (fact q d) h.says));
      knows = subst (λ fs. Knows (pieces_of t p y.cells.places) y.known fs) (sym facts)
          (subst (λ (cs : CellTable). Knows (pieces_of t p cs.places) y.known (x.facts ++ fact q d ∷ [])) (sym cells)
          (knows_told (pieces_of t p x.cells.places) x.known y.known x.facts q d pieces counts keeps h.knows));
      coded = coded;
      roomy = subst (λ ps. IsRoomy ps (length y.cells.places)) (sym pieces)
          (subst (λ (cs : CellTable). IsRoomy x.known.pieces (length cs.places)) (sym cells) h.roomy);
    }

  -- the outcomes that the context allows
  pub outcomes_are : (x : Prefix) (q : Question) → NodesAreRight → IsOpen t p x q → (d : ℕ)
      → Allows x.known (λ v. outcome_under v q ≡ d) ↔ Begins (IsPath t p) (x.decisions ++ d ∷ [])
  outcomes_are x q law h d =
      let one = sets.covers t p x.decisions h.is_prefix.all x.facts x.cells.places q x.known h.is_prefix.says
      h.is_prefix.knows (right_node x h.is_prefix law q h.asked) d in
      let two = sets.begins_either t p (x.decisions ++ d ∷ []) in
      ((λ a. two.0 (one.0 a)), (λ b. one.1 (two.1 b)))

  pub covers : (x : Prefix) (q : Question) (mask : ℕ) → NodesAreRight → IsOpen t p x q
      → ((d : ℕ) → Has mask d ↔ Allows x.known (λ v. outcome_under v q ≡ d))
      → Covers (IsPath t p) x.decisions mask
  covers x q mask law h has d =
      let one = has d in
      let two = outcomes_are x q law h d in
      ((λ a. two.0 (one.0 a)), (λ b. one.1 (two.1 b)))

-- the question that is open is the one that is kept
pub only_open : (t : Tables) (p : Pair) (x : Prefix) (q : Question) → x.open ≡ Some q
    → ((r : Question) × IsOpen t p x r) → IsOpen t p x q
only_open t p x q is some =
    let both : Some some.0 ≡ Some q = sym some.1.open_is ∙ is in
    let same : some.0 ≡ q = cc in
    subst (IsOpen t p x) same some.1

-- whether there is a spare says nothing of the valuations
pub spared : (c e : Context) (b : Bool) → e ≡ record c { classes = record c.classes { spare = b } }
    → (v : Valuation) → contexts.Satisfies e v ↔ contexts.Satisfies c v
spared c e b is v = (
  (λ s. back (subst (λ (k : Context). contexts.Satisfies k v) is s)),
  (λ s. subst (λ (k : Context). contexts.Satisfies k v) (sym is) (record {
    elements = record { same = s.elements.same; apart = s.elements.apart };
    numbers = s.numbers;
    tags = s.tags;
    options = s.options;
    payloads = s.payloads;
  })),
)
  where
    back : contexts.Satisfies (record c { classes = record c.classes { spare = b } }) v → contexts.Satisfies c v
    back s = record {
      elements = record { same = s.elements.same; apart = s.elements.apart };
      numbers = s.numbers;
      tags = s.tags;
      options = s.options;
      payloads = s.payloads;
    }

asked_still : (c : Context) (b : Bool) (q : Question) → IsQuestion c q
    → IsQuestion (record c { classes = record c.classes { spare = b } }) q
asked_still c b (question.Elems x y) h = h
asked_still c b (question.Nums x y) h = h
asked_still c b (question.Range x lo hi) h = h
asked_still c b (question.TagOf x) h = h
asked_still c b (question.OptOf x) h = h

-- in a copy the same question is open
module _ (t : Tables) (p : Pair) (x : Prefix) (q : Question) (b : Bool) where
  abbrev copy : Prefix
  copy = record x { known = record x.known { classes = record x.known.classes { spare = b } } }

  in_copy : IsOpen t p x q → IsOpen t p copy q
  in_copy h = record {
    is_prefix = record {
      call_a = h.is_prefix.call_a;
      call_b = h.is_prefix.call_b;
      all = h.is_prefix.all;
      stands = h.is_prefix.stands;
      says = h.is_prefix.says;
      were_open = h.is_prefix.were_open;
      knows = record {
        made = h.is_prefix.knows.made;
        counts = h.is_prefix.knows.counts;
        valuations = λ v.
            let one = spared x.known copy.known b refl v in
            let two = h.is_prefix.knows.valuations v in
            ((λ s. two.0 (one.0 s)), (λ s. one.1 (two.1 s)));
      };
      coded = h.is_prefix.coded;
      roomy = h.is_prefix.roomy;
    };
    open_is = h.open_is;
    asked = h.asked;
    can_be_asked = asked_still x.known b q h.can_be_asked;
  }

  pub copied : (decisions : List ℕ) (facts : List Fact) (known : Context) (cells : CellTable) (chain : Chain)
      (open_ : Option Question) → decisions ≡ x.decisions → facts ≡ x.facts
      → known ≡ record x.known { classes = record x.known.classes { spare = b } } → cells ≡ x.cells → chain ≡ x.chain
      → open_ ≡ x.open → IsOpen t p x q
      → IsOpen t p (record {
        decisions = decisions;
        facts = facts;
        known = known;
        cells = cells;
        chain = chain;
        «open» = open_;
      }) q
  copied decisions facts known cells chain open_ same_d same_f same_k same_c same_h same_o h =
      rw (same_d, same_f, same_k, same_c, same_h, same_o) (in_copy h)
