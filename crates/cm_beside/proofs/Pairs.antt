-- A pair's story on values, beside its tale on terms that have these values.
use Rattle.std.proofs.Common.{◌≡◌, Bool, true, false, List, [], ◌∷◌, map, slice_get, Some, refl, sym, subst}
use Rattle.cm_model.specs.Tables.{Tables}
use Rattle.cm_model.specs.WellTyped.{IsWellTyped}
use Rattle.cm_model.specs.declared.ty.Ty.{Ty}
use Rattle.cm_model.specs.declared.body.Call.{Call}
use Rattle.cm_model.specs.declared.pair.Pair.{Pair}
use Rattle.cm_value.specs.declared.value.Value.{Value}
use Rattle.cm_term.specs.declared.term.Term.{Term}
use Rattle.cm_eval.specs.Evaluation.{call_of}
use Rattle.cm_cells.specs.declared.order.Order.TheVariants as order
use Rattle.cm_cells.specs.CellTable.{CellTable, started_anew}
use Rattle.cm_cells.specs.CellTable as cells
use Rattle.cm_exec.specs.Run.{plan_of}
use Rattle.cm_story.specs.Story.{Story, StoryCells, turned}
use Rattle.cm_story.specs.Story as story
use Rattle.cm_relation.specs.Relation.{AreAll}
use Rattle.cm_beside.specs.Grounds.{Grounds}
use Rattle.cm_beside.specs.Fits.{Fits}
use Rattle.cm_beside.specs.Related.{IsGround}
use Rattle.cm_beside.specs.Beside.{pair_tale, compared, finals, Beside}
use Rattle.cm_beside.proofs.Calls.{call_fits}
use Rattle.cm_beside.proofs.Playing.{CellsFit, types, AllFit, play_beside}
use Rattle.cm_beside.proofs.Settling.{AllSides, last_beside}

module _ (t : Tables) (typed : IsWellTyped t) (g : Grounds) (ground : IsGround g) where
  none_fit : CellsFit t g order.Ab cells.no_cells story.no_cells
  none_fit = record { places = tt; written = refl; now = tt; others = tt; first = refl }

  -- the other order's turn
  turn_fits : (cs : CellTable) (sc : StoryCells) → CellsFit t g order.Ab cs sc
      → CellsFit t g order.Ba (started_anew order.Ba cs) (turned sc)
  turn_fits cs sc h = record {
    places = h.places;
    written = h.written;
    now = subst (AllFit t g (types t g cs.places) sc.other) (sym h.first) h.others;
    others = h.now;
    first = tt;
  }

  -- the final values and terms of written cells
  finals_fit : (us : List Ty) (bs : List Bool) (vs ws : List Value) (xs ys : List Term) → AllFit t g us vs xs
      → AllFit t g us ws ys → AllSides t g (story.finals bs vs ws) (finals bs xs ys)
  finals_fit us [] vs ws xs ys h i = tt
  finals_fit [] (b ∷ bs) [] ws [] ys h i = tt
  finals_fit [] (b ∷ bs) [] ws (x ∷ xs) ys h i = absurd h
  finals_fit [] (b ∷ bs) (v ∷ vs) ws xs ys h i = absurd h
  finals_fit (u ∷ us) (b ∷ bs) [] ws xs ys h i = absurd h
  finals_fit (u ∷ us) (b ∷ bs) (v ∷ vs) ws [] ys h i = absurd h
  finals_fit (u ∷ us) (b ∷ bs) (v ∷ vs) [] (x ∷ xs) ys h i = absurd i
  finals_fit (u ∷ us) (b ∷ bs) (v ∷ vs) (w ∷ ws) (x ∷ xs) [] h i = absurd i
  finals_fit (u ∷ us) (true ∷ bs) (v ∷ vs) (w ∷ ws) (x ∷ xs) (y ∷ ys) h i =
      ((u, h.0, i.0), finals_fit us bs vs ws xs ys h.1 i.1)
  finals_fit (u ∷ us) (false ∷ bs) (v ∷ vs) (w ∷ ws) (x ∷ xs) (y ∷ ys) h i = finals_fit us bs vs ws xs ys h.1 i.1

  -- all that is compared at last
  compared_fit : (u w : Ty) (cs : CellTable) (sc : StoryCells) → CellsFit t g order.Ba cs sc
      → (a b c d : Value) (x y z q : Term) → Fits t g u a x → Fits t g w b y → Fits t g w c z → Fits t g u d q
      → AllSides t g (story.compared a b c d sc) (compared x y z q cs)
  compared_fit u w cs sc h a b c d x y z q ha hb hc hd = (
    (u, ha, hd),
    (
      (w, hb, hc),
      subst (λ bs. AllSides t g (story.finals bs sc.other sc.now) (finals cs.written cs.ab cs.ba)) (sym h.written)
          (finals_fit (types t g cs.places) cs.written sc.other sc.now cs.ab cs.ba h.others h.now),
    ),
  )

  -- both orders and the last comparison
  pub pair_beside : (p : Pair) (a b : Call) → slice_get t.calls p.a ≡ Some a → slice_get t.calls p.b ≡ Some b
      → (vs ws : List Value) (xs ys : List Term) → AreAll (Fits t g) (map (λ p. p.ty) a.params) vs xs
      → AreAll (Fits t g) (map (λ p. p.ty) b.params) ws ys
      → Beside t g (pair_tale t p xs ys g.payloads) (story.story_of t p vs ws)
  pair_beside p a b at_a at_b vs ws xs ys fit_a fit_b =
      let ra = call_fits t typed g ground p.a a vs xs at_a fit_a in
      let rb = call_fits t typed g ground p.b b ws ys at_b fit_b in
      let ab_plan = plan_of t p.a xs g.payloads in
      let ba_plan = plan_of t p.b ys g.payloads in
      play_beside t typed g ground _ (Fits t g a.reply) order.Ab _ (λ v x hv cs sc h.
      play_beside t typed g ground _ (Fits t g b.reply) order.Ab _ (λ w y hw cs sc h.
      play_beside t typed g ground _ (Fits t g b.reply) order.Ba _ (λ m z hm cs sc h.
      play_beside t typed g ground _ (Fits t g a.reply) order.Ba _ (λ n q hn cs sc h.
      last_beside t typed g cs (story.compared v w m n sc) (compared x y z q cs)
      (compared_fit a.reply b.reply cs sc h v w m n x y z q hv hw hm hn))
      ab_plan (call_of t p.a vs) ra cs sc h)
      ba_plan (call_of t p.b ws) rb (started_anew order.Ba cs) (turned sc) (turn_fits cs sc h))
      ba_plan (call_of t p.b ws) rb cs sc h)
      ab_plan (call_of t p.a vs) ra cells.no_cells story.no_cells none_fit
