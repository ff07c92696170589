-- Both orders keep the defaults, and touch cells of declared states only.
use Rattle.std.proofs.Common.{◌≡◌, ℕ, ◌<◌, List, [], ◌∷◌, ◌++◌, length, refl, subst}
use Rattle.std.proofs.lemmas.Option.{slice_get_within}
use Rattle.cm_model.specs.Tables.{Tables}
use Rattle.cm_model.specs.declared.pair.Pair.{Pair}
use Rattle.cm_value.specs.declared.value.Value.{Value}
use Rattle.cm_eval.specs.declared.log.CellName.{CellName}
use Rattle.cm_eval.specs.declared.log.Log.{Log}
use Rattle.cm_eval.specs.State.{Store, Touched}
use Rattle.cm_eval.specs.Evaluation.{call_of}
use Rattle.cm_eval.specs.Run.{End, Ended, Stopped, evaluation_of}
use Rattle.cm_eval.specs.Ended.{touched_of}
use Rattle.cm_world.specs.declared.world.World.{World}
use Rattle.cm_world.specs.declared.order.Outcomes.{Outcomes}
use Rattle.cm_world.specs.declared.order.BothOrders.{BothOrders}
use Rattle.cm_world.specs.declared.order.BothOrders.TheVariants as both
use Rattle.cm_world.specs.Order.{Invocation, OrderEnd, Replied, Blocked, BothEnd, BothReplied, OneBlocked, run_of_order}
use Rattle.cm_world.specs.Order.{second_after, second_ended, run_of_ab, ba_after, ba_ended, both_orders, call_a, call_b}
use Rattle.cm_world.specs.inner.Ran.{AreDeclared, both_end}
use Rattle.cm_world.proofs.Kept.{EndKeeps, script_keeps}

-- the state has these defaults, and the touched cells are of the first n states
abbrev pub Fine : List Value → ℕ → Store → Touched → Type 0
Fine ds n s t = (s.defaults ≡ ds) × AreDeclared n t.cells

one_more : (n : ℕ) (cs : List CellName) (c : CellName) → c.state < n → AreDeclared n cs → AreDeclared n (cs ++ c ∷ [])
one_more n [] c lt h = (lt, tt)
one_more n (d ∷ cs) c lt h = (h.0, one_more n cs c lt h.1)

module _ (t : Tables) (ds : List Value) where
  abbrev Good : Store → Touched → Type 0
  Good = Fine ds (length t.states)

  evaluation_keeps : (i : ℕ) (args : List Value) (s : Store) (touched : Touched) (log : List ℕ) → Good s touched
      → EndKeeps (λ v s u. Good s u) (evaluation_of t i args s touched log)
  evaluation_keeps i args s touched log h =
      script_keeps (λ v s u. Good s u) t.ints t.states Good
      (λ s u c d is new g. (g.0, one_more (length t.states) u.cells c (slice_get_within t.states c.state d is) g.1))
      (λ s u c x i at g. (g.0, g.1)) (λ v s u g. g) (call_of t i args) s touched log h

  abbrev OrderKeeps : OrderEnd → Type 0
  OrderKeeps (Replied v w s touched log) = Good s touched
  OrderKeeps (Blocked touched log) = Unit {0}

  second_keeps : (v : Value) (e : End) → EndKeeps (λ v s u. Good s u) e → OrderKeeps (second_ended v e)
  second_keeps v (Ended w s touched log) h = h
  second_keeps v (Stopped touched log) h = tt

  after_keeps : (y : Invocation) (e : End) → EndKeeps (λ v s u. Good s u) e
      → OrderKeeps (second_after (evaluation_of t y.call y.args) e)
  after_keeps y (Ended v s touched log) h = second_keeps v (evaluation_of t y.call y.args s touched log)
      (evaluation_keeps y.call y.args s touched log h)
  after_keeps y (Stopped touched log) h = tt

  order_keeps : (x y : Invocation) (s : Store) (touched : Touched) (log : List ℕ) → Good s touched
      → OrderKeeps (run_of_order t x y s touched log)
  order_keeps x y s touched log h = after_keeps y (evaluation_of t x.call x.args s touched log)
      (evaluation_keeps x.call x.args s touched log h)

-- both final states have the initial defaults, and the touched cells are of declared states
abbrev pub BothFine : Tables → World → BothEnd → Type 0
BothFine t w (BothReplied o touched log) =
    (o.after_ab.defaults ≡ w.init.defaults) × (o.after_ba.defaults ≡ w.init.defaults)
    × AreDeclared (length t.states) touched.cells
BothFine t w (OneBlocked touched log) = Unit {0}

module _ (t : Tables) (p : Pair) (w : World) where
  ba_fine : (x y : Value) (s : Store) → s.defaults ≡ w.init.defaults → (e : OrderEnd) → OrderKeeps t w.init.defaults e
      → BothFine t w (ba_ended x y s e)
  ba_fine x y s kept (Replied u v r touched log) h = (kept, h.0, h.1)
  ba_fine x y s kept (Blocked touched log) h = tt

  after_ab_fine : (e : OrderEnd) → OrderKeeps t w.init.defaults e → BothFine t w (ba_after t p w e)
  after_ab_fine (Replied x y s touched log) h =
      ba_fine x y s h.0 (run_of_order t (call_b p w) (call_a p w) w.init touched log)
      (order_keeps t w.init.defaults (call_b p w) (call_a p w) w.init touched log (refl, h.1))
  after_ab_fine (Blocked touched log) h = tt

  pub both_fine : BothFine t w (both_orders t p w)
  both_fine = after_ab_fine (run_of_ab t p w) (order_keeps t w.init.defaults (call_a p w) (call_b p w)
      w.init _ [] (refl, tt))

  -- the same of what a run of both gave
  pub ran_fine : (o : Outcomes) (r : BothOrders) (l : Log) → both_orders t p w ≡ both_end r l → r ≡ both.Replied o
      → BothFine t w (BothReplied o (touched_of l) l.steps)
  ran_fine o r l e is = subst (λ q. BothFine t w (both_end q l)) is (subst (BothFine t w) e both_fine)
