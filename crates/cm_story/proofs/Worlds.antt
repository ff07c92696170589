-- What the story of a pair says of its worlds.
use Rattle.std.proofs.Common.{◌≡◌, ℕ, true, List, [], Option, Some, None, slice_get, IsTrue, ◌↔◌, refl}
use Rattle.std.proofs.Common.{subst}
use Rattle.cm_model.specs.Tables.{Tables}
use Rattle.cm_model.specs.WellTyped.{IsWellTyped}
use Rattle.cm_model.specs.declared.body.Call.{Call}
use Rattle.cm_model.specs.declared.pair.Pair.{Pair}
use Rattle.cm_value.specs.declared.value.Value.{Value}
use Rattle.cm_eval.specs.State.{Store, Touched}
use Rattle.cm_eval.specs.Evaluation.{Doing, call_of}
use Rattle.cm_eval.specs.Run.{End, Ended, Stopped, evaluation_of}
use Rattle.cm_world.specs.declared.world.World.{World}
use Rattle.cm_world.specs.World.{IsWorldOf, are_arguments, are_arguments_in}
use Rattle.cm_world.specs.Order.{second_ended, second_after, outcomes, ba_ended, ba_after, both_orders, touched_cells}
use Rattle.cm_world.specs.Order.{nothing_touched, BothReplied}
use Rattle.cm_world.specs.Order as orders
use Rattle.cm_world.specs.Order.{BothEnd, OneBlocked}
use Rattle.cm_world.specs.Path.{path_of_world}
use Rattle.cm_world.specs.Commuting.{Commutes}
use Rattle.cm_world.proofs.TypedScripts.{IsTypedScript, call_keeps}
use Rattle.cm_story.specs.Story.{Story, story_of}
use Rattle.cm_story.specs.Following.{path_in, cells_in, end_in, looks}
use Rattle.cm_story.specs.Touches.{AllMeet, BothReply}
use Rattle.cm_story.proofs.Followed.{Told, told, told_as, told_is}
use Rattle.cm_story.proofs.Runs.{Good, went, play_ran, unwritten_turned, AnyReply}
use Rattle.cm_story.proofs.Last.{EndIs, EndMeets, blocked_is, last_ran}

-- a call on arguments of its types is a typed script
pub call_typed : (t : Tables) → IsWellTyped t → (i : ℕ) (args : List Value) → IsTrue (are_arguments t i args)
    → IsTypedScript t AnyReply (call_of t i args)
call_typed t typed i args are = by (slice_get t.calls i) refl are
  where
    by : (o : Option Call) → slice_get t.calls i ≡ o → are_arguments_in t o args ≡ true
        → IsTypedScript t AnyReply (call_of t i args)
    by (Some d) at are = call_keeps t typed AnyReply i d args at are (λ v is. tt)
    by None at are = absurd (cc)

module _ (t : Tables) (typed : IsWellTyped t) (p : Pair) (w : World) (is : IsWorldOf t p w) where
  abbrev first : Store
  first = w.init

  abbrev a : Doing
  a = call_of t p.a w.a.vals

  abbrev b : Doing
  b = call_of t p.b w.b.vals

  abbrev after_a : Store → Touched → List ℕ → End
  after_a = evaluation_of t p.a w.a.vals

  abbrev after_b : Store → Touched → List ℕ → End
  after_b = evaluation_of t p.b w.b.vals

  -- what is then so when each of the four runs has replied
  abbrev Fourth : Value → Value → Store → Value → Value → Store → Touched → List ℕ → Told → Type 0
  Fourth v x s y z u l log told = EndIs t first (BothReplied (outcomes v x s y z u) l log) told

  abbrev Third : Value → Value → Store → Value → Store → Touched → List ℕ → Told → Type 0
  Third v x s y u l log = went (after_a u l log) (Fourth v x s y)

  abbrev Second : Value → Value → Store → Touched → List ℕ → Told → Type 0
  Second v x s l log = went (after_b first l log) (Third v x s)

  abbrev First : Value → Store → Touched → List ℕ → Told → Type 0
  First v s l log = went (after_b s l log) (Second v)

  fourth_is : (v x : Value) (s : Store) (y : Value) (e : End) (told : Told) → went e (Fourth v x s y) told
      → EndIs t first (ba_ended v x s (second_ended y e)) told
  fourth_is v x s y (Ended z u l log) told h = h
  fourth_is v x s y (Stopped l log) told h = blocked_is t first l log told h

  third_is : (v x : Value) (s : Store) (e : End) (told : Told) → went e (Third v x s) told
      → EndIs t first (ba_ended v x s (second_after after_a e)) told
  third_is v x s (Ended y u l log) told h = fourth_is v x s y (after_a u l log) told h
  third_is v x s (Stopped l log) told h = blocked_is t first l log told h

  second_is : (v : Value) (e : End) (told : Told) → went e (Second v) told
      → EndIs t first (ba_after t p w (second_ended v e)) told
  second_is v (Ended x s l log) told h = third_is v x s (after_b first l log) told h
  second_is v (Stopped l log) told h = blocked_is t first l log told h

  first_is : (e : End) (told : Told) → went e First told → EndIs t first (ba_after t p w (second_after after_b e)) told
  first_is (Ended v s l log) told h = second_is v (after_b s l log) told h
  first_is (Stopped l log) told h = blocked_is t first l log told h

  turn_good : (s u : Store) (l : Touched) → Good t first s u l → Good t first u s l
  turn_good s u l good = record {
    this_typed = good.other_typed;
    other_typed = good.this_typed;
    cells = good.cells;
    apart = good.apart;
    this = good.other;
    other = good.this;
    unwritten = unwritten_turned first s u l.cells l.written good.unwritten;
    met = good.met;
  }

  at_first : Good t first first first nothing_touched
  at_first = record {
    this_typed = is.init;
    other_typed = is.init;
    cells = tt;
    apart = tt;
    this = λ c m. refl;
    other = λ c m. refl;
    unwritten = tt;
    met = tt;
  }

  abbrev story : Story
  story = story_of t p w.a.vals w.b.vals

  world_ran : EndIs t first (both_orders t p w) (told (looks first) [] [] story)
  world_ran =
      let a_typed = call_typed t typed p.a w.a.vals is.a in
      let b_typed = call_typed t typed p.b w.b.vals is.b in
      first_is (after_a first nothing_touched []) (told (looks first) [] [] story)
      (play_ran t first first First a a_typed first nothing_touched at_first _ (λ v s l log good.
      play_ran t first first (Second v) b b_typed s l good _ (λ x s l log good.
      play_ran t first s (Third v x s) b b_typed first l (turn_good s first l good) _ (λ y u l log good.
      play_ran t first s (Fourth v x s y) a a_typed u l good _ (λ z u l log good.
      last_ran t first v x y z s u l log good) log) log) log) [])

  abbrev end : EndIs t first (both_orders t p w) (told_as (path_in (looks first) story) (cells_in (looks first) story)
      (end_in (looks first) story))
  end = subst (EndIs t first (both_orders t p w)) (told_is (looks first) story [] []) world_ran

  -- the path of a world is that of the story
  pub path_told : path_of_world t p w ≡ path_in (looks w.init) (story_of t p w.a.vals w.b.vals)
  path_told = end.path

  -- and so are its touched cells
  pub cells_told : touched_cells t p w ≡ cells_in (looks w.init) (story_of t p w.a.vals w.b.vals)
  cells_told = end.cells

  -- and whether it commutes
  pub commutes_told : Commutes t p w ↔ IsTrue (end_in (looks w.init) (story_of t p w.a.vals w.b.vals))
  commutes_told = end.commutes

  replied_met : (e : BothEnd) → BothReply e → EndMeets t first e → AllMeet t (looks first) (orders.cells_in e)
  replied_met (BothReplied o l log) h met = met
  replied_met (OneBlocked l log) h met = absurd h

  -- where neither order is blocked the invariant of each touched cell is true of its first value
  pub touched_meet : BothReply (both_orders t p w) → AllMeet t (looks w.init) (touched_cells t p w)
  touched_meet h = replied_met (both_orders t p w) h end.met
