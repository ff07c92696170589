-- Locality.
use Rattle.std.proofs.Common.{◌≡◌, Bool, true, false, List, [], ◌∷◌, IsTrue, refl, sym, ap, ◌∙◌, subst}
use Rattle.cm_model.specs.Tables.{Tables}
use Rattle.cm_model.specs.WellTyped.{IsWellTyped}
use Rattle.cm_model.specs.declared.pair.Pair.{Pair}
use Rattle.cm_eval.specs.declared.log.CellName.{CellName}
use Rattle.cm_eval.specs.State.{Store}
use Rattle.cm_world.specs.declared.world.World.{World}
use Rattle.cm_world.specs.World.{IsWorldOf}
use Rattle.cm_story.specs.declared.laws.Ran.{Ran}
use Rattle.cm_story.specs.Story.{story_of}
use Rattle.cm_story.specs.Following.{path_in, cells_in, end_in, looks, or_filler}
use Rattle.cm_story.specs.Local.{SameAt, LookSame, DoSame}
use Rattle.cm_story.specs.Running.{IsRunOf, IsTold, IsTouched, story_in}
use Rattle.cm_story.proofs.Followed.{AgreeAt, SameStory, agreeing}
use Rattle.cm_story.proofs.Places.{looks_typed}
use Rattle.cm_story.proofs.Worlds.{path_told, cells_told, commutes_told, touched_meet}
use Rattle.cm_story.proofs.Distinct.{cells_apart}
use Rattle.cm_story.proofs.Typed.{cells_typed}
use Rattle.cm_story.specs.Touches.{Apart, AreCells}

agree_at : (s u : Store) (cs : List CellName) → SameAt s u cs → AgreeAt (looks s) (looks u) cs
agree_at s u [] h = tt
agree_at s u (c ∷ cs) h = (ap or_filler h.0, agree_at s u cs h.1)

false_true : false ≡ true → ⊥
false_true e = cc

-- two bools that say the same
both_ways : (b c : Bool) → (IsTrue b → IsTrue c) → (IsTrue c → IsTrue b) → b ≡ c
both_ways true true f g = refl
both_ways true false f g = absurd (false_true (f refl))
both_ways false true f g = absurd (false_true (g refl))
both_ways false false f g = refl

module _ (t : Tables) (typed : IsWellTyped t) (p : Pair) where
  -- a world of the same arguments whose state looks the same
  agreed : (w u : World) → IsWorldOf t p w → LookSame t p w u → SameStory (looks w.init) (looks u.init) (story_in t p w)
  agreed w u is same =
      agreeing (looks w.init) (looks u.init) (story_in t p w) (agree_at w.init u.init (cells_in (looks w.init)
      (story_in t p w)) (subst (SameAt w.init u.init) (cells_told t typed p w is) same.cells))

  same_story : (w u : World) → LookSame t p w u → story_in t p w ≡ story_in t p u
  same_story w u same =
      ap (λ a. story_of t p a w.b.vals) same.a ∙ ap (λ b. story_of t p u.a.vals b) same.b

  pub local : (w u : World) → IsWorldOf t p w → IsWorldOf t p u → LookSame t p w u → DoSame t p w u
  local w u is_w is_u same =
      let met = agreed w u is_w same in
      let story = same_story w u same in
      let one = commutes_told t typed p w is_w in
      let two = commutes_told t typed p u is_u in
      let ends : end_in (looks w.init) (story_in t p w) ≡ end_in (looks u.init) (story_in t p u) =
      met.end ∙ ap (end_in (looks u.init)) story in
      record {
        path = path_told t typed p w is_w ∙ met.path ∙ ap (path_in (looks u.init)) story
            ∙ sym (path_told t typed p u is_u);
        touches = cells_told t typed p w is_w ∙ met.cells ∙ ap (cells_in (looks u.init)) story
            ∙ sym (cells_told t typed p u is_u);
        commutes = (
          (λ h. two.1 (subst IsTrue ends (one.0 h))),
          (λ h. one.1 (subst IsTrue (sym ends) (two.0 h))),
        );
      }

  -- what two runs gave
  pub same_runs : (w u : World) (r q : Ran) → IsRunOf t p w r → IsRunOf t p u q → DoSame t p w u → r ≡ q
  same_runs w u r q one two same =
      ap (λ path. record r { path = path }) (one.path ∙ same.path ∙ sym two.path)
      ∙ ap (λ b. record q { commutes = b }) (both_ways r.commutes q.commutes
      (λ h. two.commutes.1 (same.commutes.0 (one.commutes.0 h)))
      (λ h. one.commutes.1 (same.commutes.1 (two.commutes.0 h))))

  pub run_told : (w : World) → IsWorldOf t p w → (r : Ran) → IsRunOf t p w r → IsTold t p w r
  run_told w is r ran =
      let told = commutes_told t typed p w is in
      record {
        path = ran.path ∙ path_told t typed p w is;
        commutes = both_ways r.commutes (end_in (looks w.init) (story_in t p w))
            (λ h. told.0 (ran.commutes.0 h)) (λ h. ran.commutes.1 (told.1 h));
      }

  pub world_touched : (w : World) → IsWorldOf t p w → IsTouched t p w
  world_touched w is =
      let told = cells_told t typed p w is in
      record {
        told = told;
        apart = subst Apart (sym told) (cells_apart t p w.a.vals w.b.vals (looks w.init));
        cells = subst (AreCells t) (sym told)
            (cells_typed t (looks w.init) (looks_typed t w.init is.init) typed p w.a.vals w.b.vals is.a is.b);
        met = touched_meet t typed p w is;
      }
