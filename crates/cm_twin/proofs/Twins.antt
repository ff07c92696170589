-- A world and its twin do alike.
use Rattle.std.proofs.Common.{◌≡◌, ℕ, Bool, List, [], ◌∷◌, map, Option, Some, None, slice_get, IsTrue, refl, sym, ap}
use Rattle.std.proofs.Common.{◌∙◌, subst, false, true}
use Rattle.cm_model.specs.Tables.{Tables}
use Rattle.cm_model.specs.WellTyped.{IsWellTyped}
use Rattle.cm_model.specs.declared.ty.Ty.{Ty}
use Rattle.cm_model.specs.declared.pair.Pair.{Pair}
use Rattle.cm_model.specs.declared.body.Call.{Call}
use Rattle.cm_value.specs.declared.value.Value.{Value}
use Rattle.cm_eval.specs.declared.log.CellName.{CellName}
use Rattle.cm_eval.specs.State.{Store, look_up}
use Rattle.cm_eval.specs.Evaluation.{call_of}
use Rattle.cm_world.specs.declared.world.World.{World}
use Rattle.cm_world.specs.World.{IsWorldOf}
use Rattle.cm_relation.specs.Relation.{IfBoth}
use Rattle.cm_story.specs.declared.laws.Ran.{Ran}
use Rattle.cm_story.specs.Running.{IsRunOf}
use Rattle.cm_story.specs.Tale.{Asks, Needs, Ends}
use Rattle.cm_story.specs.Story.{Story, story_of}
use Rattle.cm_story.specs.Following.{Look, path_in, cells_in, end_in, looks, or_filler}
use Rattle.cm_story.proofs.Worlds.{path_told, cells_told, commutes_told}
use Rattle.cm_twin.specs.Names.{Names, AreTwins, cell_named, value_type}
use Rattle.cm_twin.specs.Twins.{AreTwinArguments, AreTwinsAt, IsTwin, DoAlike}
use Rattle.cm_twin.proofs.Renamed.{named-none}
use Rattle.cm_twin.proofs.Scripts.{Renamed}
use Rattle.cm_twin.proofs.Doings.{call_renamed}
use Rattle.cm_twin.proofs.Stories.{Like, chain_like}

module _ (t : Tables) (names : Names) where
  -- two look-ups that hold twins in these cells
  abbrev pub Hold : Look → Look → List CellName → Type 0
  Hold o u [] = Unit {0}
  Hold o u (c ∷ cs) = AreTwins t names (value_type t c.state) (o c) (u (cell_named t names.there c)) × Hold o u cs

  record Met (o u : Look) (c e : Story) : Type 0 where
    path : path_in o c ≡ path_in u e
    cells : cells_in u e ≡ map (cell_named t names.there) (cells_in o c)
    end : end_in o c ≡ end_in u e

  like_met : (o u : Look) (c e : Story) → Like t names c e → Hold o u (cells_in o c) → Met o u c e
  like_met o u (Asks d k) e h held =
      let m = like_met o u (k d) (h.0 d) h.2 held in
      subst (Met o u (Asks d k)) (sym h.1) (record { path = ap (λ l. d ∷ l) m.path; cells = m.cells; end = m.end })
  like_met o u (Needs c k) e h held =
      let is : AreTwins t names (value_type t c.state) (o c) (u h.0) =
      subst (λ x. AreTwins t names (value_type t c.state) (o c) (u x)) h.3.0 held.0 in
      let m = like_met o u (k (o c)) (h.1 (u h.0)) (h.4 (o c) (u h.0) is) held.1 in
      subst (Met o u (Needs c k)) (sym h.2) (record {
        path = m.path;
        cells = ap (λ x. x ∷ cells_in u (h.1 (u h.0))) (sym h.3.0)
            ∙ ap (λ l. cell_named t names.there c ∷ l) m.cells;
        end = m.end;
      })
  like_met o u (Ends b) e h held =
      subst (Met o u (Ends b)) (sym h) (record { path = refl; cells = refl; end = refl })

  filled : (o : Option Ty) (p q : Option Value) → IfBoth (AreTwins t names o) p q
      → AreTwins t names o (or_filler p) (or_filler q)
  filled o (Some v) (Some w) h = h
  filled o None None h = (named-none t names.there o, named-none t names.back o)
  filled o (Some v) None h = absurd h
  filled o None (Some w) h = absurd h

  hold_looks : (s u : Store) (cs : List CellName) → AreTwinsAt t names s u cs → Hold (looks s) (looks u) cs
  hold_looks s u [] h = tt
  hold_looks s u (c ∷ cs) h =
      (filled (value_type t c.state) (look_up s c) (look_up u (cell_named t names.there c)) h.0, hold_looks s u cs h.1)

  -- the reply type of a call, and what it does under the new names
  module _ (typed : IsWellTyped t) where
    pub call_twin : (i : ℕ) (vs ws : List Value) → AreTwinArguments t names (slice_get t.calls i) vs ws
        → (reply : Ty) × Renamed t names reply (call_of t i vs) (call_of t i ws)
    call_twin i vs ws = by (slice_get t.calls i) refl
      where
        by : (o : Option Call) → slice_get t.calls i ≡ o → AreTwinArguments t names o vs ws
            → (reply : Ty) × Renamed t names reply (call_of t i vs) (call_of t i ws)
        by (Some d) at h = (d.reply, call_renamed t typed names i d vs ws at h)
        by None at h = absurd h

    pub twin_alike : (p : Pair) (w u : World) → IsWorldOf t p w → IsWorldOf t p u → IsTwin t p names w u
        → DoAlike t p names w u
    twin_alike p w u is_w is_u twin =
        let a = call_twin p.a w.a.vals u.a.vals twin.a in
        let b = call_twin p.b w.b.vals u.b.vals twin.b in
        let one : Story = story_of t p w.a.vals w.b.vals in
        let two : Story = story_of t p u.a.vals u.b.vals in
        let like : Like t names one two =
        chain_like t names typed a.0 b.0 (call_of t p.a w.a.vals) (call_of t p.b w.b.vals) (call_of t p.a u.a.vals)
        (call_of t p.b u.b.vals) a.1 b.1 in
        let m : Met (looks w.init) (looks u.init) one two =
        like_met (looks w.init) (looks u.init) one two like (hold_looks w.init u.init (cells_in (looks w.init) one)
        (subst (AreTwinsAt t names w.init u.init) (cells_told t typed p w is_w) twin.cells)) in
        let w_commutes = commutes_told t typed p w is_w in
        let u_commutes = commutes_told t typed p u is_u in
        record {
          path = path_told t typed p w is_w ∙ m.path ∙ sym (path_told t typed p u is_u);
          touches = cells_told t typed p u is_u ∙ m.cells
              ∙ ap (map (cell_named t names.there)) (sym (cells_told t typed p w is_w));
          commutes = (
            (λ h. u_commutes.1 (subst IsTrue m.end (w_commutes.0 h))),
            (λ h. w_commutes.1 (subst IsTrue (sym m.end) (u_commutes.0 h))),
          );
        }

false_true : false ≡ true → ⊥
false_true e = cc

-- two bools that say the same
both_ways : (b c : Bool) → (IsTrue b → IsTrue c) → (IsTrue c → IsTrue b) → b ≡ c
both_ways true true f g = refl
both_ways true false f g = absurd (false_true (f refl))
both_ways false true f g = absurd (false_true (g refl))
both_ways false false f g = refl

-- what two runs gave
pub same_runs : (t : Tables) (p : Pair) (names : Names) (w u : World) (r q : Ran) → IsRunOf t p w r → IsRunOf t p u q
    → DoAlike t p names w u → r ≡ q
same_runs t p names w u r q one two alike =
    ap (λ path. record r { path = path }) (one.path ∙ alike.path ∙ sym two.path)
    ∙ ap (λ b. record q { commutes = b }) (both_ways r.commutes q.commutes
    (λ h. two.commutes.1 (alike.commutes.0 (one.commutes.0 h)))
    (λ h. one.commutes.1 (alike.commutes.1 (two.commutes.0 h))))
