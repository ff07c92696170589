-- The last comparison on two states, beside that of the story.
use Rattle.std.proofs.Common.{◌≡◌, ℕ, Bool, true, false, ◌&&◌, List, [], ◌∷◌, ◌++◌, map, Some, IsTrue, ◌↔◌}
use Rattle.std.proofs.Common.{refl, sym, ap, ◌∙◌, subst}
use Rattle.std.proofs.lemmas.List.{append-nil}
use Rattle.std.proofs.lemmas.Bool.{and_parts, and_from}
use Rattle.cm_model.specs.Tables.{Tables}
use Rattle.cm_value.specs.declared.value.Value.{Value}
use Rattle.cm_eval.specs.declared.log.CellName.{CellName}
use Rattle.cm_eval.specs.State.{Store, Touched, look_up, same_value}
use Rattle.cm_eval.proofs.Same.{same_equal, same_self}
use Rattle.cm_world.specs.World.{IsStateOf}
use Rattle.cm_world.specs.Order as orders
use Rattle.cm_world.specs.Order.{BothEnd, BothReplied, OneBlocked, outcomes}
use Rattle.cm_world.specs.Path as paths
use Rattle.cm_world.specs.Path.{inspection_logged, cell_inspected, cells_inspected, logs}
use Rattle.cm_world.specs.Commuting.{SameState, EndsEqual}
use Rattle.cm_story.specs.Tale.{Asks, Ends}
use Rattle.cm_story.specs.Story.{Story, Both, blocked, finals, are_same, pairs_inspected, last_comparison}
use Rattle.cm_story.specs.Following.{Look, path_in, cells_in, end_in, looks, or_filler}
use Rattle.cm_story.specs.Touches.{Misses, AreCells, AllMeet}
use Rattle.cm_story.proofs.Compared.{inspected_beside, inspected_self}
use Rattle.cm_story.proofs.Places.{one_or_two, looked}
use Rattle.cm_story.proofs.Followed.{Told, told, told_as, told_is}
use Rattle.cm_story.proofs.Runs.{Good, Unwritten}

abbrev pub all_logged : List Both → List ℕ
all_logged [] = []
all_logged (p ∷ ps) = inspection_logged p.0 p.1 (all_logged ps)

false_true : false ≡ true → ⊥
false_true e = cc

module _ (o : Look) where
  -- a story of these decisions that touches no cell
  abbrev Logs : Story → List ℕ → Type 0
  Logs s log = (path_in o s ≡ log) × (cells_in o s ≡ [])

  pairs_log : (ps : List Both) (s : Story) → Logs s [] → Logs (pairs_inspected ps s) (all_logged ps)
  pairs_log [] s h = h
  pairs_log (p ∷ ps) s h =
      inspected_beside Story (List ℕ) blocked [] Asks logs Logs (refl, refl)
      (λ d k l g. (ap (λ xs. d ∷ xs) g.0, g.1)) p.0 p.1 (pairs_inspected ps s) (all_logged ps) (pairs_log ps s h)

  -- a story that ends with false
  abbrev Fails : Story → List ℕ → Type 0
  Fails s log = end_in o s ≡ false

  pairs_fail : (ps : List Both) (s : Story) → end_in o s ≡ false → end_in o (pairs_inspected ps s) ≡ false
  pairs_fail [] s h = h
  pairs_fail (p ∷ ps) s h =
      inspected_beside Story (List ℕ) blocked [] Asks logs Fails refl (λ d k l g. g) p.0 p.1 (pairs_inspected ps s)
      (all_logged ps) (pairs_fail ps s h)

  -- pairs of the same go to the end
  pairs_pass : (ps : List Both) (s : Story) → are_same ps ≡ true → end_in o s ≡ true
      → end_in o (pairs_inspected ps s) ≡ true
  pairs_pass [] s same h = h
  pairs_pass (p ∷ ps) s same h =
      let parts = and_parts (same_value p.0 p.1) (are_same ps) same in
      subst (λ v. end_in o (paths.inspecting Story blocked Asks p.0 v (pairs_inspected ps s)) ≡ true)
      (same_equal p.0 p.1 parts.0)
      (inspected_self Story blocked Asks (λ s. end_in o s ≡ true) (λ d k g. g) p.0 (pairs_inspected ps s)
      (pairs_pass ps s parts.1 h))

  last_ends : (ps : List Both) → end_in o (last_comparison ps) ≡ are_same ps
  last_ends ps = by (are_same ps) refl
    where
      by : (b : Bool) → are_same ps ≡ b → end_in o (pairs_inspected ps (Ends b)) ≡ b
      by true is = pairs_pass ps (Ends true) is refl
      by false is = pairs_fail ps (Ends false) refl

  pub last_told : (ps : List Both) (log : List ℕ) (cs : List CellName)
      → told o log cs (last_comparison ps) ≡ told_as (log ++ all_logged ps) cs (are_same ps)
  last_told ps log cs =
      let l = pairs_log ps (Ends (are_same ps)) (refl, refl) in
      told_is o (last_comparison ps) log cs
      ∙ ap (λ d. told_as (log ++ d) (cs ++ cells_in o (last_comparison ps)) (end_in o (last_comparison ps))) l.0
      ∙ ap (λ d. told_as (log ++ all_logged ps) (cs ++ d) (end_in o (last_comparison ps))) l.1
      ∙ ap (λ d. told_as (log ++ all_logged ps) d (end_in o (last_comparison ps))) (append-nil cs)
      ∙ ap (told_as (log ++ all_logged ps) cs) (last_ends ps)

-- the touched cells met their invariants at first, where both orders replied
abbrev pub EndMeets : Tables → Store → BothEnd → Type 0
EndMeets t f (BothReplied o l log) = AllMeet t (looks f) l.cells
EndMeets t f (OneBlocked l log) = Unit {0}

-- a story told what the two orders did, on this state at first
pub record EndIs (t : Tables) (f : Store) (e : BothEnd) (w : Told) : Type 0 where
  pub path : paths.path_in e ≡ w.path
  pub cells : orders.cells_in e ≡ w.cells
  pub commutes : EndsEqual t e ↔ IsTrue w.commutes
  pub met : EndMeets t f e

pub blocked_is : (t : Tables) (f : Store) (l : Touched) (log : List ℕ) (w : Told) → w ≡ told_as log l.cells false
    → EndIs t f (OneBlocked l log) w
blocked_is t f l log w e = record {
  path = ap (λ (w : Told). w.path) (sym e);
  cells = ap (λ (w : Told). w.cells) (sym e);
  commutes = (
    (λ h. absurd h),
    (λ h. absurd (false_true (ap (λ (w : Told). w.commutes) (sym e) ∙ h))),
  );
  met = tt;
}

module _ (t : Tables) (s u : Store) (s_typed : IsStateOf t s) (u_typed : IsStateOf t u) where
  abbrev pairs_of : List CellName → List Bool → List Both
  pairs_of cs bs = finals bs (map (looks s) cs) (map (looks u) cs)

  finals_logged : (cs : List CellName) (bs : List Bool) → AreCells t cs
      → all_logged (pairs_of cs bs) ≡ cells_inspected s u cs bs
  finals_logged [] [] are = refl
  finals_logged [] (b ∷ bs) are = refl
  finals_logged (c ∷ cs) [] are = refl
  finals_logged (c ∷ cs) (true ∷ bs) are =
      ap (inspection_logged (looks s c) (looks u c)) (finals_logged cs bs are.1)
      ∙ ap (λ o. cell_inspected o (Some (looks u c)) (cells_inspected s u cs bs)) (sym (looked t s s_typed c are.0))
      ∙ ap (λ o. cell_inspected (look_up s c) o (cells_inspected s u cs bs)) (sym (looked t u u_typed c are.0))
  finals_logged (c ∷ cs) (false ∷ bs) are = finals_logged cs bs are.1

  -- what is the same in all written cells is the same everywhere
  same_at : (f : Store) (cs : List CellName) (bs : List Bool) → AreCells t cs → Unwritten f u s cs bs
      → are_same (pairs_of cs bs) ≡ true → (c : CellName) → (Misses c cs → look_up s c ≡ look_up u c)
      → look_up s c ≡ look_up u c
  same_at f [] [] are un h c off = off tt
  same_at f [] (b ∷ bs) are un h c off = absurd un
  same_at f (d ∷ cs) [] are un h c off = absurd un
  same_at f (d ∷ cs) (true ∷ bs) are un h c off =
      let both = and_parts (same_value (looks s d) (looks u d)) (are_same (pairs_of cs bs)) h in
      one_or_two c d (look_up s c ≡ look_up u c)
      (λ e. ap (look_up s) e ∙ looked t s s_typed d are.0 ∙ ap Some (same_equal (looks s d) (looks u d) both.0)
      ∙ sym (looked t u u_typed d are.0) ∙ ap (look_up u) (sym e))
      (λ apart. same_at f cs bs are.1 un.1 both.1 c (λ m. off (apart, m)))
  same_at f (d ∷ cs) (false ∷ bs) are un h c off =
      one_or_two c d (look_up s c ≡ look_up u c)
      (λ e. ap (look_up s) e ∙ (un.0 refl).1 ∙ sym (un.0 refl).0 ∙ ap (look_up u) (sym e))
      (λ apart. same_at f cs bs are.1 un.1 h c (λ m. off (apart, m)))

  all_at : (cs : List CellName) (bs : List Bool) → AreCells t cs → SameState t s u
      → are_same (pairs_of cs bs) ≡ true
  all_at [] [] are h = refl
  all_at [] (b ∷ bs) are h = refl
  all_at (c ∷ cs) [] are h = refl
  all_at (c ∷ cs) (true ∷ bs) are h =
      and_from (same_value (looks s c) (looks u c)) (are_same (pairs_of cs bs))
      (subst (λ v. same_value (looks s c) v ≡ true) (ap or_filler (h c are.0)) (same_self (looks s c)))
      (all_at cs bs are.1 h)
  all_at (c ∷ cs) (false ∷ bs) are h = all_at cs bs are.1 h

same_both : (v w : Value) → v ≡ w → same_value v w ≡ true
same_both v w e = subst (λ x. same_value v x ≡ true) e (same_self v)

-- u is what ba left, s what ab left
pub last_ran : (t : Tables) (f : Store) (v w x y : Value) (s u : Store) (l : Touched) (log : List ℕ) → Good t f u s l
    → EndIs t f (BothReplied (outcomes v w s x y u) l log) (told (looks f) log l.cells (last_comparison
    ((v, y) ∷ (w, x) ∷ finals l.written (map (looks s) l.cells) (map (looks u) l.cells))))
last_ran t f v w x y s u l log good =
    subst (EndIs t f (BothReplied (outcomes v w s x y u) l log)) (sym (last_told (looks f) all log l.cells)) (record {
      path = ap (λ xs. log ++ inspection_logged v y (inspection_logged w x xs))
          (sym (finals_logged t s u good.other_typed good.this_typed l.cells l.written good.cells));
      cells = refl;
      commutes = (
        (λ h. and_from (same_value v y) (same_value w x && are_same written) (same_both v y h.0)
            (and_from (same_value w x) (are_same written) (same_both w x h.1)
            (all_at t s u good.other_typed good.this_typed l.cells l.written good.cells h.2))),
        (λ h.
            let one = and_parts (same_value v y) (same_value w x && are_same written) h in
            let two = and_parts (same_value w x) (are_same written) one.1 in (
              same_equal v y one.0,
              same_equal w x two.0,
              (λ c cell.
                  same_at t s u good.other_typed good.this_typed f l.cells l.written good.cells good.unwritten two.1 c
                  (λ m. good.other c m ∙ sym (good.this c m))),
            )),
      );
      met = good.met;
    })
  where
    written : List Both
    written = finals l.written (map (looks s) l.cells) (map (looks u) l.cells)

    all : List Both
    all = (v, y) ∷ (w, x) ∷ written
