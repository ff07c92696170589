-- What is met along a story, gathered from what was before it, and with two look-ups that agree.
use Rattle.std.proofs.Common.{◌≡◌, ℕ, Bool, List, [], ◌∷◌, ◌++◌, refl, sym, ap, ◌∙◌, append_assoc}
use Rattle.std.proofs.lemmas.List.{append-nil}
use Rattle.cm_eval.specs.declared.log.CellName.{CellName}
use Rattle.cm_story.specs.Tale.{Asks, Needs, Ends}
use Rattle.cm_story.specs.Story.{Story}
use Rattle.cm_story.specs.Following.{Look, path_in, cells_in, end_in}

-- what a story told: its decisions, the touched cells, whether the world commutes
pub record Told : Type 0 where
  pub path : List ℕ
  pub cells : List CellName
  pub commutes : Bool

abbrev pub told_as : List ℕ → List CellName → Bool → Told
told_as log cs b = record { path = log; cells = cs; commutes = b }

-- after what was before
abbrev pub told : Look → List ℕ → List CellName → Story → Told
told o log cs (Asks d k) = told o (log ++ d ∷ []) cs (k d)
told o log cs (Needs c k) = told o log (cs ++ c ∷ []) (k (o c))
told o log cs (Ends b) = told_as log cs b

pub told_is : (o : Look) (s : Story) (log : List ℕ) (cs : List CellName)
    → told o log cs s ≡ told_as (log ++ path_in o s) (cs ++ cells_in o s) (end_in o s)
told_is o (Asks d k) log cs =
    told_is o (k d) (log ++ d ∷ []) cs
    ∙ ap (λ l. told_as l (cs ++ cells_in o (k d)) (end_in o (k d))) (append_assoc log (d ∷ []) (path_in o (k d)))
told_is o (Needs c k) log cs =
    told_is o (k (o c)) log (cs ++ c ∷ [])
    ∙ ap (λ l. told_as (log ++ path_in o (k (o c))) l (end_in o (k (o c)))) (append_assoc cs (c ∷ [])
    (cells_in o (k (o c))))
told_is o (Ends b) log cs =
    sym (ap (λ l. told_as l (cs ++ []) b) (append-nil log) ∙ ap (λ l. told_as log l b) (append-nil cs))

-- two look-ups say the same of these cells
abbrev pub AgreeAt : Look → Look → List CellName → Type 0
AgreeAt o u [] = Unit {0}
AgreeAt o u (c ∷ cs) = (o c ≡ u c) × AgreeAt o u cs

pub record SameStory (o u : Look) (s : Story) : Type 0 where
  pub path : path_in o s ≡ path_in u s
  pub cells : cells_in o s ≡ cells_in u s
  pub end : end_in o s ≡ end_in u s

-- what is met depends on nothing but the first values of the cells that are touched
pub agreeing : (o u : Look) (s : Story) → AgreeAt o u (cells_in o s) → SameStory o u s
agreeing o u (Asks d k) h =
    let r = agreeing o u (k d) h in
    record { path = ap (λ l. d ∷ l) r.path; cells = r.cells; end = r.end }
agreeing o u (Needs c k) h =
    let r = agreeing o u (k (o c)) h.1 in
    record {
      path = r.path ∙ ap (λ v. path_in u (k v)) h.0;
      cells = ap (λ l. c ∷ l) r.cells ∙ ap (λ v. c ∷ cells_in u (k v)) h.0;
      end = r.end ∙ ap (λ v. end_in u (k v)) h.0;
    }
agreeing o u (Ends b) h = record { path = refl; cells = refl; end = refl }
