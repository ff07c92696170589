-- What a chain still asks, stage by stage.
use Rattle.std.proofs.Common.{◌≡◌, ◌<◌, ◌≤◌, ℕ, Option, Some, None, List, [], length, sym, ap, ◌∙◌, subst}
use Rattle.cm_model.specs.Limits.{cell_limit}
use Rattle.cm_model.specs.Tables.{Tables}
use Rattle.cm_term.specs.declared.question.Question.{Question}
use Rattle.cm_term.specs.declared.term.Term.{Term}
use Rattle.cm_cells.specs.CellTable.{CellTable, Place}
use Rattle.cm_ctx.specs.declared.piece.Counts.{Counts}
use Rattle.cm_ctx.specs.declared.piece.Piece.{Piece}
use Rattle.cm_story.specs.Tale.{Asks, Needs, Ends}
use Rattle.cm_exec.specs.declared.compare.Next.TheVariants as next
use Rattle.cm_exec.specs.declared.run.Ask.TheVariants as met
use Rattle.cm_exec.specs.declared.run.Run.{Run}
use Rattle.cm_exec.specs.Settling as settle
use Rattle.cm_exec.specs.Settling.{Settling}
use Rattle.cm_exec.specs.Run.{Telling, asked, settled}
use Rattle.cm_exec.specs.Running.{telling, told_after, Turned}
use Rattle.cm_beside.specs.declared.verdict.Verdict.TheVariants as verdict
use Rattle.cm_beside.specs.Beside.{PairTale, followed_by, settles}
use Rattle.cm_beside.specs.Nodes.{after}
use Rattle.cm_beside.specs.Standing.{beyond}
use Rattle.cm_beside.proofs.Standing.{settled_beyond}
use Rattle.cm_chain.specs.declared.chain.Ask.{Ask}
use Rattle.cm_chain.specs.declared.chain.Chain.{Chain}
use Rattle.cm_chain.specs.declared.chain.Calls.{Calls}
use Rattle.cm_chain.specs.declared.chain.Replies.{Replies}
use Rattle.cm_chain.specs.declared.chain.Stage.{Stage}
use Rattle.cm_chain.specs.declared.chain.Stage.TheVariants as stage
use Rattle.cm_chain.specs.Chains.{behind, at_stage, left, told, HasCode, IsAskedAt, HasMet, HasSettled}
use Rattle.cm_chain.specs.Chains.{GoOnAlike, Moved, FallsIf, stages_left}

module _ (t : Tables) (c : Calls) (k : Replies) (ps : List Term) where
  -- a run that has replied
  pub replied : (s : Stage) (cs : CellTable) (v : Term) → HasCode t s → HasMet t (met.Reply v) s cs
      → at_stage t c ps k s cs ≡ behind t c ps k v cs
  replied (stage.Runs r) cs v code h = ap (λ x. followed_by x (behind t c ps k)) (h.0 ps code)
  replied (stage.Compares e) cs v code h = absurd h
  replied (stage.Ended w) cs v code h = absurd h

  pub blocked : (s : Stage) (cs : CellTable) → HasCode t s → HasMet t met.Blocked s cs
      → at_stage t c ps k s cs ≡ Ends verdict.Never
  blocked (stage.Runs r) cs code h = ap (λ x. followed_by x (behind t c ps k)) (h.0 ps code)
  blocked (stage.Compares e) cs code h = absurd h
  blocked (stage.Ended w) cs code h = absurd h

  pub needs : (s : Stage) (cs : CellTable) → HasCode t s → HasMet t met.Cells s cs
      → (p : Place) × (f : Term → PairTale) × (at_stage t c ps k s cs ≡ Needs p f)
  needs (stage.Runs r) cs code h =
      let m = h.0 ps code in
      (m.1, λ x. followed_by (m.2 x) (behind t c ps k), ap (λ x. followed_by x (behind t c ps k)) m.3)
  needs (stage.Compares e) cs code h = absurd h
  needs (stage.Ended w) cs code h = absurd h

  -- a comparison that has ended
  pub unequal : (s : Stage) (cs : CellTable) → HasSettled next.Unequal s → at_stage t c ps k s cs ≡ Ends verdict.Never
  unequal (stage.Compares e) cs h = ap (settles cs) (h.0 ps)
  unequal (stage.Runs r) cs h = absurd h
  unequal (stage.Ended w) cs h = absurd h

  pub equal_if : (s : Stage) (cs : CellTable) (es : List _) → HasSettled (next.Needs es) s
      → at_stage t c ps k s cs ≡ Ends (verdict.If es)
  equal_if (stage.Compares e) cs es h = ap (settles cs) (h.0 ps)
  equal_if (stage.Runs r) cs es h = absurd h
  equal_if (stage.Ended w) cs es h = absurd h

  -- a question that is open
  pub asks : (s : Stage) (cs : CellTable) (q : Question) → HasCode t s → IsAskedAt t q s cs
      → at_stage t c ps k s cs ≡ Asks (asked q cs) (told (at_stage t c ps k s cs))
  asks (stage.Runs r) cs q code h =
      let e = h.1 ps code in
      ap (λ x. followed_by x (behind t c ps k)) e
      ∙ ap (λ x. Asks (asked q cs) (told (followed_by x (behind t c ps k)))) (sym e)
  asks (stage.Compares e) cs q code h =
      let f = h.1 ps in
      ap (settles cs) f ∙ ap (λ x. Asks (asked q cs) (told (settles cs x))) (sym f)
  asks (stage.Ended w) cs q code h = absurd h

  -- the outcome of a run's question, and of one of the last comparison
  pub told_run : (r s : Run) (cs : CellTable) (q : Question) (d : ℕ)
      → telling t ps r cs ≡ Asks (asked q cs) (told_after (telling t ps r cs))
      → telling t ps s cs ≡ told_after (telling t ps r cs) d
      → followed_by (telling t ps s cs) (behind t c ps k) ≡ told (followed_by (telling t ps r cs) (behind t c ps k)) d
  told_run r s cs q d e f =
      ap (λ x. followed_by x (behind t c ps k)) f
      ∙ ap (λ x. told (followed_by x (behind t c ps k)) d) (sym e)

-- as many cells as a path may touch
pub limit_met : (t : Tables) (s : Stage) (cs : CellTable) → HasCode t s → HasMet t met.Cells s cs
    → cell_limit ≤ length cs.places
limit_met t (stage.Runs r) cs code h = (h.0 [] code).0
limit_met t (stage.Compares e) cs code h = absurd h
limit_met t (stage.Ended w) cs code h = absurd h

pub told_settling : (cs : CellTable) (s u : Settling) (q : Question) (d : ℕ)
    → s ≡ settle.Asks q (settle.settling_after s) → u ≡ settle.settling_after s d
    → settles cs u ≡ told (settles cs s) d
told_settling cs s u q d e f = ap (settles cs) f ∙ ap (λ x. told (settles cs x) d) (sym e)

-- another run goes on in the place of one
pub falls_same : (a : Option Ask) (x y : Chain) (r s : Run) → x.stage ≡ stage.Runs r
    → FallsIf a (record x { stage = stage.Runs s }) y → FallsIf a x y
falls_same (Some a) x y r s is h = tt
falls_same None x y r s is h =
    subst (λ z. stages_left y.replies y.stage < stages_left x.replies z) (sym is) h

module _ (t : Tables) where
  pub alike_same : (places : List Place) (c : Counts) (s u : PairTale) → s ≡ u → GoOnAlike t places c s places c u
  alike_same places c s u e = record {
    alike = λ facts more. ap (λ x. beyond facts places (after t x c (length places) more)) e;
  }

  pub alike_on : (one two three : List Place) (c d f : Counts) (s u v : PairTale) → GoOnAlike t one c s two d u
      → GoOnAlike t two d u three f v → GoOnAlike t one c s three f v
  alike_on one two three c d f s u v g h = record { alike = λ facts more. g.alike facts more ∙ h.alike facts more }

  -- a run that has gone on, and what comes behind it
  pub alike_run : (K : Term → CellTable → PairTale) (old new : List Place) (c d : Counts) (before later : List Piece)
      (s u : Telling) → settled t old c before s ≡ settled t new d later u
      → GoOnAlike t old c (followed_by s K) new d (followed_by u K)
  alike_run K old new c d before later s u e = record {
    alike = λ facts more.
        settled_beyond t s K old c before facts more
        ∙ ap (λ x. beyond facts x.places (after t (followed_by x.rest K) x.counts (length x.places) more)) e
        ∙ sym (settled_beyond t u K new d later facts more);
  }

  -- a run has gone on, and then the chain
  pub moved_by_run : (x : Chain) (r s : Run) (cs ds : CellTable) (c d : Counts) (before later : List Piece) (y : Chain)
      (es : CellTable) → x.stage ≡ stage.Runs r → HasCode t x.stage → Turned t r cs c before s ds d later
      → ((ps : List Term) → at_stage t x.calls ps x.replies (stage.Runs s) ds ≡ left t ps y es) → es.places ≡ ds.places
      → Moved t x cs c y es d later
  moved_by_run x r s cs ds c d before later y es is code turned next same ps extends =
      alike_on cs.places cs.places es.places c c d (left t ps x cs) (followed_by (telling t ps r cs) K) (left t ps y es)
      (alike_same cs.places c _ _ (ap (λ z. at_stage t x.calls ps x.replies z cs) is))
      (alike_on cs.places ds.places es.places c d d (followed_by (telling t ps r cs) K) (followed_by (telling t ps s ds) K)
      (left t ps y es)
      (alike_run K cs.places ds.places c d before later (telling t ps r cs) (telling t ps s ds)
      (turned ps (subst (HasCode t) is code) extends))
      (subst (λ qs. GoOnAlike t ds.places d (followed_by (telling t ps s ds) K) qs d (left t ps y es)) (sym same)
      (alike_same ds.places d _ _ (next ps))))
    where
      K : Term → CellTable → PairTale
      K = behind t x.calls ps x.replies
