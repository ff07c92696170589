-- What the status of a run on words says.
use Rattle.std.proofs.Common.{◌≡◌, ◌⊎◌, ℕ, List, inl, inr, refl, sym, subst, ◌∙◌}
use Rattle.cm_io.specs.Causes.{Rose}
use Rattle.cm_words.specs.Tasks.{HasNoTask, IsTaskOf}
use Rattle.cm_words.specs.declared.task.Task.{Task}
use Rattle.cm_top.specs.Endings.{HasRisen, IsAnswered, IsCutShort, IsEndingOn, IsQuiet, IsTooLong, Outside, status_of}
use Rattle.cm_top.specs.Files.{AreHeld, AreWithin, OfFiles, SomeInput}
use Rattle.cm_top.specs.Output.{IsEnd}
use Rattle.cm_top.specs.Tasks.{Accepts, inputs_of}
use Rattle.cm_top.specs.declared.outcome.Outcome.{Outcome}
use Rattle.cm_top.specs.declared.outcome.Outcome.TheVariants as ends
use Rattle.cm_top.specs.declared.status.Status.{Status}
use Rattle.cm_top.specs.declared.status.Status.TheVariants as status
use Rattle.cm_top.proofs.Endings as ending

-- a run on words that ended with this status
pub record Ran (words : List (List ℕ)) (o : Outside) (end : Status) : Type 0 where
  pub outcome : Outcome
  pub is : end ≡ status_of outcome
  pub ended : IsEndingOn words o outcome

pub ran_of : {words : List (List ℕ)} {o : Outside} {end : Status} (outcome : Outcome) → end ≡ status_of outcome
    → IsEndingOn words o outcome → Ran words o end
ran_of outcome is ended = record { outcome = outcome; is = is; ended = ended }

module _ {words : List (List ℕ)} {o : Outside} {end : Status} (ran : Ran words o end) where
  pub answered : (task : Task) → IsTaskOf words task → IsEnd end
      → OfFiles o.held (inputs_of task) (IsAnswered task o.old o.new end)
  answered task t fin =
      subst (λ s. OfFiles o.held (inputs_of task) (IsAnswered task o.old o.new s)) (sym ran.is)
      (ending.answered task o ran.outcome (ending.with_task words o ran.outcome ran.ended task t)
      (subst IsEnd ran.is fin))

  pub read_fault : (task : Task) → IsTaskOf words task → end ≡ status.ReadFault
      → SomeInput (HasRisen o) (inputs_of task) × (o.new ≡ o.old)
  read_fault task t e = ending.read_fault task o ran.outcome (ending.with_task words o ran.outcome ran.ended task t)
      (sym ran.is ∙ e)

  pub too_long : (task : Task) → IsTaskOf words task → end ≡ status.TooLong
      → SomeInput (IsTooLong o.held) (inputs_of task) × (o.new ≡ o.old)
  too_long task t e = ending.too_long task o ran.outcome (ending.with_task words o ran.outcome ran.ended task t)
      (sym ran.is ∙ e)

  pub refused : (task : Task) → IsTaskOf words task → end ≡ status.Refused
      → OfFiles o.held (inputs_of task) (ending.AreRefused task) × (o.new ≡ o.old)
  refused task t e = ending.refused task o ran.outcome (ending.with_task words o ran.outcome ran.ended task t)
      (sym ran.is ∙ e)

  pub write_fault : (task : Task) → IsTaskOf words task → end ≡ status.WriteFault
      → Rose o.put_before o.put_now × OfFiles o.held (inputs_of task) (IsCutShort task o.old o.new)
  write_fault task t e = ending.write_fault task o ran.outcome (ending.with_task words o ran.outcome ran.ended task t)
      (sym ran.is ∙ e)

  pub memory : (task : Task) → IsTaskOf words task → end ≡ status.Memory
      → (o.new ≡ o.old) ⊎ OfFiles o.held (inputs_of task) (IsCutShort task o.old o.new)
  memory task t e = ending.memory task o ran.outcome (ending.with_task words o ran.outcome ran.ended task t)
      (sym ran.is ∙ e)

  pub no_usage : (task : Task) → IsTaskOf words task → ¬ (end ≡ status.Usage)
  no_usage task t e = ending.usage task o ran.outcome (ending.with_task words o ran.outcome ran.ended task t)
      (sym ran.is ∙ e)

  pub no_over : ¬ (end ≡ status.Over)
  no_over e = ending.over ran.outcome (sym ran.is ∙ e)

  -- a run that had no task to run ended with Usage or Memory
  early : (P : Type 0) → (end ≡ status.Usage → HasNoTask words → o.new ≡ o.old → P)
      → (end ≡ status.Memory → o.new ≡ o.old → P)
      → ((task : Task) → IsTaskOf words task → P) → P
  early P none short run = elim ran.ended [
    | inl usage ↦ none (ran.is ∙ (λ i. status_of (usage.0 i))) usage.1 usage.2
    | inr (inl no_room) ↦ short (ran.is ∙ (λ i. status_of (no_room.0 i))) no_room.1
    | inr (inr ended) ↦ run ended.0 ended.1
  ]

  pub usage : end ≡ status.Usage → HasNoTask words
  usage e = early (HasNoTask words) (λ s none same. none) (λ s same. let no : ⊥ = cc in absurd no)
      (λ task t. absurd (no_usage task t e))

  pub no_command : HasNoTask words → (end ≡ status.Usage) ⊎ (end ≡ status.Memory)
  no_command none = early _ (λ s is_none same. inl s) (λ s same. inr s) (λ task t. absurd (none task t))

  pub put_fails : end ≡ status.WriteFault → Rose o.put_before o.put_now
  put_fails e = early _ (λ s none same. let no : ⊥ = cc in absurd no) (λ s same. let no : ⊥ = cc in absurd no)
      (λ task t. (write_fault task t e).0)

  quiet_at : (task : Task) → IsTaskOf words task → IsQuiet end → o.new ≡ o.old
  quiet_at task t (inl e) = absurd (no_usage task t e)
  quiet_at task t (inr (inl e)) = (read_fault task t e).1
  quiet_at task t (inr (inr (inl e))) = (too_long task t e).1
  quiet_at task t (inr (inr (inr e))) = (refused task t e).1

  pub quiet : IsQuiet end → o.new ≡ o.old
  quiet q = early _ (λ s none same. same) (λ s same. same) (λ task t. quiet_at task t q)

-- each status that a run can have
status_cases : (end : Status) (P : Type 0) → (IsEnd end → P) → (end ≡ status.Refused → P) → (end ≡ status.Usage → P)
    → (end ≡ status.ReadFault → P) → (end ≡ status.WriteFault → P) → (end ≡ status.Memory → P) → (end ≡ status.Over → P)
    → (end ≡ status.TooLong → P) → P
status_cases status.Done P e r u f w m o t = e (inl refl)
status_cases status.Conflicts P e r u f w m o t = e (inr refl)
status_cases status.Refused P e r u f w m o t = r refl
status_cases status.Usage P e r u f w m o t = u refl
status_cases status.ReadFault P e r u f w m o t = f refl
status_cases status.WriteFault P e r u f w m o t = w refl
status_cases status.Memory P e r u f w m o t = m refl
status_cases status.Over P e r u f w m o t = o refl
status_cases status.TooLong P e r u f w m o t = t refl

-- a run on files that are told, none of which could not be read
module _ {words : List (List ℕ)} {o : Outside} {end : Status} (ran : Ran words o end) (task : Task)
    (files : List (List ℕ))
    (t : IsTaskOf words task) (held : AreHeld o.held (inputs_of task) files)
    (calm : ¬ SomeInput (HasRisen o) (inputs_of task)) where
  of : (P : List (List ℕ) → Type 0) → OfFiles o.held (inputs_of task) P → P files
  of P = ending.of_held o.held (inputs_of task) files P held

  pub long : ¬ AreWithin (inputs_of task) files → (end ≡ status.TooLong) ⊎ (end ≡ status.Memory)
  long over = status_cases end _
      (λ s. absurd (over (of _ (answered ran task t s)).0))
      (λ s. absurd (over (of _ (refused ran task t s).0).0))
      (λ s. absurd (no_usage ran task t s))
      (λ s. absurd (calm (read_fault ran task t s).0))
      (λ s. absurd (over (of _ (write_fault ran task t s).1).0))
      (λ s. inr s)
      (λ s. absurd (no_over ran s))
      (λ s. inl s)

  pub not_accepted : AreWithin (inputs_of task) files → ¬ Accepts task files
      → (end ≡ status.Refused) ⊎ (end ≡ status.Memory)
  not_accepted within none = status_cases end _
      (λ s. let a = of _ (answered ran task t s) in absurd (none (ending.wanted_accepts task files a.1 end a.2)))
      (λ s. inl s)
      (λ s. absurd (no_usage ran task t s))
      (λ s. absurd (calm (read_fault ran task t s).0))
      (λ s. let a = of _ (write_fault ran task t s).1 in absurd (none (ending.wanted_accepts task files a.2 a.1 a.3)))
      (λ s. inr s)
      (λ s. absurd (no_over ran s))
      (λ s. absurd (ending.not_long o.held (inputs_of task) files held within (too_long ran task t s).0))

  pub complete : AreWithin (inputs_of task) files → Accepts task files → ¬ Rose o.put_before o.put_now
      → IsEnd end ⊎ (end ≡ status.Memory)
  complete within accepted put = status_cases end _
      (λ s. inl s)
      (λ s. absurd ((of _ (refused ran task t s).0).1 accepted))
      (λ s. absurd (no_usage ran task t s))
      (λ s. absurd (calm (read_fault ran task t s).0))
      (λ s. absurd (put (write_fault ran task t s).0))
      (λ s. inr s)
      (λ s. absurd (no_over ran s))
      (λ s. absurd (ending.not_long o.held (inputs_of task) files held within (too_long ran task t s).0))

-- Usage is told of Usage alone
pub told_usage : {end : Status} (Told : Outcome → Type 0) (outcome : Outcome) → end ≡ status_of outcome → Told outcome
    → end ≡ status.Usage → Told ends.Usage
told_usage Told ends.Done is told e = let no : ⊥ = cc in absurd no
told_usage Told ends.Conflicts is told e = let no : ⊥ = cc in absurd no
told_usage Told ends.Usage is told e = told
told_usage Told (ends.ReadFault file) is told e = let no : ⊥ = cc in absurd no
told_usage Told (ends.TooLong file) is told e = let no : ⊥ = cc in absurd no
told_usage Told (ends.BadTraceLine file line) is told e = let no : ⊥ = cc in absurd no
told_usage Told ends.WriteFault is told e = let no : ⊥ = cc in absurd no
told_usage Told ends.Memory is told e = let no : ⊥ = cc in absurd no
