-- What the ending of a run says of its status.
use Rattle.std.proofs.Common.{arith, ◌≡◌, ◌⊎◌, ◌<◌, ℕ, List, [], ◌∷◌, length, Option, inl, inr, sym, subst}
use Rattle.cm_io.specs.Causes.{Rose}
use Rattle.cm_words.specs.Tasks.{IsTaskOf}
use Rattle.cm_words.specs.declared.task.Task.{Task}
use Rattle.cm_words.specs.declared.task.Task.TheVariants.{Judge, Posix}
use Rattle.cm_top.specs.Endings.{HasRisen, IsAnswered, IsCutShort, IsEnding, IsEndingOn, IsTooLong, Outside, status_of}
use Rattle.cm_top.specs.Fetch.{OfFile}
use Rattle.cm_top.specs.Files.{AreHeld, AreWithin, Input, OfFiles, SomeInput}
use Rattle.cm_top.specs.Judging.{IsRefusedAt}
use Rattle.cm_top.specs.Output.{IsEnd}
use Rattle.cm_top.specs.Tasks.{Accepts, IsWanted, inputs_of}
use Rattle.cm_top.specs.declared.outcome.Outcome.{Outcome}
use Rattle.cm_top.specs.declared.outcome.Outcome.TheVariants as ends
use Rattle.cm_top.specs.declared.status.Status.{Status}
use Rattle.cm_top.specs.declared.status.Status.TheVariants as status
use Rattle.cm_top.proofs.Judgements.{of_file_map}

-- the files are not too long, and not what the task reads
abbrev pub AreRefused : Task → List (List ℕ) → Type 0
AreRefused task files = AreWithin (inputs_of task) files × ¬ Accepts task files

some_map : (P Q : Input → Type 0) → ((i : Input) → P i → Q i) → (inputs : List Input) → SomeInput P inputs
    → SomeInput Q inputs
some_map P Q f [] some = some
some_map P Q f (i ∷ is) (inl p) = inl (f i p)
some_map P Q f (i ∷ is) (inr some) = inr (some_map P Q f is some)

-- what the task reads is wanted of nothing else
pub wanted_accepts : (task : Task) (files pieces : List (List ℕ)) (end : Status) → IsWanted task files pieces end
    → Accepts task files
wanted_accepts (Judge file) [] pieces end is = is
wanted_accepts (Judge file) (bytes ∷ []) pieces end is = (is.0, is.2)
wanted_accepts (Judge file) (bytes ∷ more ∷ files) pieces end is = is
wanted_accepts Posix files pieces end is = tt

-- a trace that was refused is no trace
refuses : (task : Task) (held : List ℕ → Option (Option (List ℕ))) (file : List ℕ) (line : ℕ) → task ≡ Judge file
    → OfFile (held file) (IsRefusedAt line) → OfFiles held (inputs_of task) (AreRefused task)
refuses task held file line is told =
    subst (λ t. OfFiles held (inputs_of t) (AreRefused t)) (sym is)
    (of_file_map (held file) (IsRefusedAt line) (λ bytes. AreRefused (Judge file) (bytes ∷ []))
    (λ bytes r. ((r.0, tt), (λ accepted. r.1 accepted.0 accepted.1))) told)

-- told files are those of which it is said
pub of_held : (held : List ℕ → Option (Option (List ℕ))) (inputs : List Input) (files : List (List ℕ))
    (P : List (List ℕ) → Type 0) → AreHeld held inputs files → OfFiles held inputs P → P files
of_held held [] [] P are of = of
of_held held [] (bytes ∷ files) P are of = absurd are
of_held held (i ∷ is) [] P are of = absurd are
of_held held (i ∷ is) (bytes ∷ files) P are of =
    of_held held is files (λ rest. P (bytes ∷ rest)) are.1
    (subst (λ t. OfFile t (λ b. OfFiles held is (λ rest. P (b ∷ rest)))) are.0 of)

-- a file that is too long is not within
pub not_long : (held : List ℕ → Option (Option (List ℕ))) (inputs : List Input) (files : List (List ℕ))
    → AreHeld held inputs files → AreWithin inputs files → ¬ SomeInput (IsTooLong held) inputs
not_long held [] files are within long = long
not_long held (i ∷ is) [] are within long = are
not_long held (i ∷ is) (bytes ∷ files) are within (inl long) =
    let over : i.most < length bytes = subst (λ t. OfFile t (λ b. i.most < length b)) are.0 long in
    omega (arith, over, within.0)
not_long held (i ∷ is) (bytes ∷ files) are within (inr long) = not_long held is files are.1 within.1 long

-- a file could not be read
pub read_fault : (task : Task) (o : Outside) (outcome : Outcome) → IsEnding task o outcome
    → status_of outcome ≡ status.ReadFault
    → SomeInput (HasRisen o) (inputs_of task) × (o.new ≡ o.old)
read_fault task o ends.Done ended is = let no : ⊥ = cc in absurd no
read_fault task o ends.Conflicts ended is = let no : ⊥ = cc in absurd no
read_fault task o ends.Usage ended is = let no : ⊥ = cc in absurd no
read_fault task o (ends.ReadFault file) ended is = (some_map _ _ (λ i p. p.1) (inputs_of task) ended.0, ended.1)
read_fault task o (ends.TooLong file) ended is = let no : ⊥ = cc in absurd no
read_fault task o (ends.BadTraceLine file line) ended is = let no : ⊥ = cc in absurd no
read_fault task o ends.WriteFault ended is = let no : ⊥ = cc in absurd no
read_fault task o ends.Memory ended is = let no : ⊥ = cc in absurd no

-- a file is too long
pub too_long : (task : Task) (o : Outside) (outcome : Outcome) → IsEnding task o outcome
    → status_of outcome ≡ status.TooLong
    → SomeInput (IsTooLong o.held) (inputs_of task) × (o.new ≡ o.old)
too_long task o ends.Done ended is = let no : ⊥ = cc in absurd no
too_long task o ends.Conflicts ended is = let no : ⊥ = cc in absurd no
too_long task o ends.Usage ended is = let no : ⊥ = cc in absurd no
too_long task o (ends.ReadFault file) ended is = let no : ⊥ = cc in absurd no
too_long task o (ends.TooLong file) ended is = (some_map _ _ (λ i p. p.1) (inputs_of task) ended.0, ended.1)
too_long task o (ends.BadTraceLine file line) ended is = let no : ⊥ = cc in absurd no
too_long task o ends.WriteFault ended is = let no : ⊥ = cc in absurd no
too_long task o ends.Memory ended is = let no : ⊥ = cc in absurd no

-- a file is not what the task reads
pub refused : (task : Task) (o : Outside) (outcome : Outcome) → IsEnding task o outcome
    → status_of outcome ≡ status.Refused
    → OfFiles o.held (inputs_of task) (AreRefused task) × (o.new ≡ o.old)
refused task o ends.Done ended is = let no : ⊥ = cc in absurd no
refused task o ends.Conflicts ended is = let no : ⊥ = cc in absurd no
refused task o ends.Usage ended is = let no : ⊥ = cc in absurd no
refused task o (ends.ReadFault file) ended is = let no : ⊥ = cc in absurd no
refused task o (ends.TooLong file) ended is = let no : ⊥ = cc in absurd no
refused task o (ends.BadTraceLine file line) ended is = (refuses task o.held file.now line ended.0 ended.1, ended.2)
refused task o ends.WriteFault ended is = let no : ⊥ = cc in absurd no
refused task o ends.Memory ended is = let no : ⊥ = cc in absurd no

-- the output could not be written
pub write_fault : (task : Task) (o : Outside) (outcome : Outcome) → IsEnding task o outcome
    → status_of outcome ≡ status.WriteFault
    → Rose o.put_before o.put_now × OfFiles o.held (inputs_of task) (IsCutShort task o.old o.new)
write_fault task o ends.Done ended is = let no : ⊥ = cc in absurd no
write_fault task o ends.Conflicts ended is = let no : ⊥ = cc in absurd no
write_fault task o ends.Usage ended is = let no : ⊥ = cc in absurd no
write_fault task o (ends.ReadFault file) ended is = let no : ⊥ = cc in absurd no
write_fault task o (ends.TooLong file) ended is = let no : ⊥ = cc in absurd no
write_fault task o (ends.BadTraceLine file line) ended is = let no : ⊥ = cc in absurd no
write_fault task o ends.WriteFault ended is = ended
write_fault task o ends.Memory ended is = let no : ⊥ = cc in absurd no

-- memory ran out
pub memory : (task : Task) (o : Outside) (outcome : Outcome) → IsEnding task o outcome
    → status_of outcome ≡ status.Memory
    → (o.new ≡ o.old) ⊎ OfFiles o.held (inputs_of task) (IsCutShort task o.old o.new)
memory task o ends.Done ended is = let no : ⊥ = cc in absurd no
memory task o ends.Conflicts ended is = let no : ⊥ = cc in absurd no
memory task o ends.Usage ended is = let no : ⊥ = cc in absurd no
memory task o (ends.ReadFault file) ended is = let no : ⊥ = cc in absurd no
memory task o (ends.TooLong file) ended is = let no : ⊥ = cc in absurd no
memory task o (ends.BadTraceLine file line) ended is = let no : ⊥ = cc in absurd no
memory task o ends.WriteFault ended is = let no : ⊥ = cc in absurd no
memory task o ends.Memory ended is = ended

-- a task is no faulty command line
pub usage : (task : Task) (o : Outside) (outcome : Outcome) → IsEnding task o outcome → status_of outcome ≡ status.Usage
    → ⊥
usage task o ends.Done ended is = let no : ⊥ = cc in absurd no
usage task o ends.Conflicts ended is = let no : ⊥ = cc in absurd no
usage task o ends.Usage ended is = ended
usage task o (ends.ReadFault file) ended is = let no : ⊥ = cc in absurd no
usage task o (ends.TooLong file) ended is = let no : ⊥ = cc in absurd no
usage task o (ends.BadTraceLine file line) ended is = let no : ⊥ = cc in absurd no
usage task o ends.WriteFault ended is = let no : ⊥ = cc in absurd no
usage task o ends.Memory ended is = let no : ⊥ = cc in absurd no

-- no outcome is Over
pub over : (outcome : Outcome) → ¬ (status_of outcome ≡ status.Over)
over ends.Done is = cc
over ends.Conflicts is = cc
over ends.Usage is = cc
over (ends.ReadFault file) is = cc
over (ends.TooLong file) is = cc
over (ends.BadTraceLine file line) is = cc
over ends.WriteFault is = cc
over ends.Memory is = cc

-- the task was answered
pub answered : (task : Task) (o : Outside) (outcome : Outcome) → IsEnding task o outcome → IsEnd (status_of outcome)
    → OfFiles o.held (inputs_of task) (IsAnswered task o.old o.new (status_of outcome))
answered task o ends.Done ended end = ended
answered task o ends.Conflicts ended end = ended
answered task o ends.Usage ended (inl is) = let no : ⊥ = cc in absurd no
answered task o ends.Usage ended (inr is) = let no : ⊥ = cc in absurd no
answered task o (ends.ReadFault file) ended (inl is) = let no : ⊥ = cc in absurd no
answered task o (ends.ReadFault file) ended (inr is) = let no : ⊥ = cc in absurd no
answered task o (ends.TooLong file) ended (inl is) = let no : ⊥ = cc in absurd no
answered task o (ends.TooLong file) ended (inr is) = let no : ⊥ = cc in absurd no
answered task o (ends.BadTraceLine file line) ended (inl is) = let no : ⊥ = cc in absurd no
answered task o (ends.BadTraceLine file line) ended (inr is) = let no : ⊥ = cc in absurd no
answered task o ends.WriteFault ended (inl is) = let no : ⊥ = cc in absurd no
answered task o ends.WriteFault ended (inr is) = let no : ⊥ = cc in absurd no
answered task o ends.Memory ended (inl is) = let no : ⊥ = cc in absurd no
answered task o ends.Memory ended (inr is) = let no : ⊥ = cc in absurd no

-- the ending of the words' task, whichever is meant
pub with_task : (words : List (List ℕ)) (o : Outside) (outcome : Outcome) → IsEndingOn words o outcome
    → (task : Task) → IsTaskOf words task → IsEnding task o outcome
with_task words o outcome (inl none) task is = absurd (none.1 task is)
with_task words o outcome (inr (inl memory)) task is = subst (IsEnding task o) (sym memory.0) (inl memory.1)
with_task words o outcome (inr (inr ended)) task is = subst (λ t. IsEnding t o outcome) (sym (ended.2 task is)) ended.3
