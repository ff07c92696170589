-- The task of the words: a form and a line for each command.
use Rattle.std.specs.Prelude.{◌≡◌, List, [], ◌∷◌, Some, codes}
use Rattle.clap.specs.Words.{App, Text}
use Rattle.cm_words.specs.Forms.{IsTaken, form, positional, value_at}
use Rattle.cm_words.specs.declared.task.Task.{Task}
use Rattle.cm_words.specs.declared.task.Task.TheVariants.{Judge, Posix}

-- `judge FILE`
abbrev pub judge_form : App
judge_form = form (codes "judge") (positional (codes "FILE") ∷ [])

-- `posix`
abbrev pub posix_form : App
posix_form = form (codes "posix") []

-- the first word names the command, its form takes the others, and the task's parts are what they give
abbrev pub IsTaskOf : List Text → Task → Type 0
IsTaskOf [] task = ⊥
IsTaskOf (command ∷ words) (Judge file) =
    (command ≡ codes "judge") × IsTaken judge_form words × (value_at judge_form words (codes "FILE") ≡ Some file)
IsTaskOf (command ∷ words) Posix = (command ≡ codes "posix") × IsTaken posix_form words

-- the words are no command
abbrev pub HasNoTask : List Text → Type 0
HasNoTask words = (task : Task) → ¬ IsTaskOf words task
