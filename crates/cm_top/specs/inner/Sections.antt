-- The sections of a trace that is being judged.
use Rattle.std.specs.Prelude.{◌≡◌, ℕ, List, [], ◌∷◌, ◌++◌, map, None, Some}
use Rattle.std.specs.declared.option.Option.{Option}
use Rattle.std.specs.List.{AllZip}
use Rattle.cm_judge.specs.Conflicts.{AreConflictLines}
use Rattle.cm_judge.specs.Judge.{StandsFor}
use Rattle.cm_mtrace.specs.Trace.{Section, items_of}
use Rattle.cm_mtrace.specs.declared.Entry.{Entry}
use Rattle.cm_mtrace.specs.declared.Item.{Item}
use Rattle.cm_mtrace.specs.declared.Item.TheVariants as items
use Rattle.cm_top.specs.declared.sections.Judged.{Judged}
use Rattle.cm_top.specs.declared.sections.Sections.{Sections}

-- sections that ended, each with its name and its conflict lines
abbrev pub AreJudged : List Section → List Judged → Type 0
AreJudged sections judged = AllZip (λ s j. (s.name ≡ j.name) × AreConflictLines s.entries j.lines) sections judged

-- all sections ended
abbrev pub AllEnded : Sections → List Item → Type 0
AllEnded s its =
    (sections : List Section) × (its ≡ items_of sections) × AreJudged sections s.ended.items × StandsFor s.judge []

-- the sections have these items: none so far, or some that ended and one whose entries the judge has
abbrev pub HaveFrom : Option (List ℕ) → Sections → List Item → Type 0
HaveFrom None s its = (its ≡ []) × (s.ended.items ≡ []) × StandsFor s.judge []
HaveFrom (Some name) s its =
    (sections : List Section) × (es : List Entry) × (its ≡ items_of sections ++ items.Test name ∷ map items.Entry es)
    × AreJudged sections s.ended.items × StandsFor s.judge es

abbrev pub Have : Sections → List Item → Type 0
Have s its = HaveFrom s.current s its
