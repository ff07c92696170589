-- One more item of a trace that is being judged.
use Rattle.std.proofs.Common.{◌≡◌, ℕ, List, [], ◌∷◌, ◌++◌, map, None, Some, Option, Result, Ok, Err, OnOk, ap, sym}
use Rattle.std.proofs.Common.{subst, refl, ◌∙◌, append_assoc}
use Rattle.std.proofs.lemmas.List.{append-nil, map-append}
use Rattle.std.proofs.lemmas.List.Concat.{flat_map-append}
use Rattle.cm_judge.specs.Conflicts.{AreConflictLines}
use Rattle.cm_judge.specs.Judge.{StandsFor}
use Rattle.cm_mtrace.specs.Trace.{Section, items_of}
use Rattle.cm_mtrace.specs.declared.Entry.{Entry}
use Rattle.cm_mtrace.specs.declared.Item.{Item}
use Rattle.cm_mtrace.specs.declared.Item.TheVariants as items
use Rattle.cm_top.specs.inner.Sections.{AreJudged, HaveFrom}
use Rattle.cm_top.specs.declared.sections.Judged.{Judged}
use Rattle.cm_top.specs.declared.sections.Sections.{Sections}

judged_push : (sections : List Section) (ended : List Judged) (s : Section) (j : Judged) → AreJudged sections ended
    → s.name ≡ j.name → AreConflictLines s.entries j.lines → AreJudged (sections ++ s ∷ []) (ended ++ j ∷ [])
judged_push [] [] s j all name lines = ((name, lines), tt)
judged_push [] (y ∷ ys) s j all name lines = absurd all
judged_push (x ∷ xs) [] s j all name lines = absurd all
judged_push (x ∷ xs) (y ∷ ys) s j all name lines = (all.0, judged_push xs ys s j all.1 name lines)

items_of-push : (sections : List Section) (s : Section)
    → items_of (sections ++ s ∷ []) ≡ items_of sections ++ (items.Test s.name ∷ map items.Entry s.entries)
items_of-push sections s = flat_map-append (λ x. items.Test x.name ∷ map items.Entry x.entries) sections (s ∷ []) ∙
    ap (λ l. items_of sections ++ (items.Test s.name ∷ l)) (append-nil (map items.Entry s.entries))

-- the section that is being read ends
pub section_ends : (s : Sections) (name lines : List ℕ) (its : List Item) → HaveFrom (Some name) s its
    → ((es : List Entry) → StandsFor s.judge es → AreConflictLines es lines)
    → (sections : List Section) × (its ≡ items_of sections)
    × AreJudged sections (s.ended.items ++ record { name = name; lines = lines } ∷ [])
section_ends s name lines its have conflicts =
    let last : Section = record { name = name; entries = have.1 } in (
      have.0 ++ last ∷ [],
      have.2 ∙
          sym (items_of-push have.0 last),
      judged_push have.0 s.ended.items last
          (record { name = name; lines = lines }) have.3 refl (conflicts have.1 have.4),
    )

no_entry : (sections : List Section) (e : Entry) (rest : List Item) → ¬ (items_of sections ≡ items.Entry e ∷ rest)
no_entry [] e rest is = cc
no_entry (s ∷ sections) e rest is = cc

-- an entry more of it
pub entry_more : (current : Option (List ℕ)) (s t : Sections) (its rest : List Item) (sections : List Section)
    (e : Entry) → t.ended.items ≡ s.ended.items
    → ((es : List Entry) → StandsFor s.judge es → StandsFor t.judge (es ++ e ∷ [])) → HaveFrom current s its
    → items_of sections ≡ its ++ items.Entry e ∷ rest → HaveFrom current t (its ++ items.Entry e ∷ [])
entry_more None s t its rest sections e ended stands have is =
    absurd (no_entry sections e rest (is ∙ ap (λ l. l ++ items.Entry e ∷ rest) have.0))
entry_more (Some name) s t its rest sections e ended stands have is = (
  have.0,
  have.1 ++ e ∷ [],
  ap (λ l. l ++ items.Entry e ∷ []) have.2 ∙
      append_assoc (items_of have.0) (items.Test name ∷ map items.Entry have.1) (items.Entry e ∷ []) ∙
      ap (λ l. items_of have.0 ++ items.Test name ∷ l) (sym (map-append items.Entry have.1 (e ∷ []))),
  subst (AreJudged have.0) (sym ended) have.3,
  stands have.1 have.4,
)

-- a judge that stands for as much
pub have_with : (current : Option (List ℕ)) (s t : Sections) (its : List Item) → t.ended.items ≡ s.ended.items
    → ((es : List Entry) → StandsFor s.judge es → StandsFor t.judge es) → HaveFrom current s its
    → HaveFrom current t its
have_with None s t its ended stands have = (have.0, ended ∙ have.1, stands [] have.2)
have_with (Some name) s t its ended stands have =
    (have.0, have.1, have.2, subst (AreJudged have.0) (sym ended) have.3, stands have.1 have.4)

pub on_ok : {T E : Type 0} (r : Result T E) (P Q : Type 0) → (P → Q) → OnOk r P → OnOk r Q
on_ok (Ok x) P Q f p = f p
on_ok (Err e) P Q f p = p
