-- What a step over a text gives.
use Rattle.std.proofs.Common.{arith, ◌≡◌, ◌≢◌, ℕ, ◌+◌, ◌<◌, ◌≤◌, List, [], ◌∷◌, ◌++◌, codes, length, ap, sym, subst}
use Rattle.std.proofs.Common.{refl, ◌∙◌, inl, inr, append_assoc, length-append, Option, None, Some}
use Rattle.std.specs.Borrow.{Bor}
use Rattle.std.proofs.lemmas.Bool.{cases_lt}
use Rattle.std.proofs.lemmas.List.{append-nil}
use Rattle.std.proofs.lemmas.List.Concat.{flat_map-append}
use Rattle.cm_mtrace.proofs.LineTexts.{all_append}
use Rattle.cm_mtrace.proofs.Steps.{lines_give_push}
use Rattle.cm_mtrace.proofs.Items.{item_line}
use Rattle.cm_mtrace.specs.inner.Reading.{IsLine, LineGives, Reads, Refuses, SectionRefuses, SectionSteps, Steps}
use Rattle.cm_mtrace.specs.Trace.{IsEntry, IsItem, IsSectionName, first_line, line_of, text_of}
use Rattle.cm_mtrace.specs.declared.item.Entry.{Entry}
use Rattle.cm_mtrace.specs.declared.item.Item.{Item}
use Rattle.cm_mtrace.specs.declared.item.Item.TheVariants as items
use Rattle.cm_mtrace.specs.declared.fault.TraceFault.{TraceFault}
use Rattle.cm_mtrace.specs.declared.fault.TraceFault.TheVariants.{BadLine, Memory}

-- the first line
pub first_gives : LineGives 0 first_line []
first_gives = record {
  first = λ _. (refl, refl);
  second = λ h. absurd (omega arith);
  later =
      λ h. absurd (omega arith);
}

-- an item behind two lines or more
pub item_gives : (before : ℕ) (item : Item) → 2 ≤ before → IsItem item → LineGives before (line_of item) (item ∷ [])
item_gives before item two is = record {
  first = λ h. absurd (omega arith);
  second = λ h. absurd (omega arith);
  later =
      λ _. (item, is, refl, refl);
}

section_gives : (before : ℕ) (name : List ℕ) → 1 ≤ before → IsSectionName name
    → LineGives before (line_of (items.Test name)) (items.Test name ∷ [])
section_gives before name some is = record {
  first = λ h. absurd (omega arith);
  second =
      λ _. (name, is, refl, refl);
  later = λ _. (items.Test name, is, refl, refl);
}

-- where an entry may stand, none stands at the front of the text
abbrev NoEntry : ℕ → List ℕ → Type 0
NoEntry before text = 2 ≤ before → (e : Entry) (rest : List ℕ) → IsEntry e
    → text ≢ line_of (items.Entry e) ++ codes "\n" ++ rest

no_item : (before : ℕ) (text line after : List ℕ) (item : Item) → 2 ≤ before → NoEntry before text
    → text ≡ line ++ codes "\n" ++ after → ((name : List ℕ) → IsSectionName name → line ≢ line_of (items.Test name))
    → IsItem item → line ≢ line_of item
no_item before text line after (items.Test name) two no_entry spelled no_section is e = no_section name is e
no_item before text line after (items.Entry x) two no_entry spelled no_section is e =
    no_entry two x after is (spelled ∙ ap (λ l. l ++ codes "\n" ++ after) e)

nothing_given : (before : ℕ) (text line after : List ℕ) → 1 ≤ before → NoEntry before text
    → text ≡ line ++ codes "\n" ++ after → ((name : List ℕ) → IsSectionName name → line ≢ line_of (items.Test name))
    → (given : List Item) → ¬ LineGives before line given
nothing_given before text line after some no_entry spelled no_section given l =
    elim (cases_lt 1 before) [
      | inl two ↦ let m = l.later (omega arith) in no_item before text line after m.0 (omega arith) no_entry
          spelled no_section m.1 m.2
      | inr one ↦ let s = l.second (omega arith) in no_section s.0 s.1 s.2
    ]

-- a step where only a section may begin, or no entry stands
pub section_steps : (before : ℕ) (text : List ℕ) (old new : List Item) (step : Option (Bor (List ℕ))) → 1 ≤ before
    → SectionSteps text old new step → Steps before text old new step
section_steps before text old new (Some after) some s = (
  line_of (items.Test s.0),
  items.Test s.0 ∷ [],
  item_line (items.Test s.0) s.1,
  s.2,
  section_gives before s.0 some s.1,
  s.3,
)
section_steps before text old new None some s = s

pub section_refuses : (before : ℕ) (text : List ℕ) (old new : List Item) (f : TraceFault) → 1 ≤ before
    → NoEntry before text → SectionRefuses before text old new f → Refuses before text old new f
section_refuses before text old new (BadLine line) some no_entry s =
    let n = s.1 in
    (s.0, (n.0, n.1, n.2, n.3, nothing_given before text n.0 n.1 some no_entry n.3 n.4), s.2)
section_refuses before text old new Memory some no_entry s = tt

-- lines so far, and one more
pub reads_push : (before : ℕ) (text : List ℕ) (whole : List (List ℕ)) (tail line after : List ℕ)
    (old mid new given : List Item) (lines : ℕ) → Reads before text whole tail old mid lines → IsLine line
    → tail ≡ line ++ codes "\n" ++ after → LineGives lines line given → new ≡ mid ++ given
    → Reads before text (whole ++ line ∷ []) after old new (lines + 1)
reads_push before text whole tail line after old mid new given lines reads is spelled gives more = record {
  spelled = reads.spelled ∙ ap (λ t. text_of whole ++ t) spelled
      ∙ sym (append_assoc (text_of whole) (line ++ codes "\n") after)
      ∙ ap (λ t. t ++ after) (sym (flat_map-append (λ l. l ++ codes "\n") whole (line ∷ [])
      ∙ ap (λ l. text_of whole ++ l) (append-nil (line ++ codes "\n"))));
  each = all_append IsLine whole (line ∷ []) reads.each (is, tt);
  counted = omega (arith, reads.counted, length-append whole (line ∷ []));
  given = let g = reads.given in (
    g.0 ++ given,
    more ∙ ap (λ l. l ++ given) g.1 ∙ append_assoc old g.0 given,
    lines_give_push before whole line g.0 given g.2 (subst (λ n. LineGives n line given) reads.counted gives),
  );
}

-- nothing read so far
pub reads_none : (before : ℕ) (text : List ℕ) (old : List Item) → Reads before text [] text old old before
reads_none before text old = record {
  spelled = refl;
  each = tt;
  counted = omega arith;
  given =
      ([], sym (append-nil old), refl);
}

pub shorter : (text line after : List ℕ) → text ≡ line ++ codes "\n" ++ after → length after < length text
shorter text line after spelled = omega (
  arith,
  ap length spelled,
  length-append (line ++ codes "\n") after,
  length-append line (codes "\n"),
)
