-- One more line of a trace.
use Rattle.std.proofs.Common.{arith, ◌≡◌, ℕ, zero, suc, ◌+◌, List, [], ◌∷◌, ◌++◌, length, map, take, ap, sym, subst}
use Rattle.std.proofs.Common.{refl, ◌∙◌, append_assoc, length-append}
use Rattle.std.specs.List.{All, AllByRecursion}
use Rattle.std.proofs.lemmas.List.{append-nil, map-append, take-map, take_at}
use Rattle.std.proofs.lemmas.List.Elements.{All-push, All-take, recursion_from_All}
use Rattle.cm_mtrace.specs.inner.Reading.{LineGives, LinesGive}
use Rattle.cm_mtrace.specs.Trace.{BeginsTrace, GiveItems, IsItem, IsSectionName, Section, items_of, line_of}
use Rattle.cm_mtrace.specs.Trace.{trace_lines}
use Rattle.cm_mtrace.specs.declared.item.Entry.{Entry}
use Rattle.cm_mtrace.specs.declared.item.Item.{Item}
use Rattle.cm_mtrace.specs.declared.item.Item.TheVariants as items

-- no entry stands before the first section
abbrev StartsSection : List Item → Type 0
StartsSection [] = Unit {0}
StartsSection (items.Test name ∷ its) = Unit {0}
StartsSection (items.Entry e ∷ its) = ⊥

starts_items_of : (sections : List Section) → StartsSection (items_of sections)
starts_items_of [] = tt
starts_items_of (s ∷ sections) = tt

starts_take : (n : ℕ) (its : List Item) → StartsSection its → StartsSection (take n its)
starts_take zero its starts = tt
starts_take (suc n) [] starts = tt
starts_take (suc n) (items.Test name ∷ its) starts = tt
starts_take (suc n) (items.Entry e ∷ its) starts = starts

starts_append : (item : Item) (its more : List Item) → StartsSection (item ∷ its) → StartsSection (item ∷ its ++ more)
starts_append (items.Test name) its more starts = tt
starts_append (items.Entry e) its more starts = starts

-- some entries, and then sections
split_items : (its : List Item) → (es : List Entry) × (sections : List Section)
    × (its ≡ map items.Entry es ++ items_of sections)
split_items [] = ([], [], refl)
split_items (items.Test name ∷ its) =
    let rest = split_items its in
    ([], record { name = name; entries = rest.0 } ∷ rest.1, ap (λ l. items.Test name ∷ l) rest.2)
split_items (items.Entry e ∷ its) =
    let rest = split_items its in
    (e ∷ rest.0, rest.1, ap (λ l. items.Entry e ∷ l) rest.2)

sectioned : (its : List Item) → StartsSection its → (sections : List Section) × (its ≡ items_of sections)
sectioned [] starts = ([], refl)
sectioned (items.Test name ∷ its) starts =
    let rest = split_items its in
    (record { name = name; entries = rest.0 } ∷ rest.1, ap (λ l. items.Test name ∷ l) rest.2)
sectioned (items.Entry e ∷ its) starts = absurd starts

begins_starts : (its : List Item) → (sections : List Section) × (its ≡ items_of sections) → StartsSection its
begins_starts its s = subst StartsSection (sym s.1) (starts_items_of s.0)

no_item : (its : List Item) → [] ≡ map line_of its → its ≡ []
no_item [] e = refl
no_item (item ∷ its) e = cc

one_item : (line : List ℕ) (lines : List (List ℕ)) (its : List Item) → line ∷ lines ≡ map line_of its
    → (first : Item) × (rest : List Item) × (its ≡ first ∷ rest)
one_item line lines [] e = cc
one_item line lines (item ∷ its) e = (item, its, refl)

-- an item more, behind one
item_more : (first : List ℕ) (rest : List (List ℕ)) (line : List ℕ) (its : List Item) (item : Item)
    → GiveItems (first ∷ rest) its → StartsSection (its ++ item ∷ []) → IsItem item → line ≡ line_of item
    → GiveItems (first ∷ (rest ++ line ∷ [])) (its ++ item ∷ [])
item_more first rest line its item give starts is spelled = record {
  spelled = (give.spelled.0, (λ i. give.spelled.1 i ++ spelled i ∷ []) ∙ sym (map-append line_of its (item ∷ [])));
  valid = All-push IsItem its item give.valid is;
  sections = sectioned (its ++ item ∷ []) starts;
}

-- what a line more gives
pub gives_more : (lines : List (List ℕ)) (its given : List Item) (line : List ℕ) → GiveItems lines its
    → LineGives (length lines) line given → GiveItems (lines ++ line ∷ []) (its ++ given)
gives_more [] its given line give l =
    let f = l.first refl in
    let none : its ++ given ≡ [] = (λ i. give.spelled i ++ f.1 i) in
    subst (GiveItems (line ∷ [])) (sym none) (record {
      spelled = (f.0, refl);
      valid =
          λ k d h. absurd (omega (arith, h));
      sections = ([], refl);
    })
gives_more (first ∷ []) its given line give l =
    let s = l.second (omega arith) in
    let none : its ≡ [] = no_item its give.spelled.1 in
    subst (λ g. GiveItems (first ∷ line ∷ []) (its ++ g)) (sym s.3) (item_more first [] line its (items.Test s.0)
    give (subst (λ l. StartsSection (l ++ items.Test s.0 ∷ [])) (sym none) tt) s.1 s.2)
gives_more (first ∷ second ∷ rest) its given line give l =
    let m = l.later (omega arith) in
    let some = one_item second rest its give.spelled.1 in
    let begun = subst (λ l. StartsSection (l ++ m.0 ∷ [])) (sym some.2) (starts_append some.0 some.1
    (m.0 ∷ []) (subst StartsSection some.2 (begins_starts its give.sections))) in
    subst (λ g. GiveItems (first ∷ second ∷ (rest ++ line ∷ [])) (its ++ g)) (sym m.3)
    (item_more first (second ∷ rest) line its m.0 give begun m.1 m.2)

-- and what several lines give
pub gives_on : (lines more : List (List ℕ)) (its given : List Item) → GiveItems lines its
    → LinesGive (length lines) more given → GiveItems (lines ++ more) (its ++ given)
gives_on lines [] its given give on = subst (GiveItems (lines ++ [])) (sym (ap (λ g. its ++ g) on ∙ append-nil its))
    (subst (λ l. GiveItems l its) (sym (append-nil lines)) give)
gives_on lines (line ∷ more) its given give on =
    let first = gives_more lines its on.0 line give on.3 in
    let size : length (lines ++ line ∷ []) ≡ length lines + 1 = omega (arith, length-append lines (line ∷ [])) in
    let all = gives_on (lines ++ line ∷ []) more (its ++ on.0) on.1 first (subst (λ n. LinesGive n more on.1)
    (sym size) on.4) in
    subst (λ l. GiveItems l (its ++ given)) (append_assoc lines (line ∷ []) more)
    (subst (GiveItems ((lines ++ line ∷ []) ++ more)) (append_assoc its on.0 on.1 ∙ ap (λ g. its ++ g) (sym on.2))
    all)

-- one line more, from so many lines on
pub lines_give_push : (before : ℕ) (lines : List (List ℕ)) (line : List ℕ) (given more : List Item)
    → LinesGive before lines given → LineGives (before + length lines) line more
    → LinesGive before (lines ++ line ∷ []) (given ++ more)
lines_give_push before [] line given more on l = (
  more,
  [],
  ap (λ g. g ++ more) on ∙ sym (append-nil more),
  subst (λ n. LineGives n line more) (omega arith) l,
  refl,
)
lines_give_push before (x ∷ lines) line given more on l = (
  on.0,
  on.1 ++ more,
  ap (λ g. g ++ more) on.2 ∙ append_assoc on.0 on.1 more,
  on.3,
  lines_give_push (before + 1) lines line on.1 more on.4 (subst (λ n. LineGives n line more) (omega arith) l),
)

same_head : {X : Type 0} (x y : X) (xs ys : List X) → x ∷ xs ≡ y ∷ ys → x ≡ y
same_head x y xs ys e = cc

same_tail : {X : Type 0} (x y : X) (xs ys : List X) → x ∷ xs ≡ y ∷ ys → xs ≡ ys
same_tail x y xs ys e = cc

first_section : (its : List Item) (line : List ℕ) (more : List (List ℕ)) → StartsSection its → AllByRecursion IsItem its
    → map line_of its ≡ line ∷ more → (name : List ℕ) × IsSectionName name × (line ≡ line_of (items.Test name))
first_section [] line more starts valid e = cc
first_section (items.Test name ∷ its) line more starts valid e = (name, valid.0, sym (same_head _ _ _ _ e))
first_section (items.Entry x ∷ its) line more starts valid e = absurd starts

item_at : (its : List Item) (lines : List (List ℕ)) (line : List ℕ) (more : List (List ℕ)) → AllByRecursion IsItem its
    → map line_of its ≡ lines ++ line ∷ more → (item : Item) × IsItem item × (line ≡ line_of item)
item_at [] [] line more valid e = cc
item_at [] (l ∷ lines) line more valid e = cc
item_at (item ∷ its) [] line more valid e = (item, valid.0, sym (same_head _ _ _ _ e))
item_at (item ∷ its) (l ∷ lines) line more valid e = item_at its lines line more valid.1 (same_tail _ _ _ _ e)

-- a line that gives nothing begins no trace
pub begins_not : (lines : List (List ℕ)) (line : List ℕ) → ((given : List Item) → ¬ LineGives (length lines) line given)
    → ¬ BeginsTrace (lines ++ line ∷ [])
begins_not [] line none b =
    none [] (record {
      first = λ _. (sym (same_head _ _ _ _ b.3), refl);
      second = λ h. absurd (omega arith);
      later =
          λ h. absurd (omega arith);
    })
begins_not (d ∷ []) line none b =
    let its = items_of b.0 in
    let s = first_section its line b.1 (starts_items_of b.0) (recursion_from_All IsItem its b.2) (same_tail _ _ _ _ b.3)
    in
    none (items.Test s.0 ∷ []) (record {
      first = λ h. absurd (omega arith);
      second = λ _. (s.0, s.1, s.2, refl);
      later =
          λ h. absurd (omega arith);
    })
begins_not (d ∷ second ∷ ds) line none b =
    let its = items_of b.0 in
    let m = item_at its (second ∷ ds) line b.1 (recursion_from_All IsItem its b.2) (same_tail _ _ _ _ b.3
    ∙ ap (λ l. second ∷ l) (append_assoc ds (line ∷ []) b.1)) in
    none (m.0 ∷ []) (record {
      first = λ h. absurd (omega arith);
      second = λ h. absurd (omega arith);
      later =
          λ _. (m.0, m.1, m.2, refl);
    })

-- lines that begin a trace give items
pub begins_gives : (lines : List (List ℕ)) → BeginsTrace lines → (its : List Item) × GiveItems lines its
begins_gives [] b = ([], record { spelled = refl; valid = λ k d h. absurd (omega (arith, h)); sections = ([], refl) })
begins_gives (first ∷ rest) b =
    let its = items_of b.0 in
    let tail = same_tail _ _ _ _ b.3 in
    let front : rest ≡ map line_of (take (length rest) its) = sym (ap (take (length rest)) tail
    ∙ take_at rest b.1 (length rest) refl) ∙ take-map line_of (length rest) its in (
      take (length rest) its,
      record {
        spelled = (sym (same_head _ _ _ _ b.3), front);
        valid = All-take IsItem (length rest) its b.2;
        sections = sectioned (take (length rest) its) (starts_take (length rest) its (starts_items_of b.0));
      },
    )

-- and lines that give items begin a trace
pub gives_begins : (lines : List (List ℕ)) (its : List Item) → GiveItems lines its → BeginsTrace lines
gives_begins [] its give = ([], trace_lines [], (λ k d h. absurd (omega (arith, h))), refl)
gives_begins (first ∷ rest) its give =
    let s = give.sections in (
      s.0,
      [],
      subst (All IsItem) s.1 give.valid,
      (λ i. sym give.spelled.0 i ∷ sym (give.spelled.1 ∙ ap (map line_of) s.1) i) ∙ sym (append-nil (first ∷ rest)),
    )
