-- Where a reader stands behind a piece more.
use Rattle.std.proofs.Common.{arith, ◌≡◌, ℕ, ◌+◌, ◌-◌, ◌<◌, true, false, List, [], ◌∷◌, ◌++◌, All, None, length, take}
use Rattle.std.proofs.Common.{ap, sym, subst, refl, ◌∙◌, inl, inr, eqb, eqb-true, append_assoc, length-append}
use Rattle.std.proofs.lemmas.List.Concat.{flat_map-append}
use Rattle.std.proofs.lemmas.Bool.{cases_lt, eqb-false}
use Rattle.std.proofs.lemmas.List.Elements.{All-append, All-from_recursion}
use Rattle.cm_mtrace.proofs.LineTexts.{all_append, lines_are, lines_on, text_lines}
use Rattle.cm_mtrace.proofs.Pieces.{IsSpoiled, spoiled}
use Rattle.cm_mtrace.proofs.Steps.{begins_gives, gives_begins, gives_on}
use Rattle.cm_mtrace.specs.Reader.{GaveEarlier, NamesFirst, NamesSeen, Progress, StandsFor}
use Rattle.cm_mtrace.specs.inner.Reading.{AreLines, LineGives, LinesGive, Reaches, Spoils, Stops}
use Rattle.cm_mtrace.specs.declared.fault.TraceFault.{TraceFault}
use Rattle.cm_mtrace.specs.declared.fault.TraceFault.TheVariants.{BadLine, Memory}
use Rattle.cm_mtrace.specs.Trace.{BeginsTrace, GiveItems, IsItem, open_line, text_of, whole_lines}
use Rattle.cm_mtrace.specs.declared.item.Item.{Item}
use Rattle.cm_mtrace.specs.declared.item.Item.TheVariants as items

-- the lines of a stream that a reader stands for
stream_lines : (p : Progress) (text : List ℕ) → StandsFor p text → AreLines text (whole_lines text) p.left
stream_lines p text s = subst (AreLines text (whole_lines text)) (sym s.left) (text_lines text)

-- what the lines of a piece give behind a stream
gives_behind : (p : Progress) (text : List ℕ) (whole : List (List ℕ)) (given items : List Item) → StandsFor p text
    → LinesGive p.lines whole given → GiveItems (whole_lines text) items
    → GiveItems (whole_lines text ++ whole) (items ++ given)
gives_behind p text whole given items s gives give = gives_on (whole_lines text) whole items given give
    (subst (λ n. LinesGive n whole given) s.lines gives)

begins_behind : (p : Progress) (text : List ℕ) (whole : List (List ℕ)) (given : List Item) → StandsFor p text
    → LinesGive p.lines whole given → BeginsTrace (whole_lines text ++ whole)
begins_behind p text whole given s gives =
    let its = begins_gives (whole_lines text) s.good in
    gives_begins (whole_lines text ++ whole) (its.0 ++ given) (gives_behind p text whole given its.0 s gives its.1)

module _ (p : Progress) (piece : List ℕ) (old new : List Item) (lines : ℕ) (left : List ℕ)
    (r : Reaches p.lines (p.left ++ piece) old new lines left) where
  whole_behind : (text : List ℕ) → StandsFor p text → (whole_lines (text ++ piece) ≡ whole_lines text ++ r.0.0)
      × (open_line (text ++ piece) ≡ left)
  whole_behind text s = lines_are _ _ _ (lines_on text piece (whole_lines text) r.0.0 p.left left
      (stream_lines p text s) (record { spelled = r.0.1.spelled; each = r.0.1.each; last = r.0.2 }))

  pub stands_on : (text : List ℕ) → StandsFor p text → StandsFor (record { lines = lines; left = left; fault = None })
      (text ++ piece)
  stands_on text s =
      let w = whole_behind text s in
      record {
        lines = omega (arith, r.0.1.counted, s.lines, ap length w.0, length-append (whole_lines text) r.0.0);
        left = sym w.1;
        fault = refl;
        good = subst BeginsTrace (sym w.0) (begins_behind p text r.0.0 r.0.1.given.0 s r.0.1.given.2);
        short = r.1;
      }

  pub given_on : (text : List ℕ) (items : List Item) → StandsFor p text → GiveItems (whole_lines text) items
      → GiveItems (whole_lines (text ++ piece)) (items ++ r.0.1.given.0)
  given_on text items s give = subst (λ w. GiveItems w (items ++ r.0.1.given.0)) (sym (whole_behind text s).0)
      (gives_behind p text r.0.0 r.0.1.given.0 items s r.0.1.given.2 give)

module _ (p : Progress) (piece : List ℕ) (old new : List Item) (line : ℕ)
    (r : Stops p.lines (p.left ++ piece) old new (BadLine line)) where
  pub spoiled_on : (text : List ℕ) → StandsFor p text → (IsSpoiled (text ++ piece) (whole_lines text ++ r.2))
      × (line ≡ length (whole_lines text ++ r.2) + 1)
  spoiled_on text s =
      let are = stream_lines p text s in
      let count : r.0 ≡ length (whole_lines text ++ r.2) = omega (
        arith,
        r.4.counted,
        s.lines,
        length-append (whole_lines text) r.2,
      ) in
      let spelled : text ++ piece ≡ text_of (whole_lines text ++ r.2) ++ r.3 =
      ap (λ t. t ++ piece) are.spelled ∙ append_assoc (text_of (whole_lines text)) p.left piece
      ∙ ap (λ t. text_of (whole_lines text) ++ t) r.4.spelled
      ∙ sym (append_assoc (text_of (whole_lines text)) (text_of r.2) r.3)
      ∙ ap (λ t. t ++ r.3) (sym (flat_map-append _ (whole_lines text) r.2)) in (
        spoiled (text ++ piece) r.3 (whole_lines text ++ r.2) (all_append _ (whole_lines text) r.2 are.each r.4.each)
            (begins_behind p text r.2 r.4.given.0 s r.4.given.2) spelled (subst (λ n. Spoils n r.3) count r.5),
        r.1 ∙ ap (λ n. n + 1) count,
      )

  pub earlier_on : (text : List ℕ) (items : List Item) → StandsFor p text → GiveItems (whole_lines text) items
      → GiveItems (take (line - 1) (whole_lines (text ++ piece))) (items ++ r.4.given.0)
  earlier_on text items s give =
      let spoil = spoiled_on text s in
      let front : take (line - 1) (whole_lines (text ++ piece)) ≡ whole_lines text ++ r.2 =
      ap (λ n. take n (whole_lines (text ++ piece))) (omega (arith, spoil.1)) ∙ spoil.0.front in
      subst (λ w. GiveItems w (items ++ r.4.given.0)) (sym front) (gives_behind p text r.2 r.4.given.0
      items s r.4.given.2 give)

-- what a fault behind a piece tells of the stream
pub first_told : (p : Progress) (piece : List ℕ) (old new : List Item) (f : TraceFault)
    → Stops p.lines (p.left ++ piece) old new f → (text : List ℕ) → StandsFor p text → NamesFirst (text ++ piece) f
first_told p piece old new (BadLine line) r text s =
    let spoil = spoiled_on p piece old new line r text s in
    subst (λ n. NamesFirst (text ++ piece) (BadLine n)) (sym spoil.1) spoil.0.first
first_told p piece old new Memory r text s = tt

pub seen_told : (p : Progress) (piece : List ℕ) (old new : List Item) (f : TraceFault)
    → Stops p.lines (p.left ++ piece) old new f → (text : List ℕ) → StandsFor p text → NamesSeen (text ++ piece) f
seen_told p piece old new (BadLine line) r text s =
    let spoil = spoiled_on p piece old new line r text s in
    subst (λ n. NamesSeen (text ++ piece) (BadLine n)) (sym spoil.1) spoil.0.seen
seen_told p piece old new Memory r text s = tt

pub earlier_told : (p : Progress) (piece : List ℕ) (old new : List Item) (f : TraceFault)
    → Stops p.lines (p.left ++ piece) old new f → GaveEarlier p piece old new f
earlier_told p piece old new (BadLine line) r =
    λ none. (r.4.given.0, r.4.given.1, λ text items s give. earlier_on p piece old new line r text items s give)
earlier_told p piece old new Memory r = tt

line_valid : (before : ℕ) (line : List ℕ) (given : List Item) → LineGives before line given → All IsItem given
line_valid before line given l =
    elim (cases_lt 1 before) [
      | inl two ↦ let m = l.later (omega arith) in subst (All IsItem) (sym m.3) (single m.0 m.1)
      | inr few ↦ elim (cases_lt 0 before) [
        | inl one ↦ let s = l.second (omega arith) in subst (All IsItem) (sym s.3) (single (items.Test s.0) s.1)
        | inr none ↦ subst (All IsItem) (sym (l.first (omega arith)).1) (λ k d h. absurd (omega (arith, h)))
      ]
    ]
  where
    single : (item : Item) → IsItem item → All IsItem (item ∷ [])
    single item is = All-from_recursion IsItem (item ∷ []) (is, tt)

-- what lines give are items of a trace
pub valid_items : (before : ℕ) (lines : List (List ℕ)) (given : List Item) → LinesGive before lines given
    → All IsItem given
valid_items before [] given gives = subst (All IsItem) (sym gives) (λ k d h. absurd (omega (arith, h)))
valid_items before (line ∷ lines) given gives = subst (All IsItem) (sym gives.2)
    (All-append IsItem gives.0 gives.1 (line_valid before line gives.0 gives.3)
    (valid_items (before + 1) lines gives.1 gives.4))

-- a test whether a list is empty
pub not_empty : (n : ℕ) (xs : List ℕ) → n ≡ length xs → false ≡ eqb n 0 → 0 < length xs
not_empty n xs size is = elim (cases_lt 0 (length xs)) [
  | inl some ↦ some
  | inr none ↦ absurd (eqb-false n 0 (sym is) (omega (arith, none, size)))
]

pub is_empty : (n : ℕ) (xs : List ℕ) → n ≡ length xs → true ≡ eqb n 0 → length xs ≡ 0
is_empty n xs size is = sym size ∙ eqb-true n 0 (sym is)
