-- A stream, read piece by piece.
use Rattle.std.proofs.Common.{arith, ◌≡◌, ℕ, ◌+◌, ◌<◌, ◌≤◌, List, [], ◌∷◌, ◌++◌, codes, length, take}
use Rattle.std.proofs.Common.{ap, sym, subst, refl, ◌∙◌, inl, inr, append_assoc, length-append}
use Rattle.std.specs.List.{AllByRecursion}
use Rattle.std.proofs.lemmas.List.{append-nil, take_at}
use Rattle.std.proofs.lemmas.List.Concat.{flat_map-append}
use Rattle.cm_mtrace.proofs.Bad.{gives_short, refused_open, refused_whole, whole_text}
use Rattle.cm_mtrace.proofs.LineTexts.{all_append, line_before, lines_are, lines_on, no_lines, text_lines}
use Rattle.cm_mtrace.proofs.Stepping.{reads_none, reads_push}
use Rattle.cm_mtrace.specs.Reader.{NamesFirst, NamesSeen}
use Rattle.cm_mtrace.specs.inner.Reading.{AreLines, BadNext, Ends, IsLine, IsTooLong, LineGives, LinesGive, Reaches}
use Rattle.cm_mtrace.specs.inner.Reading.{Reads, Refuses, Spoils, Stops}
use Rattle.cm_mtrace.specs.Trace.{BeginsTrace, open_line, text_of, whole_lines}
use Rattle.cm_mtrace.specs.declared.fault.TraceFault.{TraceFault}
use Rattle.cm_mtrace.specs.declared.fault.TraceFault.TheVariants.{BadLine, Memory}
use Rattle.cm_mtrace.specs.declared.item.Item.{Item}

lines_give_append : (before : ℕ) (whole more : List (List ℕ)) (given rest : List Item) → LinesGive before whole given
    → LinesGive (before + length whole) more rest → LinesGive before (whole ++ more) (given ++ rest)
lines_give_append before [] more given rest gives on = subst (LinesGive before more) (ap (λ g. g ++ rest) (sym gives))
    (subst (λ n. LinesGive n more rest) (omega arith) on)
lines_give_append before (line ∷ whole) more given rest gives on = (
  gives.0,
  gives.1 ++ rest,
  ap (λ g. g ++ rest) gives.2 ∙ append_assoc gives.0 gives.1 rest,
  gives.3,
  lines_give_append (before + 1) whole more gives.1 rest gives.4 (subst (λ n. LinesGive n more rest)
      (omega arith) on),
)

-- a text of whole lines, and a text behind it
pub reads_on : (before : ℕ) (text more : List ℕ) (whole whole' : List (List ℕ)) (tail : List ℕ)
    (old mid new : List Item) (lines lines' : ℕ) → Reads before text whole [] old mid lines
    → Reads lines more whole' tail mid new lines' → Reads before (text ++ more) (whole ++ whole') tail old new lines'
reads_on before text more whole whole' tail old mid new lines lines' reads on = record {
  spelled = (λ i. (reads.spelled ∙ append-nil (text_of whole)) i ++ on.spelled i)
      ∙ sym (append_assoc (text_of whole) (text_of whole') tail)
      ∙ ap (λ t. t ++ tail) (sym (flat_map-append (λ l. l ++ codes "\n") whole whole'));
  each = all_append IsLine whole whole' reads.each on.each;
  counted = omega (arith, reads.counted, on.counted, length-append whole whole');
  given =
      let g = reads.given in
      let h = on.given in (
        g.0 ++ h.0,
        h.1 ∙ ap (λ l. l ++ h.0) g.1 ∙ append_assoc old g.0 h.0,
        lines_give_append before whole whole' g.0 h.0 g.2 (subst (λ n. LinesGive n whole' h.0) reads.counted h.2),
      );
}

pub reaches_on : (before : ℕ) (text more : List ℕ) (whole : List (List ℕ)) (old mid new : List Item)
    (lines lines' : ℕ) (left : List ℕ) → Reads before text whole [] old mid lines
    → Reaches lines more mid new lines' left → Reaches before (text ++ more) old new lines' left
reaches_on before text more whole old mid new lines lines' left reads r =
    let e = r.0 in
    ((whole ++ e.0, reads_on before text more whole e.0 left old mid new lines lines' reads e.1, e.2), r.1)

pub stops_on : (before : ℕ) (text more : List ℕ) (whole : List (List ℕ)) (old mid new : List Item)
    (lines : ℕ) (f : TraceFault) → Reads before text whole [] old mid lines
    → Stops lines more mid new f → Stops before (text ++ more) old new f
stops_on before text more whole old mid new lines (BadLine line) reads s = (
  s.0,
  s.1,
  whole ++ s.2,
  s.3,
  reads_on before text more whole s.2 s.3 old mid new lines s.0 reads s.4,
  s.5,
)
stops_on before text more whole old mid new lines Memory reads s = tt

-- the open line behind whole lines is kept
pub reaches_kept : (before : ℕ) (text rest : List ℕ) (old new : List Item) (lines : ℕ) (left : List ℕ)
    → Ends before text old new lines rest → (left ≡ rest) × (length rest ≤ 80) → Reaches before text old new lines left
reaches_kept before text rest old new lines left ends kept =
    (subst (Ends before text old new lines) (sym kept.0) ends, subst (λ l. length l ≤ 80) (sym kept.0) kept.1)

-- or it is too long
pub stops_long : (before : ℕ) (text rest : List ℕ) (old new : List Item) (lines : ℕ) (f : TraceFault)
    → Ends before text old new lines rest → IsTooLong lines rest f → Stops before text old new f
stops_long before text rest old new lines (BadLine line) ends long =
    (lines, long.0, ends.0, rest, ends.1, inr (ends.2, long.1))
stops_long before text rest old new lines Memory ends long = tt

-- all of it is one open line
pub ends_none : (before : ℕ) (text : List ℕ) (to : List Item) → IsLine text → Ends before text to to before text
ends_none before text to is = ([], reads_none before text to, is)

-- the line behind those that were read is bad
pub stops_refused : (before : ℕ) (text : List ℕ) (whole : List (List ℕ)) (tail : List ℕ) (old mid new : List Item)
    (lines : ℕ) (f : TraceFault) → Reads before text whole tail old mid lines → Refuses lines tail mid new f
    → Stops before text old new f
stops_refused before text whole tail old mid new lines (BadLine line) reads r =
    (lines, r.0, whole, tail, subst (λ to. Reads before text whole tail old to lines) (sym r.2) reads, inl r.1)
stops_refused before text whole tail old mid new lines Memory reads r = tt

-- a bad line stays so
pub refuses_on : (before : ℕ) (text more : List ℕ) (old new : List Item) (f : TraceFault)
    → Refuses before text old new f → Refuses before (text ++ more) old new f
refuses_on before text more old new (BadLine line) r =
    let b = r.1 in (
      r.0,
      (b.0, b.1 ++ more, b.2, ap (λ t. t ++ more) b.3 ∙ append_assoc (b.0 ++ codes "\n") b.1 more, b.4),
      r.2,
    )
refuses_on before text more old new Memory r = tt

-- a line of more than 80 bytes is bad
pub long_bad : (lines : ℕ) (line after : List ℕ) → IsLine line → 80 < length line
    → BadNext lines (line ++ codes "\n" ++ after)
long_bad lines line after is long = (
  line,
  after,
  is,
  refl,
  λ given l. omega (
    arith,
    gives_short lines line given l,
    long,
  ),
)

-- an open line, and a piece that ends it
pub ends_line : (left piece front after : List ℕ) → piece ≡ front ++ codes "\n" ++ after
    → left ++ piece ≡ left ++ front ++ codes "\n" ++ after
ends_line left piece front after e = ap (λ p. left ++ p) e ∙ sym (append_assoc left (front ++ codes "\n") after)
    ∙ ap (λ l. l ++ after) (sym (append_assoc left front (codes "\n")))

-- a text of one ended line has one line
pub one_line : (line other after : List ℕ) → IsLine line → IsLine other
    → line ++ codes "\n" ≡ other ++ codes "\n" ++ after → (other ≡ line) × (after ≡ [])
one_line line other after is is' e =
    let one = subst (λ t. AreLines t (line ∷ []) []) (append-nil (line ++ codes "\n"))
    (line_before line [] [] [] is (no_lines [] tt)) in
    let w = whole_lines after in
    let o = open_line after in
    let all = line_before other after w o is' (text_lines after) in
    let whole : other ∷ w ≡ line ∷ [] = sym (lines_are _ _ _ all).0 ∙ ap whole_lines (sym e)
    ∙ (lines_are _ _ _ one).0 in
    let last : o ≡ [] = sym (lines_are _ _ _ all).1 ∙ ap open_line (sym e) ∙ (lines_are _ _ _ one).1 in
    let none : w ≡ [] = cc in
    (cc, (text_lines after).spelled ∙ (λ i. text_of (none i) ++ last i))

-- no newline stands in a line
pub not_open : (line : List ℕ) → ¬ IsLine (line ++ codes "\n")
not_open [] is = is.0 refl
not_open (b ∷ line) is = not_open line is.1

pub reads_one : (before : ℕ) (line other after : List ℕ) (old new given : List Item) → IsLine line → IsLine other
    → line ++ codes "\n" ≡ other ++ codes "\n" ++ after → LineGives before other given → new ≡ old ++ given
    → Reads before (line ++ codes "\n") (line ∷ []) [] old new (before + 1)
reads_one before line other after old new given is is' e gives more =
    let one = one_line line other after is is' e in
    reads_push before (line ++ codes "\n") [] (line ++ codes "\n") line [] old old new given before
    (reads_none before (line ++ codes "\n") old) is (sym (append-nil (line ++ codes "\n")))
    (subst (λ l. LineGives before l given) one.0 gives) more

-- what a fault says of a text whose whole lines begin a trace up to what spoils it
pub record IsSpoiled (text : List ℕ) (lines : List (List ℕ)) : Type 0 where
  pub first : NamesFirst text (BadLine (length lines + 1))
  pub seen : NamesSeen text (BadLine (length lines + 1))
  pub front : take (length lines) (whole_lines text) ≡ lines

pub spoiled : (text tail : List ℕ) (lines : List (List ℕ)) → AllByRecursion IsLine lines → BeginsTrace lines
    → text ≡ text_of lines ++ tail → Spoils (length lines) tail → IsSpoiled text lines
spoiled text tail lines each b spelled spoils =
    elim spoils [
      | inl bad ↦
          let w = whole_lines bad.1 in
          let o = open_line bad.1 in
          let behind = subst (λ t. AreLines t (bad.0 ∷ w) o) (sym bad.3) (line_before bad.0 bad.1 w o
          bad.2 (text_lines bad.1)) in
          let all = subst (λ t. AreLines t (lines ++ bad.0 ∷ w) o) (sym spelled)
          (lines_on (text_of lines) tail lines (bad.0 ∷ w) [] o (whole_text lines each) behind) in
          let whole = (lines_are _ _ _ all).0 in
          record {
            first = λ more. refused_whole text bad.1 more bad.0 lines each bad.2 b (spelled
                ∙ ap (λ t. text_of lines ++ t) bad.3) bad.4;
            seen = inl (omega (arith, ap length whole, length-append lines (bad.0 ∷ w)));
            front = ap (take (length lines)) whole ∙ take_at lines (bad.0 ∷ w) (length lines) refl;
          }
      | inr long ↦
          let are : AreLines text lines tail = record { spelled = spelled; each = each; last = long.0 } in
          let whole = lines_are _ _ _ are in
          record {
            first = λ more. refused_open text more tail lines are long.1 b;
            seen = inr (omega (arith, ap length whole.0), omega (arith, ap length whole.1, long.1));
            front = ap (take (length lines)) (whole.0 ∙ sym (append-nil lines)) ∙ take_at lines [] (length lines) refl;
          }
    ]
