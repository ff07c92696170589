-- Which line of a text is the first bad one.
use Rattle.std.proofs.Common.{arith, ◌≡◌, ◌⊎◌, ℕ, zero, suc, ◌+◌, ◌<◌, ◌≤◌, List, [], ◌∷◌, ◌++◌, codes, length, take}
use Rattle.std.proofs.Common.{drop, map, ap, sym, subst, refl, ◌∙◌, inl, inr, append_assoc, length-append}
use Rattle.std.specs.List.{All, AllByRecursion}
use Rattle.std.proofs.lemmas.Bool.{cases_lt}
use Rattle.std.proofs.lemmas.List.{append-nil, take_at, take-append-drop, take-append-le}
use Rattle.cm_mtrace.proofs.Items.{item_length, trace_each}
use Rattle.cm_mtrace.proofs.LineTexts.{line_before, lines_are, lines_on, text_lines}
use Rattle.cm_mtrace.proofs.Steps.{begins_not}
use Rattle.cm_mtrace.specs.inner.Reading.{AreLines, IsLine, LineGives}
use Rattle.cm_mtrace.specs.Trace.{BeginsTrace, GiveItems, IsBadLine, IsFirstBad, IsItem, IsTrace, Section, items_of}
use Rattle.cm_mtrace.specs.Trace.{line_of, open_line, text_of, trace_lines, whole_lines}
use Rattle.cm_mtrace.specs.declared.item.Item.{Item}
use Rattle.cm_mtrace.specs.declared.item.Item.TheVariants as items

begins_front : (lines : List (List ℕ)) (k : ℕ) → BeginsTrace lines → BeginsTrace (take k lines)
begins_front lines k b =
    let same : lines ++ b.1 ≡ take k lines ++ (drop k lines ++ b.1) =
    ap (λ l. l ++ b.1) (sym (take-append-drop k lines)) ∙ append_assoc (take k lines) (drop k lines) b.1 in
    (b.0, drop k lines ++ b.1, b.2, b.3 ∙ same)

-- no line is bad as long as the lines begin a trace
none_before : (text : List ℕ) (lines more : List (List ℕ)) → whole_lines text ≡ lines ++ more → BeginsTrace lines
    → (line : ℕ) → line < length lines + 1 → ¬ IsBadLine text line
none_before text lines more whole b line h bad =
    elim bad [
      | inl p ↦ p.1 (subst (λ w. BeginsTrace (take line w)) (sym whole)
          (subst BeginsTrace (sym (take-append-le line lines more (omega arith))) (begins_front lines line b)))
      | inr q ↦ absurd (omega (arith, q.0, ap length whole, length-append lines more, h))
    ]

-- a whole line behind these lines, with which no trace begins
first_bad_whole : (text : List ℕ) (lines more : List (List ℕ)) (line : List ℕ) → BeginsTrace lines
    → whole_lines text ≡ lines ++ line ∷ more → ¬ BeginsTrace (lines ++ line ∷ []) → IsFirstBad text (length lines + 1)
first_bad_whole text lines more line b whole none = record {
  bad = inl (
    omega (arith, ap length whole, length-append lines (line ∷ more)),
    subst (λ w. ¬ BeginsTrace (take (length lines + 1) w)) (sym whole) (subst (λ l. ¬ BeginsTrace l)
        (sym (front lines line more)) none),
  );
  first = none_before text lines (line ∷ more) whole b;
}
  where
    front : (xs : List (List ℕ)) (x : List ℕ) (ys : List (List ℕ)) → take (length xs + 1) (xs ++ x ∷ ys) ≡ xs ++ x ∷ []
    front xs x ys = ap (take (length xs + 1)) (sym (append_assoc xs (x ∷ []) ys))
        ∙ take_at (xs ++ x ∷ []) ys (length xs + 1) (omega (arith, length-append xs (x ∷ [])))

-- an open line, or no bytes
pub first_bad_open : (text : List ℕ) → BeginsTrace (whole_lines text) → (0 < length (open_line text)) ⊎ (text ≡ [])
    → IsFirstBad text (length (whole_lines text) + 1)
first_bad_open text b why = record {
  bad = inr (refl, why);
  first = none_before text (whole_lines text)
      [] (sym (append-nil (whole_lines text))) b;
}

-- a line that gives something has at most 80 bytes
pub gives_short : (before : ℕ) (line : List ℕ) (given : List Item) → LineGives before line given → length line ≤ 80
gives_short before line given l = by before l
  where
    by : (n : ℕ) → LineGives n line given → length line ≤ 80
    by zero l = omega (arith, ap length (l.first refl).0)
    by (suc zero) l = let s = l.second (omega arith) in omega (arith, ap length s.2, item_length (items.Test s.0) s.1)
    by (suc (suc n)) l = let m = l.later (omega arith) in omega (arith, ap length m.2, item_length m.0 m.1)

-- the bytes before a newline are at least those of a front without one
longer_front : (line after front more : List ℕ) → IsLine front → line ++ 10 ∷ after ≡ front ++ more
    → length front ≤ length line
longer_front line after [] more is e = omega arith
longer_front [] after (c ∷ front) more is e = let same : 10 ≡ c = cc in absurd (is.0 (sym same))
longer_front (b ∷ line) after (c ∷ front) more is e = let rest : line ++ 10 ∷ after ≡ front ++ more = cc in
    omega (arith, longer_front line after front more is.1 rest)

pub whole_text : (lines : List (List ℕ)) → AllByRecursion IsLine lines → AreLines (text_of lines) lines []
whole_text lines each = record { spelled = sym (append-nil (text_of lines)); each = each; last = tt }

-- A text of whole lines that begin a trace, and behind them a line that gives nothing, however it goes on.
pub refused_whole : (text after more line : List ℕ) (lines : List (List ℕ)) → AllByRecursion IsLine lines
    → IsLine line → BeginsTrace lines → text ≡ text_of lines ++ (line ++ codes "\n" ++ after)
    → ((given : List Item) → ¬ LineGives (length lines) line given) → IsFirstBad (text ++ more) (length lines + 1)
refused_whole text after more line lines each is b spelled none =
    let w = whole_lines (after ++ more) in
    let o = open_line (after ++ more) in
    let behind = subst (λ t. AreLines t (line ∷ w) o) (sym (append_assoc (line ++ codes "\n") after more))
    (line_before line (after ++ more) w o is (text_lines (after ++ more))) in
    let all = lines_on (text_of lines) ((line ++ codes "\n" ++ after) ++ more) lines (line ∷ w) [] o
    (whole_text lines each) behind in
    let same : text_of lines ++ ((line ++ codes "\n" ++ after) ++ more) ≡ text ++ more =
    sym (ap (λ t. t ++ more) spelled ∙ append_assoc (text_of lines) (line ++ codes "\n" ++ after) more) in
    first_bad_whole (text ++ more) lines w line b (lines_are _ _ _ (subst (λ t. AreLines t (lines ++ line ∷ w) o)
    same all)).0 (begins_not lines line none)

-- the open line is longer than any line of a trace
refused_by : (text : List ℕ) (left more : List ℕ) (lines whole : List (List ℕ)) (o : List ℕ) → IsLine left
    → 80 < length left → BeginsTrace lines → left ++ more ≡ text_of whole ++ o → whole_lines text ≡ lines ++ whole
    → open_line text ≡ o → IsFirstBad text (length lines + 1)
refused_by text left more lines [] o is long b spelled whole last =
    let same : whole_lines text ≡ lines = whole ∙ append-nil lines in
    subst (λ l. IsFirstBad text (length l + 1)) same (first_bad_open text (subst BeginsTrace (sym same) b)
    (inl (omega (arith, ap length last, ap length spelled, length-append left more, long))))
refused_by text left more lines (line ∷ rest) o is long b spelled whole last =
    let longer = longer_front line (text_of rest ++ o) left more is
    (sym (spelled ∙ append_assoc (line ++ codes "\n") (text_of rest) o ∙ append_assoc line (codes "\n")
    (text_of rest ++ o))) in
    first_bad_whole text lines rest line b whole (begins_not lines line (λ given l. omega (
      arith,
      gives_short (length lines) line given l,
      longer,
      long,
    )))

pub refused_open : (text more left : List ℕ) (lines : List (List ℕ)) → AreLines text lines left → 80 < length left
    → BeginsTrace lines → IsFirstBad (text ++ more) (length lines + 1)
refused_open text more left lines are long b =
    let rest = text_lines (left ++ more) in
    let all = lines_are _ _ _ (lines_on text more lines (whole_lines (left ++ more)) left (open_line (left ++ more))
    are rest) in
    refused_by (text ++ more) left more lines (whole_lines (left ++ more)) (open_line (left ++ more))
    are.last long b rest.spelled all.0 all.1

-- where the whole lines begin a trace, some are there, and no line is open, no line is bad
pub none_bad : (text : List ℕ) → BeginsTrace (whole_lines text) → length (open_line text) ≡ 0
    → 0 < length (whole_lines text) → (line : ℕ) → ¬ IsBadLine text line
none_bad text b closed some line bad =
    elim bad [
      | inl p ↦ p.1 (begins_front (whole_lines text) line b)
      | inr q ↦ elim q.1 [
        | inl left ↦ absurd (omega (arith, left, closed))
        | inr empty ↦ absurd (omega (arith, some, ap (λ t. length (whole_lines t)) empty))
      ]
    ]

no_length : {X : Type 0} (xs : List X) → length xs ≡ 0 → xs ≡ []
no_length [] e = refl
no_length (x ∷ xs) e = absurd (omega arith)

pub no_bytes : (text : List ℕ) → length (whole_lines text) ≡ 0 → length (open_line text) ≡ 0 → text ≡ []
no_bytes text none closed =
    (text_lines text).spelled ∙ (λ i. text_of (no_length (whole_lines text) none i) ++ no_length (open_line text)
    closed i)

-- a trace has no bad line
pub trace_good : (sections : List Section) (text : List ℕ) → IsTrace sections text → (line : ℕ) → ¬ IsBadLine text line
trace_good sections text trace =
    let are : AreLines text (trace_lines sections) [] = record {
      spelled = trace.spelled
          ∙ sym (append-nil (text_of (trace_lines sections)));
      each = trace_each sections trace.valid;
      last = tt;
    } in
    let lines = lines_are text (trace_lines sections) [] are in
    none_bad text (sections, [], trace.valid, sym (append-nil (whole_lines text) ∙ lines.0)) (ap length lines.1)
    (omega (arith, ap length lines.0))

closed_trace : (text : List ℕ) (lines : List (List ℕ)) (its : List Item) → 0 < length lines → text ≡ text_of lines
    → GiveItems lines its → (sections : List Section) × IsTrace sections text × (its ≡ items_of sections)
closed_trace text [] its some spelled give = absurd (omega arith)
closed_trace text (first ∷ rest) its some spelled give =
    let s = give.sections in (
      s.0,
      record {
        valid = subst (All IsItem) s.1 give.valid;
        spelled = spelled
            ∙ ap text_of (λ i. give.spelled.0 i ∷ (give.spelled.1 ∙ ap (map line_of) s.1) i);
      },
      s.1,
    )

-- a text with no bad line is a trace, of the items that its lines give
pub good_trace : (text : List ℕ) (its : List Item) → ((line : ℕ) → ¬ IsBadLine text line)
    → GiveItems (whole_lines text) its → (sections : List Section) × IsTrace sections text × (its ≡ items_of sections)
good_trace text its good give =
    let n = length (whole_lines text) in
    let closed : length (open_line text) ≡ 0 = elim (cases_lt 0 (length (open_line text))) [
      | inl left ↦
          absurd (good (n + 1) (inr (refl, inl left)))
      | inr none ↦ omega (arith, none)
    ] in
    let some : 0 < n = elim (cases_lt 0 n) [
      | inl s ↦ s
      | inr none ↦ absurd (good (n + 1) (inr (refl, inr (no_bytes text (omega (arith, none)) closed))))
    ] in
    closed_trace text (whole_lines text) its some ((text_lines text).spelled
    ∙ ap (λ o. text_of (whole_lines text) ++ o) (no_length (open_line text) closed)
    ∙ append-nil (text_of (whole_lines text))) give
