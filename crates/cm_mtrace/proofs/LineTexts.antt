-- A text as its lines.
use Rattle.std.proofs.Common.{arith, ◌≡◌, ◌≢◌, ◌==◌, ℕ, ◌-◌, false, List, [], ◌∷◌, ◌++◌, codes, length, take, get_or}
use Rattle.std.proofs.Common.{ap, sym, subst, refl, ◌∙◌, inl, inr, append_assoc, length-append}
use Rattle.std.specs.List.{AllByRecursion}
use Rattle.std.proofs.lemmas.Bool.{ne_eqb}
use Rattle.std.proofs.lemmas.Bool.Decides.{eqb_tells}
use Rattle.std.proofs.lemmas.List.{get_or_at, take_at}
use Rattle.std.proofs.lemmas.List.Concat.{flat_map-append}
use Rattle.std.proofs.lemmas.List.Elements.{All-from_recursion}
use Rattle.std.proofs.lemmas.List.Splits.{slice_split_at, slice_split_none}
use Rattle.cm_mtrace.specs.inner.Reading.{AreLines, IsLine}
use Rattle.cm_mtrace.specs.Trace.{lines_of, open_line, text_of, whole_lines}

pub all_append : {X : Type 0} (P : X → Type 0) (xs ys : List X) → AllByRecursion P xs → AllByRecursion P ys
    → AllByRecursion P (xs ++ ys)
all_append P [] ys a b = b
all_append P (x ∷ xs) ys a b = (a.0, all_append P xs ys a.1 b)

-- no byte of a line is a newline
no_newlines : (line : List ℕ) → IsLine line → AllByRecursion (λ b. (b == 10) ≡ false) line
no_newlines [] is = tt
no_newlines (b ∷ bs) is = (ne_eqb b 10 is.0, no_newlines bs is.1)

cut_at : (line rest : List ℕ) → IsLine line → lines_of (line ++ 10 ∷ rest) ≡ line ∷ lines_of rest
cut_at line rest is = slice_split_at (λ b. b == 10) line 10 rest (All-from_recursion _ line (no_newlines line is)) refl

-- whole lines are cut off one by one
lines_of-text_of : (whole : List (List ℕ)) (rest : List ℕ) → AllByRecursion IsLine whole
    → lines_of (text_of whole ++ rest) ≡ whole ++ lines_of rest
lines_of-text_of [] rest all = refl
lines_of-text_of (line ∷ whole) rest all =
    ap lines_of (append_assoc (line ++ codes "\n") (text_of whole) rest ∙ append_assoc line (codes "\n")
    (text_of whole ++ rest))
    ∙ cut_at line (text_of whole ++ rest) all.0
    ∙ ap (λ l. line ∷ l) (lines_of-text_of whole rest all.1)

lines_of-line : (line : List ℕ) → IsLine line → lines_of line ≡ line ∷ []
lines_of-line line is = slice_split_none (λ b. b == 10) line (All-from_recursion _ line (no_newlines line is))

lines_of_lines : (text : List ℕ) (whole : List (List ℕ)) (left : List ℕ) → AreLines text whole left
    → lines_of text ≡ whole ++ left ∷ []
lines_of_lines text whole left are = ap lines_of are.spelled ∙ lines_of-text_of whole left are.each
    ∙ ap (λ l. whole ++ l) (lines_of-line left are.last)

front_snoc : (xs : List (List ℕ)) (x : List ℕ) → take (length (xs ++ x ∷ []) - 1) (xs ++ x ∷ []) ≡ xs
front_snoc xs x = take_at xs (x ∷ []) (length (xs ++ x ∷ []) - 1) (omega (arith, length-append xs (x ∷ [])))

last_snoc : (xs : List (List ℕ)) (x : List ℕ) → get_or (xs ++ x ∷ []) (length (xs ++ x ∷ []) - 1) [] ≡ x
last_snoc xs x = get_or_at xs x [] [] (length (xs ++ x ∷ []) - 1) (omega (arith, length-append xs (x ∷ [])))

-- the whole lines of a text, and its open one
pub lines_are : (text : List ℕ) (whole : List (List ℕ)) (left : List ℕ) → AreLines text whole left
    → (whole_lines text ≡ whole) × (open_line text ≡ left)
lines_are text whole left are =
    let e = lines_of_lines text whole left are in (
      ap (λ l. take (length l - 1) l) e ∙ front_snoc whole left,
      ap (λ l. get_or l (length l - 1) []) e ∙ last_snoc whole left,
    )

-- one byte before lines
onto_lines : (b : ℕ) (bs : List ℕ) (whole : List (List ℕ)) (left : List ℕ) → b ≢ 10 → AreLines bs whole left
    → (w : List (List ℕ)) × (l : List ℕ) × AreLines (b ∷ bs) w l
onto_lines b bs [] left other are = (
  [],
  b ∷ left,
  record {
    spelled = ap (λ t. b ∷ t) are.spelled;
    each =
        tt;
    last = (other, are.last);
  },
)
onto_lines b bs (line ∷ whole) left other are = (
  (b ∷ line) ∷ whole,
  left,
  record { spelled = ap (λ t. b ∷ t) are.spelled; each = ((other, are.each.0), are.each.1); last = are.last },
)

some_lines : (text : List ℕ) → (w : List (List ℕ)) × (l : List ℕ) × AreLines text w l
some_lines [] = ([], [], record { spelled = refl; each = tt; last = tt })
some_lines (b ∷ bs) =
    let rest = some_lines bs in
    elim (eqb_tells b 10) [
      | inl newline ↦ (
        [] ∷ rest.0,
        rest.1,
        record {
          spelled = (λ i. newline.1 i ∷ rest.2.spelled i);
          each =
              (tt, rest.2.each);
          last = rest.2.last;
        },
      )
      | inr other ↦ onto_lines b bs rest.0 rest.1 other.1 rest.2
    ]

-- each text is its whole lines and its open one
pub text_lines : (text : List ℕ) → AreLines text (whole_lines text) (open_line text)
text_lines text =
    let s = some_lines text in
    let e = lines_are text s.0 s.1 s.2 in
    subst (λ w. AreLines text w (open_line text)) (sym e.0) (subst (AreLines text s.0) (sym e.1) s.2)

-- what stands behind the whole lines goes on
pub lines_on : (text more : List ℕ) (whole whole' : List (List ℕ)) (left left' : List ℕ) → AreLines text whole left
    → AreLines (left ++ more) whole' left' → AreLines (text ++ more) (whole ++ whole') left'
lines_on text more whole whole' left left' are on = record {
  spelled = ap (λ t. t ++ more) are.spelled ∙ append_assoc (text_of whole) left more
      ∙ ap (λ t. text_of whole ++ t) on.spelled ∙ sym (append_assoc (text_of whole) (text_of whole') left')
      ∙ ap (λ t. t ++ left') (sym (flat_map-append (λ line. line ++ codes "\n") whole whole'));
  each = all_append IsLine whole whole' are.each on.each;
  last = on.last;
}

-- a line and its newline before lines
pub line_before : (line text : List ℕ) (whole : List (List ℕ)) (left : List ℕ) → IsLine line → AreLines text whole left
    → AreLines (line ++ codes "\n" ++ text) (line ∷ whole) left
line_before line text whole left is are = record {
  spelled = ap (λ t. line ++ codes "\n" ++ t) are.spelled
      ∙ sym (append_assoc (line ++ codes "\n") (text_of whole) left);
  each = (is, are.each);
  last = are.last;
}

pub no_lines : (text : List ℕ) → IsLine text → AreLines text [] text
no_lines text is = record { spelled = refl; each = tt; last = is }
