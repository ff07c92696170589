-- How places go on from byte to byte.
use Rattle.std.proofs.Common.{arith, ◌≡◌, ◌≢◌, ℕ, zero, suc, ◌+◌, ◌-◌, ◌^◌, ◌<◌, ◌≤◌, true, false, not, List, length}
use Rattle.std.proofs.Common.{drop, take, get_or, Some, ap, sym, subst, refl, ◌∙◌}
use Rattle.std.specs.List.{prefix_len, slice_get, suffix_len}
use Rattle.std.proofs.lemmas.Bool.{false≢true, ne_eqb}
use Rattle.std.proofs.lemmas.List.{get_or-drop, length-drop, length-take}
use Rattle.std.proofs.lemmas.Option.{get_or_from_slice_get, slice_get_within}
use Rattle.std.proofs.lemmas.List.Sums.{count_by-le-length, count_by_more_no, count_by_more_yes, prefix_len-drop_yes}
use Rattle.std.proofs.lemmas.List.Sums.{prefix_len-le-length, prefix_len_passes, suffix_len-le-length}
use Rattle.std.proofs.lemmas.List.Sums.{suffix_len-take_no, suffix_len-take_yes}
use Rattle.cm_text.specs.Place.{is_in_line, is_newline, place_in}
use Rattle.cm_text.specs.Standing.{IsKept, Standing}

-- the place of the first byte
pub place_none : (text : List ℕ) → ((place_in text 0).line ≡ 1) × ((place_in text 0).col ≡ 1)
unfolding place_in
place_none text = (refl, refl)

-- behind a newline
pub place_newline : (text : List ℕ) (at : ℕ) → at < length text → get_or text at 0 ≡ 10
    → ((place_in text (at + 1)).line ≡ (place_in text at).line + 1) × ((place_in text (at + 1)).col ≡ 1)
unfolding place_in
place_newline text at within here =
    let yes : is_newline (get_or text at 0) ≡ true = ap is_newline here in
    let no : is_in_line (get_or text (at + 1 - 1) 0) ≡ false = subst (λ k. is_in_line (get_or text k 0) ≡ false)
    (let e : at ≡ at + 1 - 1 = omega arith in e) (ap not yes) in (
      omega (arith, count_by_more_yes is_newline text at 0 within yes),
      omega (arith, suffix_len-take_no is_in_line text (at + 1) 0 (omega arith) (omega arith) no),
    )

-- behind another byte
pub place_other : (text : List ℕ) (at : ℕ) → at < length text → get_or text at 0 ≢ 10
    → ((place_in text (at + 1)).line ≡ (place_in text at).line)
    × ((place_in text (at + 1)).col ≡ (place_in text at).col + 1)
unfolding place_in
place_other text at within other =
    let no : is_newline (get_or text at 0) ≡ false = ne_eqb (get_or text at 0) 10 other in
    let back : at + 1 - 1 ≡ at = omega arith in
    let yes : is_in_line (get_or text (at + 1 - 1) 0) ≡ true = subst (λ k. is_in_line (get_or text k 0) ≡ true)
    (sym back) (ap not no) in
    let more : suffix_len is_in_line (take (at + 1) text) ≡ 1 + suffix_len is_in_line (take at text) =
    suffix_len-take_yes is_in_line text (at + 1) 0 (omega arith) (omega arith) yes
    ∙ ap (λ k. 1 + suffix_len is_in_line (take k text)) back in
    (omega (arith, count_by_more_no is_newline text at 0 within no), omega (arith, more))

pub place_bounds : (text : List ℕ) (at : ℕ) → (1 ≤ (place_in text at).line) × (1 ≤ (place_in text at).col)
    × ((place_in text at).line ≤ at + 1) × ((place_in text at).col ≤ at + 1)
unfolding place_in
place_bounds text at =
    let size : length (take at text) ≤ at = omega (arith, length-take at text) in (
      omega arith,
      omega arith,
      omega (arith, count_by-le-length is_newline (take at text), size),
      omega (arith, suffix_len-le-length is_in_line (take at text), size),
    )

-- a place is its line and its column
pub place_of : (text : List ℕ) (at line col : ℕ) → (place_in text at).line ≡ line → (place_in text at).col ≡ col
    → record { line = line; col = col } ≡ place_in text at
place_of text at line col l c = λ i. record { line = sym l i; col = sym c i }

pub kept_none : (text : List ℕ) → length text < 2 ^ 32 - 1 → IsKept text 0 1 0
kept_none text short = let first = place_none text in record {
  short = short;
  within = omega arith;
  the_line =
      first.0;
  the_col = omega (arith, first.1);
}

pub kept_newline : (text : List ℕ) (at line before : ℕ) → IsKept text at line before → at < length text
    → get_or text at 0 ≡ 10 → IsKept text (at + 1) (line + 1) (at + 1)
kept_newline text at line before kept within here =
    let more = place_newline text at within here in
    record {
      short = kept.short;
      within = omega arith;
      the_line = omega (arith, more.0, kept.the_line);
      the_col =
          omega (arith, more.1);
    }

pub kept_other : (text : List ℕ) (at line before : ℕ) → IsKept text at line before → at < length text
    → get_or text at 0 ≢ 10 → IsKept text (at + 1) line before
kept_other text at line before kept within other =
    let more = place_other text at within other in
    record {
      short = kept.short;
      within = omega arith;
      the_line = omega (arith, more.0, kept.the_line);
      the_col =
          omega (arith, more.1, kept.the_col);
    }

-- the byte that a cursor reads
pub read_at : (text : List ℕ) (at byte : ℕ) (standing : Standing) → record { text = text; at = at } ≡ standing
    → Some byte ≡ slice_get standing.text standing.at → (at < length text) × (get_or text at 0 ≡ byte)
read_at text at byte standing view gives =
    let here : slice_get text at ≡ Some byte = ap (λ (s : Standing). slice_get s.text s.at) view ∙ sym gives in
    (slice_get_within text at byte here, get_or_from_slice_get text at byte 0 here)

-- so many bytes of the line further on
pub kept_more : (text : List ℕ) (count at line before : ℕ) → IsKept text at line before
    → count ≤ prefix_len is_in_line (drop at text) → IsKept text (at + count) line before
kept_more text zero at line before kept some = subst (λ k. IsKept text k line before) (let e : at ≡ at + 0 =
    omega arith in e) kept
kept_more text (suc count) at line before kept some =
    let first : 0 < prefix_len is_in_line (drop at text) = omega arith in
    let within : at < length text = omega (
      arith,
      prefix_len-le-length is_in_line (drop at text),
      length-drop at text,
    ) in
    let here : is_in_line (get_or text at 0) ≡ true =
    ap is_in_line (ap (λ k. get_or text k 0) (let e : at ≡ at + 0 = omega arith in e) ∙ sym (get_or-drop at text 0 0))
    ∙ prefix_len_passes is_in_line (drop at text) 0 0 first in
    let other : get_or text at 0 ≢ 10 = λ e. false≢true (sym (ap is_in_line e) ∙ here) in
    let rest : count ≤ prefix_len is_in_line (drop (at + 1) text) =
    omega (arith, prefix_len-drop_yes is_in_line text at 0 within here) in
    subst (λ k. IsKept text k line before) (let e : at + 1 + count ≡ at + suc count = omega arith in
    e) (kept_more text count (at + 1) line before (kept_other text at line before kept within other) rest)
