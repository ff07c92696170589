-- How classes are kept.
use Rattle.std.specs.Prelude.{◌≡◌, ◌≢◌, ◌<◌, ◌≤◌, ◌*◌, ◌^◌, ◌==◌, ◌&&◌, ◌||◌, ℕ, Bool, true, false, nat_lt, nat_le}
use Rattle.std.specs.Prelude.{if◌then◌else◌, List, length, map, slice_index}
use Rattle.std.specs.List.{range_with_len}
use Rattle.cm_sorts.specs.declared.words.Variable.{Variable}
use Rattle.cm_sorts.specs.inner.Pairs.{pairs_below, are_marked}
use Rattle.cm_sorts.specs.Partition.{Partition}

abbrev pub labels_of : List Variable → List ℕ
labels_of variables = map (λ (v : Variable). v.label) variables

abbrev pub sorts_of : List Variable → List ℕ
sorts_of variables = map (λ (v : Variable). v.sort) variables

abbrev pub rows_of : ℕ → List ℕ → List (List Bool)
rows_of count words = map (λ x. map (are_marked words x) (range_with_len 0 x)) (range_with_len 0 count)

abbrev pub partition_of : List Variable → List ℕ → Partition
partition_of variables words = record {
  sorts = sorts_of variables;
  labels = labels_of variables;
  apart = rows_of (length variables) words;
  spare = nat_le (pairs_below (length variables)) (64 * length words);
}

pub record IsProper (labels words : List ℕ) : Type 0 where
  pub few : length labels < 2 ^ 32
  pub least : (x : ℕ) → x < length labels → slice_index labels x ≤ x
  pub root : (x : ℕ) → x < length labels → slice_index labels (slice_index labels x) ≡ slice_index labels x
  -- what differs is of two classes, whose labels are marked too
  pub apart : (x y : ℕ) → x < length labels → y < length labels → are_marked words x y ≡ true
      → slice_index labels x ≢ slice_index labels y
  pub marked : (x y : ℕ) → x < length labels → y < length labels → are_marked words x y ≡ true
      → are_marked words (slice_index labels x) (slice_index labels y) ≡ true
  pub unmarked : (x y : ℕ) → length labels ≤ x → are_marked words x y ≡ false

-- a class is of one sort, and what differs too
pub record AreOfOneSort (sorts labels words : List ℕ) : Type 0 where
  pub classes : (x : ℕ) → x < length labels → slice_index sorts (slice_index labels x) ≡ slice_index sorts x
  pub marks : (x y : ℕ) → x < length labels → y < length labels → are_marked words x y ≡ true
      → slice_index sorts x ≡ slice_index sorts y

pub record IsKept (sorts labels words : List ℕ) : Type 0 where
  pub proper : IsProper labels words
  pub sorted : AreOfOneSort sorts labels words

-- what a difference from `gone` to a number below n gives `keep`
abbrev pub is_shared : List ℕ → ℕ → ℕ → ℕ → ℕ → ℕ → Bool
is_shared words keep gone n i j =
    (i == keep && (nat_lt j n && are_marked words gone j)) || (j == keep && (nat_lt i n && are_marked words gone i))

abbrev pub renamed : ℕ → ℕ → ℕ → ℕ
renamed gone keep n = if n == gone then keep else n

abbrev pub relabelled : ℕ → ℕ → Variable → Variable
relabelled gone keep v = record v { label = renamed gone keep v.label }
