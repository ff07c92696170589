-- The worked examples of the evaluation.
use Rattle.std.proofs.Common.{◌≡◌, pos, true, false, [], ◌∷◌, Some, None}
use Rattle.cm_value.specs.declared.value.Value.TheVariants as value
use Rattle.cm_eval.specs.State.{store}
use Rattle.cm_eval.specs.Evaluation.{named}
use Rattle.cm_eval.specs.Run.{Ended, Stopped, evaluation_of}
use Rattle.cm_eval.proofs.Examples.{out_elem, out_int, out_tag, elem_compared}
use Rattle.cm_samples.specs.Examples.{untouched, touches, pair, world}
use Rattle.cm_world.specs.Path.{path_of_world}
use Rattle.cm_samples.specs.Counters.{inc_tables, next_tables, bounded_tables}
use Rattle.cm_samples.specs.Flags.{open_tables}
use Rattle.cm_samples.proofs.Meanings.{means-num, means-tag, means-local, means-whole, means-read, means-shift}
use Rattle.cm_samples.proofs.Meanings.{means-into, means-compare, means-not, turns-let, turns-set, turns-assume}
use Rattle.cm_samples.proofs.Meanings.{turns-return, same-elem}

-- 3 + 1 is above its type, so the run is blocked
pub inc_at_3 : evaluation_of inc_tables 0 [] (store (value.Int (pos 3) ∷ []) []) untouched []
    ≡ Stopped (touches (named 0 None) false) (2 ∷ [])
unfolding inc_tables
inc_at_3 = simp (turns-set, means-into, means-shift, means-whole, out_int)

-- 2 + 1 is in range and written
pub inc_at_2 : evaluation_of inc_tables 0 [] (store (value.Int (pos 2) ∷ []) []) untouched []
    ≡ Ended (value.Tag 1) (store (value.Int (pos 2) ∷ []) (record { cell = named 0 None; value = value.Int (pos 3) }
    ∷ [])) (touches (named 0 None) true) (1 ∷ [])
unfolding inc_tables
inc_at_2 = simp (turns-set, turns-return, means-into, means-shift, means-whole, means-tag, out_int)

-- the reply is the old number
pub next_at_1 : evaluation_of next_tables 0 [] (store (value.Int (pos 1) ∷ []) []) untouched []
    ≡ Ended (value.Int (pos 1)) (store (value.Int (pos 1) ∷ []) (record {
      cell = named 0 None;
      value =
          value.Int (pos 2);
    } ∷ [])) (touches (named 0 None) true) (1 ∷ [])
unfolding next_tables
next_at_1 = simp (turns-let, turns-set, turns-return, means-into, means-shift, means-whole, means-local, out_int)

-- the invariant of the new cell is asked first: 3 is above 2, so it is false
pub bounded_at_3 : evaluation_of bounded_tables 0 [] (store (value.Int (pos 3) ∷ []) []) untouched []
    ≡ Stopped (touches (named 0 None) false) (2 ∷ 0 ∷ [])
unfolding bounded_tables
bounded_at_3 = simp (
  turns-set,
  means-into,
  means-shift,
  means-whole,
  means-compare,
  means-local,
  means-num,
  out_int,
  out_tag,
)

-- `not` inspects false, `assume` inspects true, and the write compares its key with the one that was read
pub open_unused : evaluation_of open_tables 0 (value.Elem 0 ∷ []) (store (value.Tag 0 ∷ []) []) untouched []
    ≡ Ended (value.Elem 0) (store (value.Tag 0 ∷ []) (record {
      cell = named 0 (Some (value.Elem 0));
      value =
          value.Tag 1;
    } ∷ []))
    (touches (named 0 (Some (value.Elem 0))) true) (0 ∷ 1 ∷ 0 ∷ [])
unfolding open_tables
open_unused = simp (
  turns-assume,
  turns-set,
  turns-return,
  means-not,
  means-read,
  means-local,
  means-tag,
  elem_compared,
  same-elem,
  out_elem,
  out_tag,
)

-- the first increment gives 3 and the second is blocked, so the other order is not run
pub inc_twice_at_2 : path_of_world inc_tables (pair 0 0) (world (store (value.Int (pos 2) ∷ []) []) [] []) ≡ 1 ∷ 2 ∷ []
unfolding inc_tables
inc_twice_at_2 = simp (turns-set, turns-return, means-into, means-shift, means-whole, means-tag, out_int)

-- the second call finds the first one's descriptor used: its touch logs 0, `not` 1 and `assume` 0
pub open_twice : path_of_world open_tables (pair 0 0) (world (store (value.Tag 0 ∷ []) []) (value.Elem 0 ∷ [])
    (value.Elem 0 ∷ [])) ≡ 0 ∷ 1 ∷ 0 ∷ 0 ∷ 1 ∷ 0 ∷ []
unfolding open_tables
open_twice = simp (
  turns-assume,
  turns-set,
  turns-return,
  means-not,
  means-read,
  means-local,
  means-tag,
  elem_compared,
  same-elem,
  out_elem,
  out_tag,
)
