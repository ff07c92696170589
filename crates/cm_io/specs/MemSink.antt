-- A sink in memory: what a put takes and answers.
use Rattle.std.specs.Prelude.{ℕ, ◌+◌, ◌-◌, ◌==◌, ◌&&◌, ◌||◌, min, List, ◌++◌, length, take, Bool, is_none, nat_le}
use Rattle.std.specs.Prelude.{if◌then◌else◌}
use Rattle.std.specs.declared.option.Option.{Option}
use Rattle.std.specs.List.{find}
use Rattle.std.specs.Option.{option_map_or}
use Rattle.cm_io.specs.Causes.{one_more}
use Rattle.cm_io.specs.declared.mem_sink.PutFail.{PutFail}

-- the bytes that it took, the room for all of them, the puts that fail, how many puts of pieces that aren't empty there
-- were, and how many puts answered `Failed`
pub record SinkState : Type 0 where
  pub bytes : List ℕ
  pub room : ℕ
  pub fails : List PutFail
  pub calls : ℕ
  pub failed : ℕ

-- the room that is left
abbrev pub left_of : SinkState → ℕ
left_of s = s.room - length s.bytes

-- the first entry for the next put, which is numbered from 1
abbrev pub entry_of : SinkState → Option PutFail
entry_of s = find (λ fail. fail.call == s.calls + 1) s.fails

-- how many bytes a put takes of a piece of this length: all that fit, and no more than its entry says
abbrev pub taken_of : SinkState → ℕ → ℕ
taken_of s size = min (option_map_or (λ fail. min fail.takes size) (entry_of s) size) (left_of s)

-- whether a put of a piece succeeds: it is empty, or it fits and no entry names the put
abbrev pub succeeds_at : SinkState → List ℕ → Bool
succeeds_at s piece = (length piece == 0) || (is_none (entry_of s) && nat_le (length piece) (left_of s))

-- the sink after a put of a piece, which an empty one leaves as it is
abbrev pub after_put : SinkState → List ℕ → SinkState
after_put s piece =
    if length piece == 0 then s
    else record s {
      bytes = s.bytes ++ take (taken_of s (length piece)) piece;
      calls = one_more s.calls;
      failed = if succeeds_at s piece then s.failed else one_more s.failed;
    }
