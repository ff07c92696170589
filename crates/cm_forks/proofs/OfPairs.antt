-- The words of this crate at the paths of a pair are those of `cm_world`.
use Rattle.std.proofs.Common.{ℕ, ◌<◌, length, sym, subst}
use Rattle.cm_model.specs.Limits.{decision_limit}
use Rattle.cm_model.specs.Tables.{Tables}
use Rattle.cm_model.specs.declared.pair.Pair.{Pair}
use Rattle.cm_world.specs.Over.{IsPath, TooManyPaths, TooLongAPath}
use Rattle.cm_world.specs.OpenPrefix.{IsOpenPrefix}
use Rattle.cm_forks.specs.Paths.{Path}
use Rattle.cm_forks.specs.Counts.{IsOpen}
use Rattle.cm_forks.specs.Faults.{TooMany, TooLong}

module _ (t : Tables) (p : Pair) where
  pub open_prefix : (decisions : Path) → IsOpen (IsPath t p) decisions → IsOpenPrefix t p decisions
  open_prefix decisions o = record {
    before = o.before;
    last = o.last;
    other = o.other;
    is = o.is;
    differ = o.differ;
    begins = record { rest = o.begins.0; path = o.begins.1 };
    parts = record { rest = o.parts.0; path = o.parts.1 };
  }

  pub too_many_paths : (most : ℕ) → TooMany (IsPath t p) most → TooManyPaths t p most
  too_many_paths most m = record { paths = m.paths; distinct = m.distinct; are = m.are; many = m.many }

  pub too_long_a_path : TooLong (IsPath t p) decision_limit → TooLongAPath t p
  too_long_a_path l = record {
    world = l.is_path.world;
    is_world = l.is_path.is_world;
    long = subst (λ path. decision_limit < length path) (sym l.is_path.has) l.long;
  }
