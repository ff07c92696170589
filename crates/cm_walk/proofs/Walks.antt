-- What an enumeration of a pair's paths says of the pair.
use Rattle.std.proofs.Common.{Result, Ok, Err, IfOk, IfErr, IfNone, Option, None, ◌≡◌, ◌<◌, ℕ, List, [], length, refl, sym, subst, arith}
use Rattle.cm_model.specs.Limits.{decision_limit}
use Rattle.cm_model.specs.Tables.{Tables}
use Rattle.cm_model.specs.declared.pair.Pair.{Pair}
use Rattle.cm_model.specs.declared.pair.Over.{Over}
use Rattle.cm_model.specs.declared.pair.Over.TheVariants as over
use Rattle.cm_world.specs.declared.world.World.{World}
use Rattle.cm_world.specs.World.{IsWorldOf}
use Rattle.cm_world.specs.Path.{path_of_world}
use Rattle.cm_world.specs.Over.{IsPath, IsOver, IsOverBy, TooManyCells}
use Rattle.cm_world.specs.OpenPrefix.{IsOpenPrefix}
use Rattle.cm_forks.specs.Paths.{Begins}
use Rattle.cm_forks.specs.Counts.{AtLeast, IsOpen}
use Rattle.cm_forks.specs.Faults.{IsRight, TooMany, TooLong}
use Rattle.cm_forks.specs.declared.fault.Fault.{Fault}
use Rattle.cm_forks.specs.declared.fault.Fault.TheVariants as fault
use Rattle.cm_forks.specs.declared.limits.Limits.{Limits}
use Rattle.cm_forks.proofs.OfPairs.{open_prefix, too_long_a_path, too_many_paths}
use Rattle.cm_walk.specs.Sets.{TouchesFew}

-- what holds where an answer is a fault, and where nothing is left
pub err : {A E : Type 0} (r : Result A E) (e : E) (P : E → Type 0) → r ≡ Err e → IfErr r P → P e
err r e P is h = subst (λ x. IfErr x P) is h

pub none_left : {A E : Type 0} (r : Result (Option A) E) (P : Type 0) → r ≡ Ok None
    → IfOk r (λ next. IfNone next P) → P
none_left r P is h = subst (λ x. IfOk x (λ next. IfNone next P)) is h

module _ (t : Tables) (p : Pair) where
  path_of : (w : World) → IsWorldOf t p w → IsPath t p (path_of_world t p w)
  path_of w is = record { world = w; is_world = is; has = refl }

  -- a world has a path
  pub some_path : ((w : World) × IsWorldOf t p w) → Begins (IsPath t p) []
  some_path some = (path_of_world t p some.0, path_of some.0 some.1)

  pub open_prefixes : (n : ℕ) → AtLeast (IsOpen (IsPath t p)) n → AtLeast (IsOpenPrefix t p) n
  open_prefixes n h = record {
    lists = h.lists;
    distinct = h.distinct;
    are = λ i lt. open_prefix t p _ (h.are i lt);
    count = h.count;
  }

  module _ (limits : Limits) (longest : limits.decisions ≡ decision_limit) where
    abbrev IsRightOf : Fault → Type 0
    IsRightOf = IsRight (IsPath t p) (TooManyCells t p) limits

    passed : (x : Over) → IsRightOf (fault.Over x) → IsOverBy t p limits.paths x
    passed over.Paths h = too_many_paths t p limits.paths h
    passed over.Long h = too_long_a_path t p (subst (TooLong (IsPath t p)) longest h)
    passed over.Cells h = h

    -- a fault names a limit that the pair passes
    pub over_by : (f : Fault) → IsRightOf f → (x : Over) → f ≡ fault.Over x → IsOverBy t p limits.paths x
    over_by f right x is = passed x (subst IsRightOf is right)

    -- where all paths were given, it passes none
    pub not_over : (TooMany (IsPath t p) limits.paths → ⊥) → (TooLong (IsPath t p) limits.decisions → ⊥)
        → ((path : List ℕ) → IsPath t p path → TouchesFew t p path) → IsOver t p limits.paths → ⊥
    not_over many long few (over.Paths, h) =
        many (record { paths = h.paths; distinct = h.distinct; are = h.are; many = h.many })
    not_over many long few (over.Long, h) =
        long (record {
          path = path_of_world t p h.world;
          is_path = path_of h.world h.is_world;
          long = subst (λ n. n < length (path_of_world t p h.world)) (sym longest) h.long;
        })
    not_over many long few (over.Cells, h) =
        let at_most = few (path_of_world t p h.world) (path_of h.world h.is_world) h.world h.is_world refl in
        absurd (omega (arith, at_most, h.many))
