use Rattle.std.proofs.Common.{◌≡◌, ◌≢◌, [], ◌∷◌, refl}
use Rattle.cm_mtrace.specs.declared.item.Who.TheVariants.{Other}
use Rattle.cm_judge.specs.Summary.{cores_of, union_of}
use Rattle.cm_judge.proofs.Accesses.{by_access}
use Rattle.cm_judge.proofs.summary.LineSummary.union.Goals as goal

pub returns : goal.returns
returns c =
    by_access (λ who kind. who ≢ Other
    → cores_of record {
      cores =
          c.union_at.result ∷ c.union_at-2.result ∷ c.union_at-3.result ∷ c.union_at-4.result ∷ [];
    } who kind ≡ union_of
    (cores_of c.args.self.now who kind) (cores_of c.args.other.now who kind))
    (λ _. c.union_at.ensures)
    (λ _. c.union_at-2.ensures)
    (λ _. c.union_at-3.ensures)
    (λ _. c.union_at-4.ensures)
    (λ kind none. absurd (none refl))
