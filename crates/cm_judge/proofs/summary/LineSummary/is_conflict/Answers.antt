use Rattle.std.proofs.Common.{inl, inr, refl}
use Rattle.cm_mtrace.specs.declared.item.Kind.TheVariants.{Read, Write}
use Rattle.cm_judge.proofs.Accesses.{conflict_from, differ_from}
use Rattle.cm_judge.proofs.summary.LineSummary.is_conflict.Goals as goal

pub returns : goal.returns
returns c entries line h =
    let s = c.args.self.now in (
      λ t. elim (c.some_differ.ensures.0 t) [
        | inl d ↦ conflict_from s entries line Write Write h (inl refl) d
        | inr o ↦ elim o [
          | inl d ↦ conflict_from s entries line Write Read h (inl refl) d
          | inr d ↦ conflict_from s entries line Read Write h (inr refl) d
        ]
      ],
      λ conflict. c.some_differ.ensures.1 (differ_from s entries line h conflict),
    )
