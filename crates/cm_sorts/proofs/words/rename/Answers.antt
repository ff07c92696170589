use Rattle.std.proofs.Common.{◌≡◌, ◌<◌, ◌+◌, ◌++◌, ℕ, List, length, slice_index_or, slice_set, map, take, drop, ap, ◌∙◌}
use Rattle.std.proofs.Common.{refl, arith}
use Rattle.std.proofs.lemmas.Bool.{eq-eqb, ne_eqb}
use Rattle.std.proofs.lemmas.List.{get_or_default}
use Rattle.std.proofs.lemmas.List.Edits.{map_over_more}
use Rattle.cm_sorts.specs.inner.Words.{relabelled}
use Rattle.cm_sorts.specs.declared.words.Variable.{Variable}
use Rattle.cm_sorts.proofs.words.rename.Goals as goal
use Rattle.cm_sorts.proofs.words.rename.Goals.{then-variable-gone, else-variable-gone}

kept : (gone keep : ℕ) (v : Variable) → (v.label ≡ gone → ⊥) → v ≡ relabelled gone keep v
kept gone keep v h = rw (ne_eqb v.label gone h) refl

changed : (gone keep : ℕ) (v : Variable) → v.label ≡ gone → record { sort = v.sort; label = keep }
    ≡ relabelled gone keep v
changed gone keep v h = rw (eq-eqb v.label gone h) refl

more : (f : Variable → Variable) (xs ys zs : List Variable) (i : ℕ) (d : Variable) → i < length xs
    → length ys ≡ length xs → ys ≡ map f (take i xs) ++ drop i xs
    → zs ≡ slice_set ys i (f (slice_index_or ys i d)) → zs ≡ map f (take (i + 1) xs) ++ drop (i + 1) xs
more f xs ys zs i d h long before now =
    let same = get_or_default ys i d (slice_index_or ys i d) (omega arith) in
    now ∙ map_over_more f xs ys i (slice_index_or ys i d) h before same

pub loop-variable-preserved : goal.loop-variable-preserved
loop-variable-preserved c =
    let f = relabelled c.args.gone c.args.keep in
    let vs = c.loop-variable.variables in
    let i = c.loop-variable.variable-index in
    let d : Variable = record { sort = 0; label = 0 } in
    elim c.if-variable-gone.branch [
      | then-variable-gone w ↦ more f c.args.variables.now vs _ i d c.loop-variable-test.true
          c.loop-variable.auto.variables c.loop-variable.invariant
          (w.variables-is ∙ ap (slice_set vs i) (changed c.args.gone c.args.keep (slice_index_or vs i d)
          w.if-variable-gone.true))
      | else-variable-gone w ↦ more f c.args.variables.now vs _ i d c.loop-variable-test.true
          c.loop-variable.auto.variables c.loop-variable.invariant
          (w.variables-is ∙ ap (slice_set vs i) (kept c.args.gone c.args.keep (slice_index_or vs i d)
          w.if-variable-gone.false))
    ]
