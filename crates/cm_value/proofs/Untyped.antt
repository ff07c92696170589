-- What has no type stays as it is.
use Rattle.std.proofs.Common.{◌≡◌, List, [], ◌∷◌, map, None, refl, ap, ◌∙◌}
use Rattle.cm_model.specs.Tables.{Tables}
use Rattle.cm_value.specs.declared.value.Swap.{Swap}
use Rattle.cm_value.specs.declared.value.Value.{Value}
use Rattle.cm_value.specs.declared.value.Value.TheVariants as value
use Rattle.cm_value.specs.Relabelling.{relabel_of, relabel_step, each_relabelled, Relabel}
use Rattle.cm_value.proofs.Folds.{fold-elem, fold-int, fold-tag, fold-rec, fold-none, fold-some}
use Rattle.cm_value.proofs.Induction.{Each, value_ind}

all_untyped : (t : Tables) (by : Swap) (vs : List Value) → Each (λ v. relabel_of t by v None ≡ v) vs
    → each_relabelled (map (relabel_of t by) vs) [] ≡ vs
all_untyped t by [] same = refl
all_untyped t by (v ∷ vs) same = ap (λ w. w ∷ each_relabelled (map (relabel_of t by) vs) []) same.0
    ∙ ap (λ ws. v ∷ ws) (all_untyped t by vs same.1)

pub untyped : (t : Tables) (by : Swap) (v : Value) → relabel_of t by v None ≡ v
untyped t by = value_ind (λ v. relabel_of t by v None ≡ v)
    (λ n. ap (λ (m : Relabel). m None) (fold-elem (relabel_step t by) n))
    (λ n. ap (λ (m : Relabel). m None) (fold-int (relabel_step t by) n))
    (λ n. ap (λ (m : Relabel). m None) (fold-tag (relabel_step t by) n))
    (λ vs same. ap (λ (m : Relabel). m None) (fold-rec (relabel_step t by) vs)
    ∙ ap value.Rec (all_untyped t by vs same))
    (ap (λ (m : Relabel). m None) (fold-none (relabel_step t by)))
    (λ v same. ap (λ (m : Relabel). m None) (fold-some (relabel_step t by) v) ∙ ap value.Some same)
