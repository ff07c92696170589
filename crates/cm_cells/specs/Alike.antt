-- The touch of terms beside the touch of their values: cells under a valuation, and keys that are alike.
use Rattle.std.specs.Prelude.{ℕ, ◌==◌, ltb, Bool, true, false, ◌&&◌, List, [], ◌∷◌, Option, Some, None, if◌then◌else◌}
use Rattle.std.specs.List.{list_all}
use Rattle.std.specs.Option.{option_map}
use Rattle.cm_model.specs.Limits.{variant_limit}
use Rattle.cm_value.specs.declared.value.Value.{Value}
use Rattle.cm_value.specs.declared.value.Value.TheOpen.{Value-F}
use Rattle.cm_value.specs.declared.value.Value.TheFolds.{fold-Value}
use Rattle.cm_term.specs.declared.atom.Tag.{Tag}
use Rattle.cm_term.specs.declared.term.Term.{Term, out-Term}
use Rattle.cm_term.specs.declared.term.Term.TheOpen.{Term-F}
use Rattle.cm_term.specs.declared.term.Term.TheFolds.{fold-Term}
use Rattle.cm_term.specs.Valuation.{Valuation}
use Rattle.cm_term.specs.Atoms.{tag_under}
use Rattle.cm_term.specs.Questions.{outcome_under}
use Rattle.cm_term.specs.Terms.{value_of}
use Rattle.cm_term.specs.declared.question.Question.{Question}
use Rattle.cm_eval.specs.declared.log.CellName.{CellName}
use Rattle.cm_eval.specs.State.{Touched}
use Rattle.cm_eval.specs.Run.{Trace, Logs}
use Rattle.cm_cells.specs.CellTable.{Place}
use Rattle.cm_cells.specs.Comparison.{elem_in, num_in, tag_in, fields_in}

-- the cell that a place is
abbrev pub cell_under : Valuation → Place → CellName
cell_under v p = record { state = p.state; key = option_map (value_of v) p.key }

-- a question has its outcome, which is logged
abbrev pub logs_under : Valuation → Touched → Question → (ℕ → Trace) → Trace
logs_under v t q k = Logs t (outcome_under v q) (k (outcome_under v q))

abbrev pub is_there : {Z : Type 0} → Option Z → Bool
is_there (Some z) = true
is_there None = false

abbrev pub is_variant : Valuation → Tag → Bool
is_variant v a = ltb (tag_under v.tag a) variant_limit

abbrev pub is_variant_in : Valuation → Option Tag → Bool
is_variant_in v (Some a) = is_variant v a
is_variant_in v None = false

abbrev pub all_alike : List (Term → Bool) → List Term → Bool
all_alike [] [] = true
all_alike [] (u ∷ us) = false
all_alike (m ∷ ms) [] = false
all_alike (m ∷ ms) (u ∷ us) = m u && all_alike ms us

abbrev pub fields_alike : List (Term → Bool) → Option (List Term) → Bool
fields_alike ms (Some us) = all_alike ms us
fields_alike ms None = false

abbrev pub alike_step : Valuation → Term-F (Term → Bool) → Term → Bool
alike_step v (Term-F.Elem x) u = is_there (elem_in (out-Term u))
alike_step v (Term-F.Num a) u = is_there (num_in (out-Term u))
alike_step v (Term-F.Tag a) u = is_variant v a && is_variant_in v (tag_in (out-Term u))
alike_step v (Term-F.Rec ms) u = fields_alike ms (fields_in (out-Term u))
alike_step v Term-F.None u = false
alike_step v (Term-F.Some m) u = false
alike_step v (Term-F.Either o) u = false

-- two keys of one form, without options, their variants those that an enum may have
abbrev pub alike : Valuation → Term → Term → Bool
alike v = fold-Term (Term → Bool) (alike_step v)

abbrev pub keys_alike : Valuation → Option Term → Option Term → Bool
keys_alike v (Some t) (Some u) = alike v t u
keys_alike v None None = true
keys_alike v (Some t) None = false
keys_alike v None (Some u) = false

-- the key and each key of its state are alike
abbrev pub all_keys_alike : Valuation → Place → List Place → Bool
all_keys_alike v p [] = true
all_keys_alike v p (q ∷ qs) = (if p.state == q.state then keys_alike v p.key q.key else true) && all_keys_alike v p qs

abbrev pub plain_step : Value-F Bool → Bool
plain_step (Value-F.Elem n) = true
plain_step (Value-F.Int n) = true
plain_step (Value-F.Tag n) = true
plain_step (Value-F.Rec parts) = list_all (λ part. part) parts
plain_step Value-F.None = false
plain_step (Value-F.Some payload) = false

-- no option is in a value, as in each key of a model
abbrev pub is_without_options : Value → Bool
is_without_options = fold-Value Bool plain_step
