use Rattle.std.proofs.Common.{◌≡◌, ◌++◌, ◌∷◌, [], length, arith, ap, ◌∙◌, refl}
use Rattle.std.proofs.lemmas.List.{length-map}
use Rattle.cm_sorts.specs.declared.words.Variable.{Variable}
use Rattle.cm_sorts.specs.inner.Words.{labels_of, sorts_of}
use Rattle.cm_sorts.proofs.Sorting.{fresh_sorted, fresh_sorts}
use Rattle.cm_sorts.proofs.Valuations.{fresh_kept, fresh_labels, fresh_proper, satisfiable}
use Rattle.cm_sorts.proofs.classes.Classes.fresh.Goals as goal
use Rattle.cm_sorts.proofs.classes.Classes.fresh.Goals.{In_ok-push}

pushed : (c : In_ok-push) → c.push.new.self.items ≡ c.self.inside.variables.items ++ record {
  sort =
      c.args.sort;
  label = length c.self.inside.variables.items;
} ∷ []
pushed c = c.in_ok-push.ensures.items ∙ ap (λ n. c.self.inside.variables.items ++ record {
  sort = c.args.sort;
  label =
      n;
} ∷ []) (omega arith)

pub invariant_of-self-2 : goal.invariant_of-self-2
invariant_of-self-2 c =
    let vs = c.self.inside.variables.items in
    let words = c.self.inside.words.items in
    rw (pushed c, fresh_labels vs c.args.sort, fresh_sorts vs c.args.sort)
    (record {
      proper = fresh_proper (labels_of vs) words c.self.invariant.proper
          (omega (arith, length-map vs (λ (w : Variable). w.label)));
      sorted = fresh_sorted (sorts_of vs) (labels_of vs) words c.args.sort c.self.invariant.proper
          (omega (arith, length-map vs (λ (w : Variable). w.sort), length-map vs (λ (w : Variable). w.label)))
          c.self.invariant.sorted;
    })

pub returns-clause-kept : goal.returns-clause-kept
returns-clause-kept c =
    let vs = c.self.inside.variables.items in
    rw (← c.self.view_is, pushed c) (fresh_kept vs (record { sort = c.args.sort; label = length vs })
    c.self.inside.words.items c.self.invariant.proper refl)

pub returns-clause-satisfiable : goal.returns-clause-satisfiable
returns-clause-satisfiable c = satisfiable c.push.new.self.items c.self.inside.words.items
    (invariant_of-self-2 c).proper
