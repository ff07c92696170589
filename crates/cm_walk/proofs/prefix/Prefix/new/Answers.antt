-- Nothing was decided, and the arguments were asked for.
use Rattle.std.proofs.Common.{◌↔◌, sym, ap, ◌∙◌, subst, ◌++◌}
use Rattle.cm_term.specs.declared.symbol.Root.TheVariants as root
use Rattle.cm_ctx.specs.Contexts.{Satisfies, counts_of}
use Rattle.cm_eval.specs.Compiled.{IsCodeOf}
use Rattle.cm_exec.specs.Run.{counted_all, GivesAll}
use Rattle.cm_beside.specs.Beside.{pair_tale}
use Rattle.cm_beside.specs.Nodes.{args_a}
use Rattle.cm_walk.specs.declared.arguments.Side.TheVariants as side
use Rattle.cm_walk.specs.Arguments.{made_for}
use Rattle.cm_walk.proofs.AskedFor.{terms_of}
use Rattle.cm_walk.proofs.Beginning.{all_new, b_other, begun, cell_other_a, cell_other_b, counts_first, is_first, knows_arguments}
use Rattle.cm_walk.proofs.Beginning.{nothing_new}
use Rattle.cm_walk.proofs.prefix.Prefix.new.Goals as goal

pub arguments-requires-2 : goal.arguments-requires-2
arguments-requires-2 c =
    let first = c.in_ok-known.ensures in
    record {
      new = λ j le. c.in_ok-a.ensures.others (root.B j) (b_other j)
          (all_new c.in_ok-known.known first.pieces first.sorts first.bounds first.tags first.options side.B j le);
    }

pub returns-clause-prefix : goal.returns-clause-prefix
returns-clause-prefix c =
    let t = c.args.model.now in
    let p = c.args.pair in
    let k = c.in_ok-known.known in
    let d = c.arguments.new.known in
    let e = c.arguments-2.new.known in
    let first = c.in_ok-known.ensures in
    let a = c.in_ok-a.ensures in
    let b = c.in_ok-b.ensures in
    let none = counts_first k first.pieces first.sorts first.bounds first.tags first.options in
    let behind = a.counts ∙ ap (λ n. counted_all n (made_for t side.A p.a n)) none in
    let coded = subst (IsCodeOf t) (sym c.in_ok-code-2.ensures.value) c.in_ok-code.ensures.code in
    begun t p _ c.requires.a c.requires.b c.new-4.ensures c.new-5.ensures c.new-6.ensures.none
    (knows_arguments t p k d e
    (is_first k first.pieces first.sorts first.bounds first.tags first.options c.has_valuation.ensures.satisfiable)
    (a.pieces ∙ ap (λ ps. ps ++ made_for t side.A p.a (counts_of k)) first.pieces ∙ ap (made_for t side.A p.a) none)
    (λ v. subst (λ n. Satisfies d v ↔ (Satisfies k v × GivesAll (made_for t side.A p.a n) v)) none (a.kept v))
    (b.pieces ∙ ap (λ n. d.pieces ++ made_for t side.B p.b n) behind)
    (b.counts ∙ ap (λ n. counted_all n (made_for t side.B p.b n)) behind)
    (λ v. subst (λ n. Satisfies e v ↔ (Satisfies d v × GivesAll (made_for t side.B p.b n) v)) behind (b.kept v)))
    (λ ps. c.in_ok-chain.ensures.begins t coded ps
    ∙ ap (λ xs. pair_tale t p xs c.in_ok-b.b ps) (a.terms ∙ ap (λ n. terms_of (made_for t side.A p.a n)) none)
    ∙ ap (λ ys. pair_tale t p (args_a t p) ys ps) (b.terms ∙ ap (λ n. terms_of (made_for t side.B p.b n)) behind))
    (c.in_ok-chain.ensures.coded t coded)
    (λ i. b.others (root.Cell i) (cell_other_b i) (a.others (root.Cell i) (cell_other_a i)
    (nothing_new k first.pieces first.sorts first.bounds first.tags first.options (root.Cell i))))
