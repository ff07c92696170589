-- The node where the chain stops.
use Rattle.std.proofs.Common.{◌≡◌, Option, Some, refl, subst}
use Rattle.cm_model.specs.Tables.{Tables}
use Rattle.cm_term.specs.declared.question.Question.{Question}
use Rattle.cm_chain.specs.declared.chain.Ask.{Ask}
use Rattle.cm_chain.specs.declared.chain.Ask.TheVariants as ask
use Rattle.cm_chain.specs.Chains.{Comes}
use Rattle.cm_walk.specs.Prefixes.{IsPrefix}
use Rattle.cm_walk.specs.declared.prefix.Prefix.{Prefix}
use Rattle.cm_walk.proofs.Going.{asked_on, opens, goes_on, ends, touches_few, too_many}
use Rattle.cm_walk.proofs.prefix.Prefix.ask.Goals as goal
use Rattle.cm_walk.proofs.prefix.Prefix.ask.Goals.{After-len}

module _ (c : After-len) where
  abbrev t : Tables
  t = c.args.model.now

  -- where the chain has stopped, with this question open
  abbrev there : Option Question → Prefix
  there q = record c.args.self.now {
    known = c.ask.new.facts;
    cells = c.ask.new.cells;
    chain = c.ask.new.self;
    «open» = q;
  }

  is_prefix : (q : Option Question) → IsPrefix t c.args.pair (there q)
  is_prefix q =
      asked_on t c.args.pair c.args.self.now (there q) refl refl c.in_ok-asked.ensures.moved c.in_ok-asked.ensures.coded
      c.in_ok-asked.ensures.grown c.in_ok-asked.ensures.satisfied c.in_ok-asked.ensures.pieces
      c.in_ok-asked.ensures.new c.requires.prefix

  comes : (a : Ask) → c.in_ok-asked.asked ≡ a → Comes t a c.ask.new.self c.ask.new.cells
  comes a is = subst (λ b. Comes t b c.ask.new.self c.ask.new.cells) is c.in_ok-asked.ensures.comes

pub returns-in-Question-clause-open : goal.returns-in-Question-clause-open
returns-in-Question-clause-open c is =
    let here = (goal.at.returns-in-Question-clause-open c).After-len in
    let q = c.in-Question.question in (
      q,
      opens (t here) c.args.pair (there here (Some q)) (is_prefix here (Some q)) c.nodes_are_right.ensures.node
          c.has_valuation.ensures.satisfiable c.has_valuation.ensures.sorts q refl
          (comes here (ask.Question q) c.in-Question.is),
    )

pub returns-in-Question-clause-goes_on : goal.returns-in-Question-clause-goes_on
returns-in-Question-clause-goes_on c is =
    let here = (goal.at.returns-in-Question-clause-goes_on c).After-len in
    let q = c.in-Question.question in
    goes_on (t here) c.args.pair (there here (Some q)) (is_prefix here (Some q)) c.nodes_are_right.ensures.node q
    (comes here (ask.Question q) c.in-Question.is)

pub returns-in-Ended-clause-whole : goal.returns-in-Ended-clause-whole
returns-in-Ended-clause-whole c is =
    let here = (goal.at.returns-in-Ended-clause-whole c).After-len in
    record { is_prefix = is_prefix here c.args.self.now.open; ended = comes here ask.Ended c.in-Ended.is }

pub returns-in-Ended-clause-ends : goal.returns-in-Ended-clause-ends
returns-in-Ended-clause-ends c is =
    let here = (goal.at.returns-in-Ended-clause-ends c).After-len in
    let q = c.args.self.now.open in
    ends (t here) c.args.pair (there here q) (is_prefix here q) c.nodes_are_right.ensures.leaf
    (comes here ask.Ended c.in-Ended.is)

pub returns-in-Ended-clause-few : goal.returns-in-Ended-clause-few
returns-in-Ended-clause-few c is =
    let here = (goal.at.returns-in-Ended-clause-few c).After-len in
    let q = c.args.self.now.open in
    touches_few (t here) c.args.pair (there here q) (is_prefix here q) c.nodes_are_right.ensures.leaf
    (comes here ask.Ended c.in-Ended.is) c.len.ensures.table.few

pub returns-in-Cells-clause-many : goal.returns-in-Cells-clause-many
returns-in-Cells-clause-many c is =
    let here = (goal.at.returns-in-Cells-clause-many c).After-len in
    let q = c.args.self.now.open in
    let more = comes here ask.Cells c.in-Cells.is in
    too_many (t here) c.args.pair (there here q) (is_prefix here q) c.nodes_are_right.ensures.more
    c.has_valuation.ensures.satisfiable more.0 more.1
