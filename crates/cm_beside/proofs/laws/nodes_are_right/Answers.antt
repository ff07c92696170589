-- Each node is right.
use Rattle.std.proofs.Common.{◌≡◌, ◌<◌, ℕ, zero, suc, List, [], ◌∷◌, ◌++◌, length, map, slice_get, Some, refl, sym}
use Rattle.std.proofs.Common.{ap, arith}
use Rattle.std.proofs.lemmas.List.{append-nil, length-append, length-map}
use Rattle.cm_term.specs.Valuation.{Valuation}
use Rattle.cm_eval.specs.declared.log.CellName.{CellName}
use Rattle.cm_cells.specs.CellTable.{Place}
use Rattle.cm_cells.specs.Alike.{cell_under}
use Rattle.cm_ctx.specs.Contexts.{payloads_of}
use Rattle.cm_beside.specs.Nodes.{pieces_of}
use Rattle.cm_beside.proofs.Least.{some_world}
use Rattle.cm_model.specs.declared.body.Call.{Call}
use Rattle.cm_beside.proofs.Leaves.{right_leaf, right_node, touches_more}
use Rattle.cm_beside.proofs.laws.nodes_are_right.Goals as goal

call_there : (cs : List Call) (i : ℕ) → i < length cs → (c : Call) × (slice_get cs i ≡ Some c)
call_there [] i lt = absurd (omega (arith, lt))
call_there (c ∷ cs) zero lt = (c, refl)
call_there (c ∷ cs) (suc i) lt = call_there cs i (omega (arith, lt))

pub returns-clause-leaf : goal.returns-clause-leaf
returns-clause-leaf c answers facts places w is =
    let a = call_there _ _ c.requires.a in
    let b = call_there _ _ c.requires.b in
    right_leaf _ c.well_typed.ensures.well_typed _ a.0 b.0 a.1 b.1 answers facts places _ is w refl

pub returns-clause-node : goal.returns-clause-node
returns-clause-node c answers facts places q is =
    let a = call_there _ _ c.requires.a in
    let b = call_there _ _ c.requires.b in
    right_node _ c.well_typed.ensures.well_typed _ a.0 b.0 a.1 b.1 answers facts places _ is q refl

pub returns-clause-more : goal.returns-clause-more
returns-clause-more c answers facts places further v is sat =
    let a = call_there _ _ c.requires.a in
    let b = call_there _ _ c.requires.b in
    let ps = payloads_of (pieces_of c.args.model.now c.args.pair places) in
    let h = further ps ([], sym (append-nil ps)) in
    let u = touches_more _ c.well_typed.ensures.well_typed _ a.0 b.0 a.1 b.1 answers facts places (h.0 ∷ h.1) h.2 h.3
    v is sat h.0 h.1 refl in
    (u.0, u.1, longer v places h.0 u.2 _ u.3)
  where
    longer : (v : Valuation) (places : List Place) (q : Place) (later cells : List CellName)
        → cells ≡ map (cell_under v) places ++ cell_under v q ∷ later → length places < length cells
    longer v places q later cells e =
        let n = ap length e in
        let m = length-append (map (cell_under v) places) (cell_under v q ∷ later) in
        let k = length-map places (cell_under v) in
        omega (arith, n, m, k)

pub returns-clause-some : goal.returns-clause-some
returns-clause-some c =
    let a = call_there _ _ c.requires.a in
    let b = call_there _ _ c.requires.b in
    some_world _ c.well_typed.ensures.well_typed _ a.0 b.0 a.1 b.1
