-- Each cell's key has symbols, and one cell more is named.
use Rattle.std.proofs.Common.{◌+◌, ◌++◌, map, drop, ap, ◌∙◌}
use Rattle.cm_name.specs.Naming.{KeyHasSymbols, cell_named}
use Rattle.cm_analyze.proofs.Lists.{key_at, place_at, one_more}
use Rattle.cm_analyze.proofs.case.Known.cell_terms.Goals as goal

pub cell-requires : goal.cell-requires
cell-requires c = record {
  named = key_at (KeyHasSymbols c.args.self.now.ctx.now.pieces) c.args.self.now.cells.now.places c.loop-i.i _
      c.requires.keys c.key_of.ensures.key;
}

pub loop-i-preserved : goal.loop-i-preserved
loop-i-preserved c =
    ap (λ cs. cs ++ map (cell_named c.args.self.now.ctx.now.pieces) (drop (c.loop-i.i + 1) c.args.self.now.cells.now.places))
    (c.in_ok-push.ensures.ok)
    ∙ one_more (cell_named c.args.self.now.ctx.now.pieces) c.loop-i.cells c.args.self.now.cells.now.places c.loop-i.i _
    c.in_ok-cell.cell (place_at c.args.self.now.cells.now.places c.loop-i.i _ _ c.state_of.ensures.state c.key_of.ensures.key)
    c.in_ok-cell.ensures.cell
    ∙ c.loop-i.invariant
