-- Cells as they are kept, each with the terms of the orders that wrote it.
use Rattle.std.specs.Prelude.{Bool, true, List, map, Option, Some, None}
use Rattle.cm_term.specs.declared.term.Term.{Term}
use Rattle.cm_cells.specs.declared.cell.Cell.{Cell}
use Rattle.cm_cells.specs.declared.order.Order.{Order}
use Rattle.cm_cells.specs.declared.order.Order.TheVariants as order
use Rattle.cm_cells.specs.CellTable.{CellTable, Place, place}

abbrev pub place_of : Cell → Place
place_of c = place c.state c.origin.key

abbrev pub or_initial : Option Term → Term → Term
or_initial (Some t) initial = t
or_initial None initial = initial

abbrev pub ab_of : Cell → Term
ab_of c = or_initial c.ab c.origin.initial

abbrev pub ba_of : Cell → Term
ba_of c = or_initial c.ba c.origin.initial

abbrev pub term_in : Order → Cell → Term
term_in order.Ab = ab_of
term_in order.Ba = ba_of

abbrev pub table_of : List Cell → CellTable
table_of cs = record {
  places = map place_of cs;
  initial = map (λ (c : Cell). c.origin.initial) cs;
  ab = map ab_of cs;
  ba = map ba_of cs;
  written = map (λ (c : Cell). c.written) cs;
}

-- the cell as an order writes it
abbrev pub put : Order → Term → Cell → Cell
put order.Ab t c = record c { ab = Some t; written = true }
put order.Ba t c = record c { ba = Some t; written = true }

-- the cell as an order begins with it
abbrev pub cleared : Order → Cell → Cell
cleared order.Ab c = record c { ab = None }
cleared order.Ba c = record c { ba = None }
