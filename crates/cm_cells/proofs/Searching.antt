-- A touch, one cell further.
use Rattle.std.proofs.Common.{◌≡◌, ℕ, ◌+◌, ◌<◌, ◌≤◌, Bool, List, [], ◌∷◌, map, length, drop, get_or, sym, ap, ◌∙◌}
use Rattle.std.proofs.Common.{if◌then◌else◌}
use Rattle.std.proofs.lemmas.List.{drop_more, drop_all}
use Rattle.cm_cells.specs.declared.cell.Cell.{Cell}
use Rattle.cm_cells.specs.declared.search.Touched.{Touched}
use Rattle.cm_cells.specs.declared.search.Touched.TheVariants as touched
use Rattle.cm_cells.specs.CellTable.{Place}
use Rattle.cm_cells.specs.Touching.{Answering, asked, touching}
use Rattle.cm_cells.specs.inner.Kept.{place_of}

-- from the cell with this number on, with these answers
abbrev pub next_from : List Cell → Place → ℕ → List ℕ → Touched
next_from cs p i =
    touching Answering asked (map place_of (drop i cs)) i p (λ n answers. touched.Cell n) (λ answers. touched.New)
