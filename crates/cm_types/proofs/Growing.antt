-- The tables so far are the first of those of the whole tree.
use Rattle.std.proofs.Common.{◌≤◌, List, [], ◌∷◌, length, ap, arith}
use Rattle.std.proofs.lemmas.List.{length-append}
use Rattle.cm_model.specs.Tables.{Tables}
use Rattle.cm_syntax.specs.declared.tree.Decl.{Decl}
use Rattle.cm_syntax.specs.declared.tree.Decl.TheVariants as decl
use Rattle.cm_typing.specs.declared.scope.Scope.{Scope}
use Rattle.cm_typing.specs.declared.scope.Draft.{Draft}
use Rattle.cm_typing.specs.Declarations.{decl_told, decls_told, tables_in}
use Rattle.cm_types.proofs.Items.{GoesOn, goes_still, goes_by, goes_further}

pub record Within (d : Draft) (t : Tables) : Type 0 where
  pub sorts : GoesOn d.sorts t.sorts
  pub ints : GoesOn d.ints t.ints
  pub enums : GoesOn d.enums t.enums
  pub records : GoesOn d.records t.records
  pub states : GoesOn d.states t.states
  pub funs : GoesOn d.funs t.funs
  pub calls : GoesOn d.calls t.calls

pub within_still : (d : Draft) → Within d (tables_in d)
within_still d = record {
  sorts = goes_still d.sorts;
  ints = goes_still d.ints;
  enums = goes_still d.enums;
  records = goes_still d.records;
  states = goes_still d.states;
  funs = goes_still d.funs;
  calls = goes_still d.calls;
}

pub within_further : (d e : Draft) (t : Tables) → Within d (tables_in e) → Within e t → Within d t
within_further d e t g h = record {
  sorts = goes_further d.sorts e.sorts t.sorts g.sorts h.sorts;
  ints = goes_further d.ints e.ints t.ints g.ints h.ints;
  enums = goes_further d.enums e.enums t.enums g.enums h.enums;
  records = goes_further d.records e.records t.records g.records h.records;
  states = goes_further d.states e.states t.states g.states h.states;
  funs = goes_further d.funs e.funs t.funs g.funs h.funs;
  calls = goes_further d.calls e.calls t.calls g.calls h.calls;
}

pub decl_within : (x : Decl) (s : Scope) (d : Draft) → Within d (tables_in (decl_told x s d).0.1)
decl_within (decl.Sort at n) s d = record {
  sorts = goes_by d.sorts n;
  ints = goes_still d.ints;
  enums =
      goes_still d.enums;
  records = goes_still d.records;
  states = goes_still d.states;
  funs =
      goes_still d.funs;
  calls = goes_still d.calls;
}
decl_within (decl.Int at n low high) s d = record {
  sorts = goes_still d.sorts;
  ints = goes_by d.ints _;
  enums =
      goes_still d.enums;
  records = goes_still d.records;
  states = goes_still d.states;
  funs =
      goes_still d.funs;
  calls = goes_still d.calls;
}
decl_within (decl.Enum at n v vs) s d = record {
  sorts = goes_still d.sorts;
  ints = goes_still d.ints;
  enums =
      goes_by d.enums _;
  records = goes_still d.records;
  states = goes_still d.states;
  funs = goes_still d.funs;
  calls =
      goes_still d.calls;
}
decl_within (decl.Record at n p ps) s d = record {
  sorts = goes_still d.sorts;
  ints = goes_still d.ints;
  enums =
      goes_still d.enums;
  records = goes_by d.records _;
  states = goes_still d.states;
  funs = goes_still d.funs;
  calls =
      goes_still d.calls;
}
decl_within (decl.Cell at n v) s d = record {
  sorts = goes_still d.sorts;
  ints = goes_still d.ints;
  enums =
      goes_still d.enums;
  records = goes_still d.records;
  states = goes_by d.states _;
  funs = goes_still d.funs;
  calls =
      goes_still d.calls;
}
decl_within (decl.CellWhere at n v e) s d = record {
  sorts = goes_still d.sorts;
  ints = goes_still d.ints;
  enums =
      goes_still d.enums;
  records = goes_still d.records;
  states = goes_by d.states _;
  funs = goes_still d.funs;
  calls =
      goes_still d.calls;
}
decl_within (decl.Map at n k v) s d = record {
  sorts = goes_still d.sorts;
  ints = goes_still d.ints;
  enums =
      goes_still d.enums;
  records = goes_still d.records;
  states = goes_by d.states _;
  funs = goes_still d.funs;
  calls =
      goes_still d.calls;
}
decl_within (decl.MapWhere at n k v e) s d = record {
  sorts = goes_still d.sorts;
  ints = goes_still d.ints;
  enums =
      goes_still d.enums;
  records = goes_still d.records;
  states = goes_by d.states _;
  funs = goes_still d.funs;
  calls =
      goes_still d.calls;
}
decl_within (decl.Function at n ps r b) s d = record {
  sorts = goes_still d.sorts;
  ints = goes_still d.ints;
  enums =
      goes_still d.enums;
  records = goes_still d.records;
  states = goes_still d.states;
  funs = goes_by d.funs _;
  calls =
      goes_still d.calls;
}
decl_within (decl.Call at n ps qs r b) s d = record {
  sorts = goes_still d.sorts;
  ints = goes_still d.ints;
  enums =
      goes_still d.enums;
  records = goes_still d.records;
  states = goes_still d.states;
  funs =
      goes_still d.funs;
  calls = goes_by d.calls _;
}

pub decls_within : (xs : List Decl) (s : Scope) (d : Draft) → Within d (tables_in (decls_told xs s d).0.1)
decls_within [] s d = within_still d
decls_within (x ∷ xs) s d =
    let e = (decl_told x s d).0 in
    within_further d e.1 (tables_in (decls_told xs e.0 e.1).0.1) (decl_within x s d) (decls_within xs e.0 e.1)

pub as_many : {X : Type 0} (xs ys : List X) → GoesOn xs ys → length xs ≤ length ys
as_many xs ys g = omega (arith, ap length g.1, length-append xs g.0)
