-- What a model declares, each kind in order of declaration.
use Rattle.std.specs.Prelude.{ℕ, List}
use Rattle.cm_model.specs.declared.ty.IntDecl.{IntDecl}
use Rattle.cm_model.specs.declared.ty.EnumDecl.{EnumDecl}
use Rattle.cm_model.specs.declared.ty.RecDecl.{RecDecl}
use Rattle.cm_model.specs.declared.body.StateDecl.{StateDecl}
use Rattle.cm_model.specs.declared.body.Call.{Call}

pub record Tables : Type 0 where
  pub sorts : List (List ℕ)
  pub ints : List IntDecl
  pub enums : List EnumDecl
  pub records : List RecDecl
  pub states : List StateDecl
  pub funs : List Call
  pub calls : List Call

abbrev pub tables : List (List ℕ) → List IntDecl → List EnumDecl → List RecDecl → List StateDecl → List Call
    → List Call → Tables
tables names is es rs ss fs cs = record {
  sorts = names;
  ints = is;
  enums = es;
  records = rs;
  states =
      ss;
  funs = fs;
  calls = cs;
}
