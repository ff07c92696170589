-- Tables as a value of contracts.
use Rattle.std.specs.Prelude.{ℕ, List, refl}
use Rattle.std.specs.Coded.{Coded, code_by, coded×, coded_ℕ, coded_list}
use Rattle.cm_model.specs.Tables.{Tables}
use Rattle.cm_model.specs.declared.ty.IntDecl.{IntDecl}
use Rattle.cm_model.specs.declared.ty.EnumDecl.{EnumDecl}
use Rattle.cm_model.specs.declared.ty.RecDecl.{RecDecl}
use Rattle.cm_model.specs.declared.body.StateDecl.{StateDecl}
use Rattle.cm_model.specs.declared.body.Call.{Call}
use Rattle.cm_model.specs.contracts.ty.IntDecl as int
use Rattle.cm_model.specs.contracts.ty.EnumDecl as enum
use Rattle.cm_model.specs.contracts.ty.RecDecl as rec
use Rattle.cm_model.specs.contracts.body.StateDecl as state
use Rattle.cm_model.specs.contracts.body.Call as call

abbrev pub Fields : Type 0
Fields = List (List ℕ) × (List IntDecl × (List EnumDecl × (List RecDecl × (List StateDecl × (List Call × List Call)))))

abbrev pub coded_fields : Coded Fields
coded_fields =
    coded× (coded_list (coded_list coded_ℕ)) (coded× (coded_list int.the_row.coded)
    (coded× (coded_list enum.the_row.coded)
    (coded× (coded_list rec.the_row.coded) (coded× (coded_list state.the_row.coded)
    (coded× (coded_list call.the_row.coded) (coded_list call.the_row.coded))))))

abbrev pub fields_of : Tables → Fields
fields_of t = (t.sorts, (t.ints, (t.enums, (t.records, (t.states, (t.funs, t.calls))))))

abbrev pub tables_of : Fields → Tables
tables_of p = record {
  sorts = p.0;
  ints = p.1.0;
  enums = p.1.1.0;
  records = p.1.1.1.0;
  states = p.1.1.1.1.0;
  funs =
      p.1.1.1.1.1.0;
  calls = p.1.1.1.1.1.1;
}

abbrev pub tables_code : Coded Tables
tables_code = code_by Fields coded_fields fields_of tables_of (λ _. refl)
