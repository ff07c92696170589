-- Tables of these lists.
use Rattle.std.proofs.Common.{◌≡◌, ℕ, List, refl, sym, subst}
use Rattle.cm_model.specs.Tables.{tables}
use Rattle.cm_model.specs.WellTyped.{IsWellTyped}
use Rattle.cm_model.specs.declared.ty.IntDecl.{IntDecl}
use Rattle.cm_model.specs.declared.ty.EnumDecl.{EnumDecl}
use Rattle.cm_model.specs.declared.ty.RecDecl.{RecDecl}
use Rattle.cm_model.specs.declared.body.StateDecl.{StateDecl}
use Rattle.cm_model.specs.declared.body.Call.{Call}

module _ {s1 s2 : List (List ℕ)} {i1 i2 : List IntDecl} {e1 e2 : List EnumDecl} {r1 r2 : List RecDecl}
    {d1 d2 : List StateDecl} {f1 f2 c1 c2 : List Call}
    (sorts : s1 ≡ s2) (ints : i1 ≡ i2) (enums : e1 ≡ e2) (records : r1 ≡ r2) (states : d1 ≡ d2) (funs : f1 ≡ f2)
    (calls : c1 ≡ c2) where
  pub made : tables s1 i1 e1 r1 d1 f1 c1 ≡ tables s2 i2 e2 r2 d2 f2 c2
  made = rw (sorts, ints, enums, records, states, funs, calls) refl

  pub typed : IsWellTyped (tables s2 i2 e2 r2 d2 f2 c2) → IsWellTyped (tables s1 i1 e1 r1 d1 f1 c1)
  typed is = subst IsWellTyped (sym made) is
