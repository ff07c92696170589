-- The tree of a text in which no rule fails has well typed tables.
use Rattle.std.proofs.Common.{◌≡◌, [], ap, ◌∙◌}
use Rattle.std.specs.List.{list_all}
use Rattle.cm_model.specs.WellTyped.{IsWellTyped}
use Rattle.cm_syntax.specs.Spelling as spelled
use Rattle.cm_syntax.specs.Text.{is_shallow}
use Rattle.cm_syntax.specs.declared.tree.Tree.{Tree}
use Rattle.cm_types.specs.Source.{IsRead}
use Rattle.cm_typing.specs.Declarations.{tables_of, faults_of}
use Rattle.cm_types.proofs.Passing.{Fine, is_named}
use Rattle.cm_types.proofs.NamedTokens.{all_named}
use Rattle.cm_types.proofs.SourcedDecls.{tree_gives}
use Rattle.cm_types.proofs.WellTyped.{well_typed}

fine_of : (tree : Tree) → IsRead tree → Fine 0 (spelled.tokens_of tree)
fine_of tree h = (ap (is_shallow 0) h.1.0.0 ∙ h.1.1, ap (list_all is_named) h.1.0.0 ∙ all_named h.0)

-- A TREE THAT WAS READ, AND IN WHICH NO RULE FAILS, HAS WELL TYPED TABLES.
pub read_is_well_typed : (tree : Tree) → IsRead tree → faults_of tree ≡ [] → IsWellTyped (tables_of tree)
read_is_well_typed tree h none = well_typed tree (tree_gives tree (fine_of tree h)) none
