-- Parts of code as they are written.
use Rattle.std.specs.Prelude.{ℕ, List, ◌∷◌, length, map}
use Rattle.cm_model.specs.declared.ty.IntDecl.{IntDecl}
use Rattle.cm_model.specs.declared.body.SetField.{SetField, fold-SetField}
use Rattle.cm_model.specs.declared.body.Stmt.{Stmt}
use Rattle.cm_code.specs.declared.instr.Instr.{Instr}
use Rattle.cm_code.specs.declared.instr.Instr.TheVariants as instr
use Rattle.cm_code.specs.declared.instr.Piece.{Piece}
use Rattle.cm_code.specs.declared.instr.Away.{Away}
use Rattle.cm_code.specs.declared.instr.Away.TheVariants as away
use Rattle.cm_code.specs.declared.instr.Choice.{Choice}
use Rattle.cm_code.specs.declared.instr.Choice.TheVariants as choice
use Rattle.cm_code.specs.Compiling.{Coded, SetCode, code_step, set_code, pieces, piece_of, left_code}

-- one new value of a `with`
abbrev pub set_coded : List IntDecl → SetField → SetCode
set_coded ints = fold-SetField Coded SetCode (code_step ints) set_code

abbrev pub away_by : Away → ℕ → Instr
away_by away.False = instr.Unless
away_by away.True = instr.When

abbrev pub chosen_by : Choice → ℕ → Instr
chosen_by choice.Bool = instr.Unless
chosen_by choice.Option = instr.Open

-- a block's code, and how many locals are more behind it
abbrev pub block_piece : List IntDecl → List Stmt → Piece
block_piece ints block = pieces (map (piece_of ints) block)

-- the second of two blocks, and the jump over it
abbrev pub second_code : List IntDecl → List Stmt → List Instr
second_code ints block =
    instr.Jump (length (left_code (block_piece ints block) 0)) ∷ left_code (block_piece ints block) 0
