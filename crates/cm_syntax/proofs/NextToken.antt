-- Tests of the next token.
use Rattle.std.specs.Prelude.{Bool, true, false, Option, Some}
use Rattle.cm_tokens.specs.declared.token.Token.{Token}
use Rattle.cm_tokens.specs.declared.token.Token.TheVariants as token

abbrev pub no_comma : Option Token → Bool
no_comma (Some token.Comma) = false
no_comma _ = true

abbrev pub no_semicolon : Option Token → Bool
no_semicolon (Some token.Semicolon) = false
no_semicolon _ = true

abbrev pub no_map : Option Token → Bool
no_map (Some token.Map) = false
no_map _ = true

abbrev pub no_where : Option Token → Bool
no_where (Some token.Where) = false
no_where _ = true

abbrev pub no_open_square : Option Token → Bool
no_open_square (Some token.OpenSquare) = false
no_open_square _ = true

abbrev pub no_else : Option Token → Bool
no_else (Some token.Else) = false
no_else _ = true

abbrev pub no_joint : Option Token → Bool
no_joint (Some token.And) = false
no_joint (Some token.Or) = false
no_joint _ = true

abbrev pub no_and : Option Token → Bool
no_and (Some token.And) = false
no_and _ = true

abbrev pub no_or : Option Token → Bool
no_or (Some token.Or) = false
no_or _ = true

abbrev pub no_sign : Option Token → Bool
no_sign (Some token.Plus) = false
no_sign (Some token.Minus) = false
no_sign _ = true

abbrev pub no_dot : Option Token → Bool
no_dot (Some token.Dot) = false
no_dot _ = true

abbrev pub no_with : Option Token → Bool
no_with (Some token.With) = false
no_with _ = true

abbrev pub no_bracket : Option Token → Bool
no_bracket (Some token.OpenSquare) = false
no_bracket (Some token.OpenRound) = false
no_bracket _ = true

abbrev pub no_type : Option Token → Bool
no_type (Some token.Bool) = false
no_type (Some (token.Name n)) = false
no_type (Some token.Option) = false
no_type _ = true

abbrev pub no_prim : Option Token → Bool
no_prim (Some (token.Number n)) = false
no_prim (Some token.Minus) = false
no_prim (Some token.True) = false
no_prim (Some token.False) = false
no_prim (Some token.It) = false
no_prim (Some (token.Name n)) = false
no_prim (Some token.Nothing) = false
no_prim (Some token.Something) = false
no_prim (Some token.OpenRound) = false
no_prim _ = true

abbrev pub no_open_curly : Option Token → Bool
no_open_curly (Some token.OpenCurly) = false
no_open_curly _ = true

abbrev pub no_stmt : Option Token → Bool
no_stmt (Some token.Let) = false
no_stmt (Some (token.Name n)) = false
no_stmt (Some token.If) = false
no_stmt (Some token.Case) = false
no_stmt (Some token.Assume) = false
no_stmt (Some token.Return) = false
no_stmt _ = true

abbrev pub no_decl : Option Token → Bool
no_decl (Some token.Sort) = false
no_decl (Some token.Int) = false
no_decl (Some token.Enum) = false
no_decl (Some token.Record) = false
no_decl (Some token.State) = false
no_decl (Some token.Fn) = false
no_decl (Some token.Call) = false
no_decl _ = true

abbrev pub no_num : Option Token → Bool
no_num (Some (token.Number n)) = false
no_num (Some token.Minus) = false
no_num _ = true

abbrev pub no_number : Option Token → Bool
no_number (Some (token.Number n)) = false
no_number _ = true
