-- The limits of the language of models and of its analysis, each by its name.
use Rattle.std.specs.Prelude.{ℕ, ℤ, pos, neg_ℤ, int_le, Bool, ◌&&◌}

-- how many bytes a name has at most
abbrev pub name_limit : ℕ
name_limit = 40

-- how many sorts, integer types, enums, records or states a model declares at most; bool is one enum more
abbrev pub declaration_limit : ℕ
declaration_limit = 4096

-- how many functions, and how many calls
abbrev pub function_limit : ℕ
function_limit = 64

abbrev pub call_limit : ℕ
call_limit = 64

-- how many variants an enum has at most
abbrev pub variant_limit : ℕ
variant_limit = 64

-- the width of a type in use, and how many integers are in it
abbrev pub width_limit : ℕ
width_limit = 32

abbrev pub integer_limit : ℕ
integer_limit = 6

-- the width of the parameters of a function or call together, and how many integers are in them
abbrev pub parameters_width_limit : ℕ
parameters_width_limit = 64

abbrev pub parameters_integer_limit : ℕ
parameters_integer_limit = 16

-- the weight of an invariant, and of the body of a function or call
abbrev pub invariant_weight_limit : ℕ
invariant_weight_limit = 1000

abbrev pub body_weight_limit : ℕ
body_weight_limit = 100000

-- how many shifts stand one inside another at most: one for each bracket of the text, and one outside of all
abbrev pub shift_limit : ℕ
shift_limit = 65

-- how many brackets of a text are open at once at most
abbrev pub bracket_limit : ℕ
bracket_limit = 64

-- how many decisions a path has at most, and how many cells it touches
abbrev pub decision_limit : ℕ
decision_limit = 1024

abbrev pub cell_limit : ℕ
cell_limit = 48

-- how far a numeral, or a number of an integer type, is from 0 at most
abbrev pub number_limit : ℕ
number_limit = 1000000

abbrev pub is_number : ℤ → Bool
is_number n = int_le (neg_ℤ (pos number_limit)) n && int_le n (pos number_limit)
