-- The type rules by their numbers.
use Rattle.std.specs.Prelude.{ℕ}

-- a name is taken in its set
abbrev pub taken : ℕ
taken = 1

-- a name is not declared before its use, or not of a kind that its place allows
abbrev pub unknown : ℕ
unknown = 2

-- a range is empty or too far from 0, or a numeral is
abbrev pub numbers : ℕ
numbers = 3

-- an enum has too many variants
abbrev pub variants : ℕ
variants = 4

-- a type in use is too wide or holds too many integers
abbrev pub wide : ℕ
wide = 5

-- the key type of a map holds an option
abbrev pub key : ℕ
key = 6

-- there are too many parameters, or too many declarations of a kind
abbrev pub many : ℕ
many = 7

-- there are not as many arguments as are declared
abbrev pub count : ℕ
count = 8

-- a value has another type than is declared
abbrev pub types : ℕ
types = 9

-- a condition, an invariant or an operand of `and`, `or` or `not` is not bool
abbrev pub condition : ℕ
condition = 10

-- the sides of `==` or `!=` cannot be compared
abbrev pub sides : ℕ
sides = 11

-- a side of `<`, `<=`, `>` or `>=` is not an integer expression
abbrev pub order : ℕ
order = 12

-- the operand of `+`, `-` or a conversion is not an integer expression
abbrev pub integer : ℕ
integer = 13

-- the operand of `case` is not an option
abbrev pub option : ℕ
option = 14

-- a field is asked of something without it, or is set twice
abbrev pub field : ℕ
field = 15

-- a block can end without `return`, or a statement follows one that always returns
abbrev pub returns : ℕ
returns = 16

-- a number expression stands where a value is needed
abbrev pub number : ℕ
number = 17

-- a function or call is too heavy
abbrev pub heavy : ℕ
heavy = 18

-- the least value of a cell's type does not satisfy the invariant
abbrev pub least : ℕ
least = 19

-- an invariant holds a state's name, a call of a function or a conversion, or is too heavy
abbrev pub invariant : ℕ
invariant = 21

-- `it` stands outside an invariant
abbrev pub it : ℕ
it = 22
