-- The forms of the commands, as clap reads them, and what a form makes of words.
use Rattle.std.specs.Prelude.{◌≡◌, Bool, true, false, List, [], ◌∷◌, Option, Some, None, codes}
use Rattle.std.specs.Str.{bytes_eq}
use Rattle.clap.specs.Words.{App, Rule, Text, fault_of, first_of, matches_of, new_app, new_rule, with_rule}
use Rattle.clap.specs.declared.builder.action.ArgAction.TheVariants.{SetTrue}

-- a word in capitals that stands by itself: it must be there, and has one text
abbrev pub positional : Text → Rule
positional id = record (new_rule id) { required = true }

-- an option shown with a value: it takes one text
abbrev pub option : Text → Rule
option id = record (new_rule id) { long = Some id }

-- an option shown without a value
abbrev pub flag : Text → Rule
flag id = record (new_rule id) { long = Some id; action = Some SetTrue }

-- a command that reads the words behind its name, and has no help of its own
abbrev pub bare : App → App
bare a = record a { top = record a.top { no_binary_name = true; disable_help_flag = true } }

abbrev pub with_rules : App → List Rule → App
with_rules a [] = a
with_rules a (r ∷ rs) = with_rules (with_rule a r) rs

abbrev pub form : Text → List Rule → App
form name rules = with_rules (bare (new_app name)) rules

-- the form takes the words
abbrev pub IsTaken : App → List Text → Type 0
IsTaken a words = fault_of a words ≡ []

-- the text that the words give to an argument
abbrev pub value_at : App → List Text → Text → Option Text
value_at a words id = first_of id (matches_of a words)

-- whether a flag is given: its text is there either way
abbrev pub is_true : Option Text → Bool
is_true None = false
is_true (Some text) = bytes_eq text (codes "true")
