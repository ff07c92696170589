-- Kinds of bytes.
use Rattle.std.specs.Prelude.{◌==◌, ◌||◌, ℕ, Bool}
use Rattle.std.specs.Char.{is_ascii_alphanumeric}

-- a space, a tab, a newline or a carriage return
abbrev pub is_space : ℕ → Bool
is_space byte = byte == 32 || byte == 9 || byte == 10 || byte == 13

-- a letter, a digit or `_`: what a name has behind its first byte
abbrev pub is_name_byte : ℕ → Bool
is_name_byte byte = is_ascii_alphanumeric byte || byte == 95
