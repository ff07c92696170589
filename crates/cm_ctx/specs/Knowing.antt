-- What is decided of an option.
use Rattle.std.specs.Prelude.{ℕ, zero, suc, Option, Some, None}
use Rattle.cm_ctx.specs.declared.choice.Known.{Known}
use Rattle.cm_ctx.specs.declared.choice.Known.TheVariants as known

abbrev pub known_of : Option ℕ → Known
known_of None = known.Unknown
known_of (Some zero) = known.None
known_of (Some (suc n)) = known.Some
