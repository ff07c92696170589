pub mod Source
pub mod LeastValues
pub use Rattle.cm_typing.specs.Told
pub use Rattle.cm_typing.specs.Declarations
