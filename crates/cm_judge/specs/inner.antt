-- What only inner contracts use.
pub mod Table
