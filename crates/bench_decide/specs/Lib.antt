pub mod OneSort
