pub mod Codes
pub mod Running
pub mod Mapping
pub mod Kinds
pub mod SpellsLaws
pub mod Writing
