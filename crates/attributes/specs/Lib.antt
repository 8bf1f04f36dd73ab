pub mod Kinds
pub mod KindsLaws
pub mod Table
pub mod TableLaws
pub mod Sound
pub mod SoundLaws
pub mod Definitions
mod RunLaws
pub mod AddedLaws
pub mod DefinitionsLaws
