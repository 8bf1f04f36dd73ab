-- The definitions that the contracts cite, in the order to read them, and laws about them.
pub mod Entries
pub mod Table
pub mod Spells
pub mod Bodies
pub mod WellFormed
pub mod Form
pub mod Reading
pub mod RangeLaws
pub mod TableLaws
pub mod SpellsLaws
pub mod BodiesLaws
pub mod ReadingLaws
pub mod Encoding
pub mod Suiting
