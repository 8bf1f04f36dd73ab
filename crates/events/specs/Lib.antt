pub mod Values
pub mod ValuesLaws
pub mod Events
pub mod Suits
