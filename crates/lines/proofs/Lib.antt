mod LibraryLaws
mod PartLaws
mod WritingLaws
pub mod ColonLaws
pub mod Trials
pub mod WordTests
