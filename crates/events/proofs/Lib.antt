pub mod SuitsLaws
pub mod EventsLaws
pub mod SuitedLaws
pub mod PartLaws
mod RangeLaws
pub mod WordsLaws
