pub mod TableLaws
pub mod BitLaws
