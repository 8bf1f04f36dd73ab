-- The laws behind the contracts' proofs. Other crates cite ScaleLaws and NormalLaws.
pub mod OrderLaws
pub mod ScaleLaws
pub mod DivisionLaws
pub mod SignLaws
pub mod TableLaws
pub mod ShorteningLaws
pub mod NormalLaws
pub mod Trials
