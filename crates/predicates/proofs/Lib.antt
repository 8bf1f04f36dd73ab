pub mod AmountLaws
pub mod MeaningLaws
pub mod Trials
pub mod Deciding
