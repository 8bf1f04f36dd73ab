pub mod Kleene
pub mod Each
pub mod KleeneLaws
pub mod KleeneTrials
pub mod Table
pub mod Results
pub mod ResultsLaws
