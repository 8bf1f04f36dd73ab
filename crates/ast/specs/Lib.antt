pub mod Trees
pub mod TreesLaws
pub mod OperatorLaws
pub mod Flattening
pub mod Same
pub mod Parts
pub mod Room
pub mod Rules
