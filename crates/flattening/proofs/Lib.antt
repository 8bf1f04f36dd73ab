pub mod WritingLaws
pub mod CollectingLaws
pub mod CodesLaws
pub mod MappingLaws
pub mod OptimizeLaws
pub mod RunningLaws
pub mod Trials
