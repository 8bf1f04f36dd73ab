pub mod CallsLaws
pub mod LiveLaws
pub mod OwnersLaws
pub mod ReportLaws
pub mod StandsLaws
pub mod Runs
pub mod Demands
