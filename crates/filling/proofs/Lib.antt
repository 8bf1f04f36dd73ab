pub mod RowLaws
pub mod AgesLaws
pub mod FilledLaws
pub mod FillingLaws
pub mod SettingLaws
