pub mod RecordLaws
pub mod RunsLaws
pub mod KeptLaws
