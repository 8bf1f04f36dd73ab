pub mod WordLaws
pub mod BytesLaws
pub mod FrameLaws
pub mod SignLaws
pub mod RunLaws
