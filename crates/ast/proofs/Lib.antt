pub mod FlatteningLaws
pub mod PartsLaws
pub mod RoomLaws
pub mod SameLaws
pub mod SizeLaws
pub mod Trials
