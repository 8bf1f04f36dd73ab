pub mod Placing
pub mod Moving
pub mod Changes
pub mod Effects
