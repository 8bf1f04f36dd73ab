pub mod Readings
pub mod Setting
pub mod Filling
pub mod Ages
