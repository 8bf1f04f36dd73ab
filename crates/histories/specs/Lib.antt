pub mod Calls
pub mod Live
pub mod Stands
pub mod Owners
pub mod Report
