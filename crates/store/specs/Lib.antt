pub mod Heads
pub mod Layout
pub mod Records
pub mod Tables
pub mod Runs
