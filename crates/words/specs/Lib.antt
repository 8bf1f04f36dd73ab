pub mod Word
pub mod Frame
pub mod Run
