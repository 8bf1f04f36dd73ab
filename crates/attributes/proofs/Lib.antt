mod NameLaws
pub mod RangeLaws
mod SoundTold
