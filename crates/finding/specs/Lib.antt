-- The definitions that the contracts cite, in the order to read them, each with its laws.
pub mod KeyOrder
pub mod KeyOrderLaws
pub mod Keys
pub mod KeyLaws
pub mod Ascent
pub mod AscentLaws
pub mod Finding
pub mod FindingLaws
pub mod Bare
pub mod PartLaws
pub mod Changes
pub mod PutLaws
pub mod DropLaws
