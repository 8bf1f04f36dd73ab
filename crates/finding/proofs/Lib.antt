pub mod HeadLaws
pub mod ItemLaws
pub mod MarkLaws
pub mod SearchLaws
