-- The definitions that the contracts cite, in the order to read them, each followed by its laws. The laws of `Colon`, and facts that
-- compute, stand in proofs/.
pub mod Text
pub mod Parts
pub mod PartsLaws
pub mod Words
pub mod WordsLaws
pub mod Colon
pub mod Keywords
pub mod KeywordsLaws
pub mod Numbers
pub mod NumbersLaws
pub mod Digits
pub mod DigitsLaws
pub mod Rows
pub mod RowsLaws
