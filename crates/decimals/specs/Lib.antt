-- The definitions that the contracts cite, in the order to read them.
pub mod Decimals
pub mod Normal
