-- The definitions that the contracts cite, in the order to read them. Their laws stand in proofs/.
pub mod Cut
pub mod Reading
