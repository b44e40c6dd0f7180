-- What only proofs cite.
pub mod Settled
