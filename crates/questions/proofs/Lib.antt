-- The laws that the proofs of this crate cite.
mod Engines
mod Names
mod Splitting
