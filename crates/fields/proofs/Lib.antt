-- Laws that belong to no one function, and the proofs of what specs/ claims.
pub mod Again
pub mod Search
