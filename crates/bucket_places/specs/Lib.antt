-- The places of codes.
pub mod Places
