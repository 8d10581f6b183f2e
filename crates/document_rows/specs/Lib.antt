pub mod Drafts
pub mod Faults
pub mod Roles
pub mod Scalars
pub mod States
