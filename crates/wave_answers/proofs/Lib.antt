pub mod Rises
pub mod Charges
pub mod Left
pub mod Wholes
pub mod Ends
pub mod Going
