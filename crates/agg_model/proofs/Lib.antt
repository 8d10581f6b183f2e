pub mod InstantBits
