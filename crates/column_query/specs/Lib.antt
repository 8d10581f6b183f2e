pub mod Wanted
pub mod Made
pub mod Numbers
pub mod NumberSets
pub mod Prepared
