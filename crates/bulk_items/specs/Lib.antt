-- What is said of the items of a bulk response.
pub mod Items
