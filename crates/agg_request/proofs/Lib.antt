mod Assembled
mod Items
mod Levels
