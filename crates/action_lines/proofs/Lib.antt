mod Refused
mod Sole
