pub mod Totals
pub mod EachBody
pub mod OneMore
pub mod Pages
