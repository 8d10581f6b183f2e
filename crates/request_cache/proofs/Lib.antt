mod EqualEntries
mod KeptEntries
pub mod AnswersKept
mod PaidInFull
pub mod ShardRooms
mod TaskEnds
