-- The machine of arrivals: plans, labels, desks, slots and moves, and what holds after every list of moves.
pub mod AfterMove
pub mod Closing
pub mod Counts
pub mod Fairness
pub mod Growth
pub mod Guards
pub mod Hands
pub mod Holding
pub mod Items
pub mod Labels
pub mod Lists
pub mod Moves
pub mod Plans
pub mod Slots
