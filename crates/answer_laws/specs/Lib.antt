-- What a search holds while it runs, the pages of a scan, answers of the whole reduction, and scripts that have room.
pub mod Held
pub mod Scans
pub mod Reduced
pub mod LineCounts
pub mod Completing
