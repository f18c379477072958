-- Reads: what a read of a descriptor tells, as a whole and one step at a time.
pub mod Reads
pub mod ReadMachines
pub mod ReadsAlone
