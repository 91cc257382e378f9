pub mod Apart
pub mod Clashing
pub mod Fitted
pub mod Holding
pub mod Listed
pub mod Plain
pub mod AllFiles
pub mod Results
mod Rows
mod Same
pub mod ScanFaults
pub mod Steps
pub mod Sums
pub mod Told
