pub mod Code
pub mod Words
pub mod Missing
pub mod Pieces
pub mod Cuts
