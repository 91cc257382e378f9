pub mod Simulation
pub mod Stacks
pub mod Walking
pub mod AllPieces
