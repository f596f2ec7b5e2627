pub mod Links
pub mod Tables
pub mod Distincts
pub mod Pieces
pub mod Chains
pub mod Ways
pub mod LeastEdges
pub mod Stages
pub mod Plans
mod Furthest
mod Picked
pub mod OneDating
pub mod Dating
pub mod Deciding
pub mod Matrices
mod Relaxing
mod Filling
mod Unfoldings
mod Searching
pub mod Endings
pub mod Contradictions
pub mod Routes
