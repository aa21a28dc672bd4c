pub mod Record
pub mod Sum
pub mod Demand
pub mod Edges
