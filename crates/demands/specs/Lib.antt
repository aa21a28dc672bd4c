pub mod Demands
pub mod Sessions
pub mod Kernels
pub mod Edges
pub mod Permits
pub mod Pages
