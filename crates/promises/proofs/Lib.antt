pub mod Accounts
pub mod Sums
pub mod Events
pub mod CallAccounts
pub mod Runs
pub mod Demand
pub mod Permits
pub mod Edges
