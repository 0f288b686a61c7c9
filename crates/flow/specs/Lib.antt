-- The specifications of flows, regions, right answers and pay, and what holds of every board.
pub mod Flow
pub mod Regions
pub mod Residual
pub mod Outcome
pub mod Imbalance
pub mod Laws
pub mod Pay
