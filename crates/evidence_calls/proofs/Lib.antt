-- Demand 3 of the exported calls: `Theorem.demand_three_calls`, and `Theorem.demand_three_byte_calls` where the layers
-- are lent as bytes.
pub mod Theorem
