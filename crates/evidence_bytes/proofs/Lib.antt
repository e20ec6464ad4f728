-- Demand 3 of layers that are lent as bytes: `Back.demand_three_bytes`.
pub mod Back
