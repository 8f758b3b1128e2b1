-- Flows: the sum of flows times factors. Products: amounts times their shocks. Margin: the products under the root of S6.
pub mod Products
pub mod Flows
pub mod Margin
