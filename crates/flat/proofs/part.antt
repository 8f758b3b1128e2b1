-- The place of the part that holds the rates.
mod Placed
