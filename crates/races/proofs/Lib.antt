pub mod Decided
mod Sides
mod Adding
mod Based
mod Shuts
mod Ranges
mod Tabled
mod Chained
mod Fronts
mod Totals
mod Listing
mod Opened
