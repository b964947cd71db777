pub mod ItemListings
pub mod Listings
pub mod Scans
pub mod Versions
