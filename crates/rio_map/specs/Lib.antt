pub mod Converting
pub mod Lacking
pub mod Laws
pub mod Versions
