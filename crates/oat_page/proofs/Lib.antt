pub mod Holding
pub mod Putting
pub mod Showing
pub mod Lists
pub mod Working
pub mod Orders
