pub mod Agree
pub mod One
pub mod Made
