-- Read Places, what an array of records with its words means; then Records, what one record shows; then Numbers, what a number is put together of;
-- then Meaning, what handles and permits mean; then Calls, what the methods do.
pub mod Places
pub mod Records
pub mod Numbers
pub mod Meaning
pub mod Calls
