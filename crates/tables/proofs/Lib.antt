pub mod Vacancy
pub mod PlaceLaws
pub mod WordLaws
pub mod Laws
pub mod Counts
pub mod One
