pub mod Fields
pub mod Shifts
pub mod Load
pub mod PutLaws
pub mod WordCases
pub mod SplitRefuted
