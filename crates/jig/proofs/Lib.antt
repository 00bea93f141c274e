pub mod CalledLaws
pub mod NumberLaws
