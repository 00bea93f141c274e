pub mod DecimalLaws
pub mod WriteLaws
pub mod FieldLaws
pub mod LineLaws
pub mod LineCases
