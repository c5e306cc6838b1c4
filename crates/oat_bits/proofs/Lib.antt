mod FieldLemmas
pub mod PackedForm
pub mod OnePackedForm
pub mod Filling
pub mod WordLemmas
