mod AppendLemmas
pub mod ByteLemmas
pub mod CarryLemmas
pub mod ClearLemmas
pub mod DigitsLemmas
pub mod FaultLemmas
pub mod FieldsFaultLemmas
pub mod FieldsLemmas
pub mod LentFieldsLemmas
pub mod PackedFaultLemmas
pub mod PackedLemmas
pub mod PlainLemmas
pub mod WindowLemmas
