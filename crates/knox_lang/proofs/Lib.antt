pub mod CallLemmas
pub mod FitLemmas
pub mod WidthLemmas
pub mod StmtLemmas
pub mod OperationLemmas
pub mod TypingLemmas
pub mod FieldLemmas
