pub mod FaultLemmas
pub mod VerdictLemmas
pub mod Lowest
pub mod Taking
