pub mod Records
pub mod RecordPass
pub mod Reads
pub mod RecordLaws
pub mod PassLaws
