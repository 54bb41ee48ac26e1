pub mod BuildLemmas
pub mod HeldLemmas
pub mod NumberLemmas
pub mod RoomLemmas
pub mod SpanLemmas
