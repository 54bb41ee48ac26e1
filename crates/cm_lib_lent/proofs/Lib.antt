pub mod BuildLemmas
pub mod NumberLemmas
pub mod RoomLemmas
pub mod SpillLemmas
