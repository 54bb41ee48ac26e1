pub mod Images
pub mod Places
pub mod ImageLaws
pub mod WritingLaws
pub mod BackLaws
