pub mod RoomLaws
pub mod NewLaws
pub mod GiveLaws
pub mod PlayLaws
pub mod One
