mod FacesHeld
mod FaceSums
mod HeldKinds
pub mod InHand
mod LatestKept
mod LatestTold
mod NewestHand
mod Readers
mod RedFives
pub mod OneLess
pub mod RoomSteps
mod Sights
mod Spare
