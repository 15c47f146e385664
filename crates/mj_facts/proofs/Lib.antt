mod Brought
mod CourseKept
pub mod EachSeat
mod FewKept
mod FitsKept
pub mod Gathered
pub mod HandsKept
mod KindsAmong
mod MarksKept
mod MeldsKept
pub mod OneMore
mod SeatsKept
mod SeatTurns
pub mod WinSteps
