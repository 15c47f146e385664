pub mod WordSteps
pub mod KindLists
pub mod MeldSteps
pub mod HandSteps
pub mod HandLaw
pub mod TextSteps
