pub mod Texts
pub mod CountSteps
pub mod Faces
pub mod KindSets
pub mod Bits
pub mod EachKind
mod Spelled
