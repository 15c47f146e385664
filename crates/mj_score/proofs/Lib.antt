mod RowOrder
mod ScoreOrder
pub mod BestScore
