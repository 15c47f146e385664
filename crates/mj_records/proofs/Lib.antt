mod ActLaws
mod CallLaws
mod FieldLaws
mod GatherLaws
mod HandLaws
mod ListLaws
pub mod PlainLaws
mod PointLaws
mod ReachLaws
pub mod ReadLaws
mod RowLaws
pub mod SettingLaws
mod Shapes
mod ShownLaws
mod StartLaws
mod StepLaws
mod TextLaws
pub mod UsualLaws
pub mod ValueLaws
mod WinLaws
