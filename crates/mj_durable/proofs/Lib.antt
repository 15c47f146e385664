pub mod JournalLaws
pub mod SendLaws
pub mod TagLaws
pub mod OpeningLaws
pub mod GoingLaws
pub mod HostLaws
pub mod EndLaws
