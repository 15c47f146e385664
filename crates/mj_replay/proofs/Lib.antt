mod CheckLaws
mod ExactLaws
mod FollowLaws
mod PlayedLaws
mod SizeLaws
mod WorthLaws
