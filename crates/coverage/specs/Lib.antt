pub mod Likeness
pub mod CoreLaws
pub mod Counts
pub mod BindLaws
pub mod JoinForgetLaws
pub mod ChangeLaws
pub mod Walks
pub mod Listing
