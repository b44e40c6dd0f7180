pub mod Answers
pub mod Jobs
pub mod Judgements
pub mod Laws
