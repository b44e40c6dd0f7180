pub mod Agreement
pub mod Evaluation
pub mod InOrder
pub mod LinePlaces
pub mod Once
pub mod Places
pub mod PlanLemmas
pub mod Walks
