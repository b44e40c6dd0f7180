pub mod DigitsRead
pub mod SearchSteps
pub mod VerdictSteps
