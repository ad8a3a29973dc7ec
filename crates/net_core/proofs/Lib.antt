pub mod TurnOrder
pub mod QuietOrDue
pub mod AnswersDecide
pub mod Opening
