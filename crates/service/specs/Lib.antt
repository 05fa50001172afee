pub mod Limits
pub mod Request
pub mod AnswerKind
pub mod Reply
pub mod Sending
pub mod Served
pub mod Numbers
pub mod Room
