pub mod AsBox
pub mod Refusing
pub mod QueryAnswers
