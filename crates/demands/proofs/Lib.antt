pub mod Substitution
pub mod OneKey
pub mod Sizes
pub mod Refusals
pub mod Answers
pub mod Numbers
