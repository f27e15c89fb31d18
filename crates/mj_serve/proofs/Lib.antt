mod Counting
mod Leaving
mod Staying
mod Going
mod Laws
mod Alone
mod Beginning
mod Ending
mod Refusing
pub mod Lawful
