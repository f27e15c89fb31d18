pub mod GreetingGrammar
pub mod GreetingTable
