pub mod WorkerGrammar
pub mod Codes
pub mod WorkerReading
pub mod WorkerWriting
pub mod Laws
