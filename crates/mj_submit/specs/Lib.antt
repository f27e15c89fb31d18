pub mod Notes
pub mod SubmitRules
pub mod WorkedNotes
pub mod WorkedSubmissions
