pub mod SubmitSights
