pub mod Folding
pub mod Walking
pub mod Fitting
pub mod TicketCopies
pub mod Looping
pub mod Ending
