pub mod OnLiterals
pub mod NumberLemmas
pub mod TextLemmas
