mod WordLaws
mod StatusLaws
mod EndingLaws
