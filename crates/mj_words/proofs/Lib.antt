mod Digits
mod OptionLaws
mod FrameLemmas
mod LineLemmas
