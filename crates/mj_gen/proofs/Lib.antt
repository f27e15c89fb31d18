mod Places
mod Sizes
mod Tallies
mod Loads
mod Endings
