mod Steps
mod Families
mod Outlets
mod Loops
mod Leftovers
