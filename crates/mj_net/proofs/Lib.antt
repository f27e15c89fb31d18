mod Putting
mod Causes
mod Passing
mod Taking
