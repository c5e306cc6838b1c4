mod Given
mod Places
mod Windows
mod Honest
