mod OneFunc
mod Places
mod Sizes
