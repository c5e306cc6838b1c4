mod Names
mod Loop
mod Ids
