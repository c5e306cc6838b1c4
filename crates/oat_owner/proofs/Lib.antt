mod Answering
mod Searching
mod Tabling
mod Keeping
mod Exchanging
mod Deciding
