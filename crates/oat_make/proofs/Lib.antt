mod Arriving
mod Formed
mod Helpers
mod Made
mod Rounds
mod Running
mod Worked
mod Written
