mod Reaching
mod Registers
mod Steps
mod Transfers
mod MonitorCalls
mod Slots
mod Homes
mod Runs
mod Holding
mod Arming
mod Opening
mod Sites
mod Entering
mod Calling
mod IndirectCalling
mod Returning
mod Starting
mod LowCode
mod Blocks
mod Landing
pub mod WorkedCode
mod Worked
pub mod FrameLaws
pub mod Kit
