pub mod DataMemory
