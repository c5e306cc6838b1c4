pub mod Outside
pub mod FailingCalls
pub mod MemoryFiles
pub mod MemorySink
pub mod RealSink
