pub mod Plan
pub mod Sink
pub mod Source
pub mod MemorySource
pub mod MemorySink
pub mod FileSource
pub mod StdSink
