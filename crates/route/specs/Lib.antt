pub mod Hops
pub mod Listed
pub mod Search
pub mod Queue
pub mod Wire
pub mod Sweep
pub mod Paths
