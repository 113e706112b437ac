pub mod Json
mod Shared
pub mod Workload
pub mod WorkloadParts
