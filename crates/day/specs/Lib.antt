pub mod IssueNumbers
pub mod Memory
pub mod States
pub mod Tables
pub mod Calls
