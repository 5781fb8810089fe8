pub mod Runs
pub mod Run
pub mod Printed
