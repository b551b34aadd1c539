pub mod BenchTable
pub mod TurnedTable
