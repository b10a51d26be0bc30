pub mod ToldFaults
