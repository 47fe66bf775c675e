-- A timing's components and their limit, its deviation over entries, and what the test says.
pub mod Times
pub mod Deviation
pub mod Test
