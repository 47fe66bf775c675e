-- What is gathered.
pub mod Gathering
