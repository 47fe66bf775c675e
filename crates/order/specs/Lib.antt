-- What step 1 promises.
pub mod Closed
