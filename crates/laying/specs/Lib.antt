-- What is known of lines that are to be laid out.
pub mod Laying
