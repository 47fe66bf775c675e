-- Why remembering is right, and a word for the triggers.
pub mod WordLaws
pub mod CountLaws
