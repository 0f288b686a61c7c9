-- Lemmas on boards.
pub mod First
pub mod Valid
