-- The best value of a seat and its reply: what is demanded of them (Best), and where they stand in work memory (Staged, which no
-- public call cites).
pub mod Best
pub mod internal
