-- Walks over a stored tree: the child behind an action, what a walk counts on, the members of a set.
pub mod internal
