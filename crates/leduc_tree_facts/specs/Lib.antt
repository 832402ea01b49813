-- Facts about Leduc's tree: its counts, what its keys tell, and the best reply to a table.
pub mod Shape
pub mod Facts
