-- How many nodes, sets and entries Leduc has, as numbers (document 01, the table of counts).
-- Definitions only; nothing is assumed.
use Rattle.std.specs.Prelude.{ℕ}

abbrev pub leduc_nodes : ℕ
leduc_nodes = 9457

abbrev pub leduc_sets : ℕ
leduc_sets = 936

abbrev pub leduc_entries : ℕ
leduc_entries = 2184
