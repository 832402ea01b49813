-- What the comparison of NashConv / U is among tables that are evaluated (document 02, Nine).
pub mod Tables
pub mod Tried
