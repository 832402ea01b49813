-- The spots of Leduc's walk.
pub mod internal
