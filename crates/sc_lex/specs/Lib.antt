pub mod Line
pub mod Logical
pub mod Piece
pub mod Scan
pub mod Cursor
pub mod Spell
pub mod Unclosed
