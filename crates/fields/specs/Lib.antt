-- `Bytes`: little-endian numbers. `Laws`: numbers and bytes undo each other.
pub mod Bytes
pub mod Laws
