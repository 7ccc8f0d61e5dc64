pub mod Paper
pub mod Lengths
pub mod Told
pub mod Fractions
pub mod Millimetres
pub mod Right
pub mod Tables
pub mod Bits
