pub mod Orthonormal
