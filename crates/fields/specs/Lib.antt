-- The interface is Places and Sets, which the contracts cite beside paper's definitions, and Columns for columns that are handed down.
pub mod Sets
pub mod Places
pub mod Columns
