-- The definitions that the contracts of `catalogue` cite, and what the vectors promise: document 02's request One.
pub mod Catalogue
