-- What the contracts of `rows` cite: a row's fields and bytes, the answers to a reader and a writer.
pub mod Fields
pub mod Answer
pub mod Examples
