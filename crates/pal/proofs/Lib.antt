pub mod SyntaxRows
pub mod Tables
pub mod Tests
pub mod Counted
pub mod Resolved
pub mod Held
pub mod Accepting
