pub mod ErrorKinds
pub mod Found
pub mod Failed
