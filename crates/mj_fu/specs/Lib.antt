pub mod Forms
pub mod Fu
