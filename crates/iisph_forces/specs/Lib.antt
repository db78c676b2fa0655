pub mod Forces
