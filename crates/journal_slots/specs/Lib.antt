pub mod Starts
pub mod Grammar
pub mod Fronts
pub mod Tops
