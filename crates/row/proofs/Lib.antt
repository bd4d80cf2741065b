pub mod Laws
pub mod AtDoor
