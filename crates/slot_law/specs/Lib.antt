pub mod SlotLaw
pub mod SlotChange
pub mod TurnLeaves
