pub mod Folding
pub mod Fronts
pub mod Halves
pub mod Laws
pub mod OneAnswer
pub mod Wide
