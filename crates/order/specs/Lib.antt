-- What a walk over all labels in order of start promises, and the keys inside it.
pub mod Walk
pub mod Keys
pub mod Standing
pub mod OneProof
