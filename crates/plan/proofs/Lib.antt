-- Why a plan is fit, and agrees with the question of the text.
pub mod Agreeing
pub mod Telling
pub mod Drawing
