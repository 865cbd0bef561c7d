-- What the texts are by the length of the input; what is promised of them; examples.
pub mod ByLength
pub mod Headers
pub mod Budget
pub mod Participants
pub mod Views
pub mod Examples
