-- Streams: each link carries one stream of frames. Rounds: that can be had frame by frame. Order: so the two agree.
pub mod Agree
pub mod Drain
pub mod Example
pub mod Flat
pub mod Idle
pub mod Moves
pub mod Order
pub mod Owed
pub mod Rounds
pub mod Streams
pub mod Through
pub mod Turns
pub mod Written
