-- The counts of a byte's bits.
mod Count
