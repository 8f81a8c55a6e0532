-- Named has what a call on a device by its number does, by what was found.
pub mod Named
