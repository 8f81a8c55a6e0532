-- Called has what a local call of a device that is found asks and does, once for all calls.
mod Called
