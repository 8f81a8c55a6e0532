-- What a clause that asks for something of some devices only comes to.
mod Asked
