-- The talker's clauses parted, and those that go by the state, in each state.
mod Parted
mod States
