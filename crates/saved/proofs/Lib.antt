-- Wide has the laws of parts of one width, Row those of a row of three widths, Record those of one record. Formed says
-- what the form of a save is, Older what the upgrade of an old one is; Tests what each call does, by the tests that the
-- code makes; Runs what a copy fills.
pub mod Wide
pub mod Row
pub mod Record
pub mod Formed
pub mod Runs
pub mod Older
pub mod Tests
pub mod Laws
