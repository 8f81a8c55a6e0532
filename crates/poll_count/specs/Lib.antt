-- The count over an IDY that came back.
pub mod Count
