pub mod FieldKinds
pub mod FrameText
pub mod KeptFields
pub mod PieceLaws
pub mod Plain
pub mod SplicedFields
pub mod SplicedFile
