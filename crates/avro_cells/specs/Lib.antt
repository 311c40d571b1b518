pub mod Kind
pub mod KindLaws
pub mod Value
pub mod ValueLaws
pub mod Form
