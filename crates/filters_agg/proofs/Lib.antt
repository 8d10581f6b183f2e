pub mod Numbers
pub mod Making
pub mod MadeAggs
