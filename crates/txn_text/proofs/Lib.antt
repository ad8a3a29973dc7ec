pub mod NumberLemmas
pub mod FrontLemmas
pub mod TokensLemmas
pub mod TokensLieInOrder
pub mod LayoutLemmas
