pub mod Kind
pub mod Sums
pub mod MinuteKind
pub mod PairKind
-- Lemmas by which the two kinds show the laws: proved, and nothing to believe. They stand here since an impl names no other.
pub mod MinuteLaws
pub mod Parts
pub mod PairLaws
pub mod Order
