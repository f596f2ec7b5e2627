-- Lemmas by which the rules show their laws: proved, and nothing to believe. They stand here since an impl names no other.
pub mod Alike
