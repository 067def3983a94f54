pub mod FlatLemmas
pub mod GrowingLemmas
pub mod NodeLemmas
pub mod ChildrenLemmas
pub mod BuiltLemmas
pub mod WalkLemmas
pub mod TextLemmas
pub mod PushingLemmas
