pub mod Marks
pub mod Sums
pub mod Answer
pub mod Misread
pub mod Unread
pub mod Searching
