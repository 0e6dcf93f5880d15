pub mod ReadInOrder
