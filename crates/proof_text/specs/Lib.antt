pub mod Numbers
pub mod Results
pub mod Dimacs
pub mod Lrat
pub mod Printing
pub mod Unread
pub mod Inside
