pub mod Memories
