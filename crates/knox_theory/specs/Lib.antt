-- In reading order. What a yes says is Device, Worlds and Agreement, with the events and answers of src/event.rt and the lists of words of knox_words.
pub mod Device
pub mod Worlds
pub mod Agreement
-- What the theorem asks of a device, and that the dialogue of an emulator is what its replies alone decide.
pub mod Design
pub mod Lawful
pub mod Dialogue
-- How agreement is shown: scripts, their segments and runs, and when a script is closed.
pub mod Script
pub mod Course
pub mod WireSegments
pub mod HostSegments
pub mod Segments
pub mod Closed
-- What is told of choices that falsify a hint.
pub mod Traces
-- Two ways of trying all choices.
pub mod Numbered
pub mod Searched
-- What code tests of answers.
pub mod Answers
