-- What a reader must believe: the meanings of shelves, sinks, feeds and collectors, and what the
-- public calls say by them.
pub mod Sources
pub mod Taking
pub mod Sinks
pub mod Handing
pub mod Feeds
pub mod Pumping
pub mod Collectors
-- The states of the shelves and sinks of this crate.
-- The counts and the failing calls of those in memory are in Calls;
-- of the shelf over files and the sink over a writer as much is known as of the files and the
-- writer.
pub mod Calls
pub mod MemoryShelves
pub mod QuietShelves
pub mod EndlessShelves
pub mod FileShelves
pub mod FileSystems
pub mod MemorySinks
pub mod StdSinks
-- What private functions pass on.
pub mod Cursors
