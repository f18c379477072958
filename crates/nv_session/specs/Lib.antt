-- Calls: what the calls of a session do. Closing: the end of a mount. Descriptors: where a file stands. Sessions: what contracts see of sessions.
-- Works: what threads do by sessions of their own.
pub mod Calls
pub mod Closing
pub mod Descriptors
pub mod Sessions
pub mod Works
