-- Tables of handles, the sessions of members, the walk over all places, and the names.
pub mod HandleTable
pub mod Sessions
pub mod Walk
pub mod Naming
