-- Files and streams: what the contracts cite.
pub mod Reading
