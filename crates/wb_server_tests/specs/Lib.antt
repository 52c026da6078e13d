pub mod NewHosts
