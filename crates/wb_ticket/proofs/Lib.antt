mod Apart
mod Follows
