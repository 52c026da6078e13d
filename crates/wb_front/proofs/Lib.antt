mod Connecting
mod Inboxes
mod Replying
mod Sending
mod Serving
mod Working
