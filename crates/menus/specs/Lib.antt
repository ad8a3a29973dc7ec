pub mod Shown
pub mod Inbox
pub mod Laws
pub mod Slots
pub mod Waiting
pub mod Mailbox
pub mod Mailboxes
