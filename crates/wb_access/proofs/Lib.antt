mod CountTables
mod CountedSessions
mod Logins
mod OneOfKey
mod ReceiptTables
