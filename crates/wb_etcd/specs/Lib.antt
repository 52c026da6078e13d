pub mod Answers
pub mod Exchanges
pub mod Holding
pub mod KeyTexts
pub mod StoreNames
pub mod Transactions
