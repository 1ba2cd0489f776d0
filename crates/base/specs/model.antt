pub mod CodedTree
pub mod DataCode
pub mod DataView
pub mod DataFalls
pub mod DataSizes
pub mod DataRest
