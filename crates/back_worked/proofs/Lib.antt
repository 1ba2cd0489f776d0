mod SmallPrograms
mod Transfers
mod Handlers
mod Values
mod Chains
mod Lists
