mod Numbered
mod Grouped
mod Joining
