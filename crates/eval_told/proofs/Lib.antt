mod Found
mod Written
mod Slots
