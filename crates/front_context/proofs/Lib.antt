mod Keys
mod Places
