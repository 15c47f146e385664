mod Named
mod Settings
mod Spellings
mod Texts
