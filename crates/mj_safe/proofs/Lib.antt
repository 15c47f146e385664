mod Blocking
mod Pieces
mod Firsts
