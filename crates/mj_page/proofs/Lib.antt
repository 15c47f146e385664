mod Hands
mod Said
mod Bits
