mod Moves
mod Shares
