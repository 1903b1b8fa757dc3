mod Refused
mod Sources
mod Steps
mod Parts
mod Named
