mod Makes
mod Printing
mod Saved
mod Tests
mod Upgrades
mod Usage
