mod Steps
mod Ends
mod Promises
mod Usage
