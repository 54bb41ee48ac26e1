mod Steps
mod Ends
