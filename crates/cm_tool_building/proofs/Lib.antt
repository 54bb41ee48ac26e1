mod Stops
mod Ends
