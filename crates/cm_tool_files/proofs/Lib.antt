mod Loads
mod Answering
mod UpgradeLemmas
