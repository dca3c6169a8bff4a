mod Alike
mod Runs
