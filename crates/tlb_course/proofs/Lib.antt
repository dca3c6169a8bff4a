mod Counting
mod Further
