mod Bad
mod Words
