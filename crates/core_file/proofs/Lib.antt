mod Clear
mod Adding
mod Few
