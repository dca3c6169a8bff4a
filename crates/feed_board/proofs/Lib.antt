mod Acting
mod Arrivals
mod Paging
