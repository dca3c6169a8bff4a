mod Counting
mod Rising
mod Rooms
