pub mod Agenda
pub mod Course
pub mod Halves
pub mod OnCourse
