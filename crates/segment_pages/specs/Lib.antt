pub mod FirstPage
pub mod Pages
