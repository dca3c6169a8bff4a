mod Alike
mod Ends
mod Firsts
mod Quiet
mod Texts
