mod Asking
mod Granting
