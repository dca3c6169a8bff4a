mod Sureness
