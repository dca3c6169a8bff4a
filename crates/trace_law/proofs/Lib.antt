mod Tracing
