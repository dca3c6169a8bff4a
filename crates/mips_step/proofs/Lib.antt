mod StepSound
mod Ended
mod System
