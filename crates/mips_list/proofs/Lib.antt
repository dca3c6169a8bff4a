mod WordTexts
mod Lines
