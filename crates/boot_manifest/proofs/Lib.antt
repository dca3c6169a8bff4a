mod Bodies
mod OwnerLemmas
mod ReadingLemmas
mod Sizes
mod TextLemmas
