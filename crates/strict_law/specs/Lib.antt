pub mod StrictLaw
