-- What happens in machines on a wire, and what it carries.
use Rattle.std.specs.Prelude.{◌≡◌, ◌<◌, ℕ, true, Some, slice_get}
use Rattle.handler_rules.specs.Laws.{is_frame}
use Rattle.boot_image.specs.ImageValue.{ImageValue}
use Rattle.sharing_law.specs.Whole.{AreEventsWithinLimits}
use Rattle.wire_model.specs.Wire.{Frame, Wire, put_on_wire, wired}
use Rattle.wire_law.specs.Systems.{BootImages}

-- What happens in a machine on a wire is within its limits, if its own schedule is.
abbrev pub WiredAreWithin : Type 0
WiredAreWithin = (wire : Wire) (i known : ℕ) → AreEventsWithinLimits (wire.machines i).schedule
    → AreEventsWithinLimits (wired wire known i)

-- If each machine starts as its image boots, and each one's own schedule is within its limits, each packet on the wire
-- has 14 to 1,514 bytes.
abbrev pub WireCarriesFrames : Type 0
WireCarriesFrames = (wire : Wire) (images : ℕ → ImageValue) (t known k : ℕ) (frame : Frame) → BootImages wire images
    → ((i : ℕ) → i < wire.count → AreEventsWithinLimits (wire.machines i).schedule)
    → slice_get (put_on_wire wire (wired wire known) t) k ≡ Some frame → is_frame frame.packet ≡ true
