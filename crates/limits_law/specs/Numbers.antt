-- The numbers of what is given to environments.
use Rattle.std.specs.Prelude.{◌≡◌, ◌<◌, ℕ, length, true, Some, IfSome, slice_get}
use Rattle.boot_image.specs.Accepted.{IsAccepted}
use Rattle.boot_image.specs.ImageValue.{ImageValue}
use Rattle.external_event.specs.Limits.{lines}
use Rattle.external_event.specs.Packet.{is_packet}
use Rattle.world_model.specs.Item.{Item, Boot, Gained, Lost, Left, Packet, Line, Taken}
use Rattle.run_model.specs.Run.{System, feed}
use Rattle.sharing_law.specs.Whole.{AreEventsWithinLimits}

-- A record has the number of a program. A page is one of the image's, and so is a backup. A packet has 1 to 1,514 bytes,
-- and a line is one of those that there are.
abbrev pub HasNumbersWithin : ImageValue → Item → Type 0
HasNumbersWithin image (Boot version number name entry accept kept) = number < length image.programs
HasNumbersWithin image (Gained page writable bytes) = page < image.pages
HasNumbersWithin image (Lost page) = page < image.pages
HasNumbersWithin image (Left page offset bytes) = page < image.pages
HasNumbersWithin image (Packet claim packet) = is_packet packet ≡ true
HasNumbersWithin image (Line line) = line < lines
HasNumbersWithin image (Taken page backup) = (page < image.pages) × IfSome backup (λ into. into < image.pages)
HasNumbersWithin image item = Unit {0}

-- So it is of each item of each feed, if events are within their limits.
abbrev pub NumbersAreWithin : Type 0
NumbersAreWithin = (system : System) (e t n : ℕ) (item : Item) → IsAccepted system.image
    → AreEventsWithinLimits system.schedule → slice_get (feed system e t) n ≡ Some item
    → HasNumbersWithin system.image item
