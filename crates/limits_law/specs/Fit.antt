-- What is given to environments is fit to be shown.
use Rattle.std.specs.Prelude.{◌≡◌, ℕ, Some, slice_get}
use Rattle.boot_image.specs.Accepted.{IsAccepted}
use Rattle.feed_log.specs.Views.{IsFit}
use Rattle.world_model.specs.Item.{Item}
use Rattle.run_model.specs.Run.{System, feed}

-- Each item of each feed is: the registers of a transfer are words; a record has a name of eight bytes, words, and whole
-- pages; and no backup has the number that stands for none.
abbrev pub ItemsAreFit : Type 0
ItemsAreFit = (system : System) (e t n : ℕ) (item : Item) → IsAccepted system.image
    → slice_get (feed system e t) n ≡ Some item → IsFit item
