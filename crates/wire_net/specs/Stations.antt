-- The stations of all machines.
use Rattle.std.specs.Prelude.{ℕ, ◌≡◌, ◌≤◌, ◌<◌, List, Vec, length, get_or}
use Rattle.std.specs.Global.{Global}
use Rattle.external_event.specs.EventValue.{EventValue}
use Rattle.board_model.specs.Shown.{Shown}
use Rattle.wire_net.specs.declared.delivery.Delivery.{Delivery}
use Rattle.wire_net.specs.declared.net.Station.{Station}
use Rattle.wire_net.specs.Station.{AreCounted, Happened, IsAt, IsThrough}

-- Stations at the start: each is at tick 0, all events of its schedule are to come, and what its board sent is counted.
pub record AreAtStart (boards : List Shown) (schedules : List (Vec EventValue Global))
    (stations : List Station) : Type 0 where
  pub count : length stations ≡ length boards
  pub time : (i : ℕ) (s : Station) → i < length boards → (get_or stations i s).time ≡ 0
  pub agenda : (i : ℕ) (s : Station) (v : Vec EventValue Global) → i < length boards
      → (get_or stations i s).agenda ≡ (get_or schedules i v).items
  pub sent : (i : ℕ) (s : Station) (b : Shown) → i < length boards
      → AreCounted (get_or boards i b) (get_or stations i s).sent.items

-- Each machine makes its next tick at this time or later.
abbrev pub NoneBefore : ℕ → List Station → Type 0
NoneBefore time stations = (i : ℕ) (s : Station) → i < length stations → time ≤ (get_or stations i s).time

-- Each board is at its machine's station.
abbrev pub AreAt : List Station → List Shown → Type 0
AreAt stations boards = (i : ℕ) (b : Shown) (s : Station) → i < length boards
    → IsAt (get_or stations i s) (get_or boards i b)

-- All machines are through with the tick of a time.
abbrev pub AreThrough : ℕ → ℕ → List Delivery → List Shown → List Station → List Shown → List Station → Type 0
AreThrough time until due boards stations new_boards new_stations =
    (i : ℕ) (b : Shown) (s : Station) → i < length boards
    → IsThrough i time until due (get_or boards i b) (get_or stations i s)
    (get_or new_boards i b) (get_or new_stations i s)

-- In each of them it happened in part, or the tick was made, or nothing happened.
abbrev pub HaveHappened : ℕ → ℕ → List Delivery → List Shown → List Station → List Shown → Type 0
HaveHappened time until due boards stations new_boards = (i : ℕ) (b : Shown) (s : Station) → i < length boards
    → Happened i time until due (get_or boards i b) (get_or stations i s) (get_or new_boards i b)
