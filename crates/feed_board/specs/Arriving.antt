-- What a packet leaves of the ring page of its claim.
use Rattle.std.specs.Prelude.{ℕ, List, if◌then◌else◌, Option, Some, None}
use Rattle.handler_rules.specs.Running.{handler_run}
use Rattle.filter_tree.specs.declared.claim.Claim.{Claim}
use Rattle.packet_ring.specs.Ring.{is_full, with_packet}

-- without a handler it goes into the buffer whose turn it is, if that isn't full
abbrev pub page_queued : Claim → List ℕ → List ℕ → Option (List ℕ)
page_queued c packet page = if is_full page c.next then None else Some (with_packet page c.next packet)

-- a handler of these words runs over it and the page
abbrev pub page_left_of : Option (List ℕ) → Claim → List ℕ → List ℕ → Option (List ℕ)
page_left_of None c packet page = page_queued c packet page
page_left_of (Some words) c packet page = Some (handler_run words packet c.id page).page
