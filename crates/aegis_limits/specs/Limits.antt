-- The limits of the machine and of the kernel. Where versions of images differ, these are the widest.
use Rattle.std.specs.Prelude.{ℕ}

-- the bytes of a page
abbrev pub page_size : ℕ
page_size = 4096

-- VPNs of user addresses, which are these addresses over the size of a page, lie below this one
abbrev pub vpn_end : ℕ
vpn_end = 0x80000

-- the pages of an environment's stack end below this VPN
abbrev pub stack_end : ℕ
stack_end = 0x7FFF0

-- the pages of physical memory
abbrev pub least_pages : ℕ
least_pages = 16

abbrev pub most_pages : ℕ
most_pages = 4096

-- the ticks of a quantum
abbrev pub least_quantum : ℕ
least_quantum = 16

abbrev pub most_quantum : ℕ
most_quantum = 65536

-- environments are numbered from 0, at most so many
abbrev pub most_environments : ℕ
most_environments = 32

-- Numbers of environments lie below this one, also where an event names one that isn't there: a set of them is a word.
abbrev pub environment_numbers : ℕ
environment_numbers = 32

-- the quanta that an environment may owe; one more is its death
abbrev pub excess_limit : ℕ
excess_limit = 8

-- the rows in which an environment's bindings stand
abbrev pub most_stripe_rows : ℕ
most_stripe_rows = 256

abbrev pub most_slots : ℕ
most_slots = 64

-- the guaranteed mappings of an environment, its context page among them
abbrev pub most_mappings : ℕ
most_mappings = 256

abbrev pub most_stack_pages : ℕ
most_stack_pages = 16

-- the bytes of a console
abbrev pub console_size : ℕ
console_size = 65536

-- the ticks of a machine: time ends here
abbrev pub most_ticks : ℕ
most_ticks = 268435456

-- the ticks that `run` makes, and each side of `twin`; no event of a schedule comes later
abbrev pub most_run_ticks : ℕ
most_run_ticks = 4194304
