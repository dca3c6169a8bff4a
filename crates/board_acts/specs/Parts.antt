-- A board with other parts, and all else as it was.
use Rattle.std.specs.Prelude.{ℕ, List, [], Option, unwrap_or}
use Rattle.kernel_journal.specs.Ledger.{Ledger}
use Rattle.mips_exec.specs.declared.registers.Cpu.{Cpu}
use Rattle.bind_book.specs.Stripe.{Stripes}
use Rattle.filter_tree.specs.ClaimBook.{ClaimBook}
use Rattle.guest_memory.specs.Look.{look}
use Rattle.guest_memory.specs.Space.{SpaceValue, lookup}
use Rattle.slot_vector.specs.Slices.{Slices}
use Rattle.world_model.specs.Call.{good_range}
use Rattle.world_model.specs.OwnCalls.{put_bytes}
use Rattle.world_model.specs.Page.{Mapped}
use Rattle.board_model.specs.declared.roster.Environment.{Environment}
use Rattle.board_model.specs.Shown.{Environments, Shown, with_record, mappings_of, with_list}
use Rattle.board_model.specs.Doing.{with_bytes_put, with_packet_sent}

-- what a packet for a claim changes: physical memory, the claims and what was sent
abbrev pub with_mail : Shown → List (List ℕ) → ClaimBook → Environments → Shown
with_mail b frames claims roster = record b { frames = frames; claims = claims; roster = roster }

-- what a slice that is handed on changes, at a time: the slots and the ledger
abbrev pub with_turns : Shown → Slices → ℕ → Ledger → Shown
with_turns b slots time ledger = record b { slots = slots; time = time; ledger = ledger }

-- what the entry of a transfer changes: physical memory, the registers and those that are kept
abbrev pub with_entry : Shown → List (List ℕ) → Cpu → Environments → Shown
with_entry b frames cpu roster = record b { frames = frames; cpu = cpu; roster = roster }

-- what an environment sees: its guaranteed mappings, and its bindings
abbrev pub space_in : Stripes → List Environment → ℕ → SpaceValue
space_in binds list e = record { mappings = mappings_of list e; binds = binds; number = e }

-- where the VPNs of an environment lead, over physical memory
abbrev pub look_in : List (List ℕ) → Stripes → List Environment → ℕ → ℕ → Option Mapped
look_in frames binds list e = look frames (lookup (space_in binds list e))

-- the environments once one of them puts bytes of its memory on its console, by where its VPNs lead
abbrev pub roster_after_put : (ℕ → Option Mapped) → Environments → ℕ → ℕ → ℕ → Environments
roster_after_put look r e address size =
    with_list r (with_record (with_bytes_put (unwrap_or (put_bytes look address size) [])) r.list e)

-- and once one of them sends bytes of its memory as a packet
abbrev pub roster_after_send : (ℕ → Option Mapped) → Environments → ℕ → ℕ → ℕ → Environments
roster_after_send look r e address size =
    with_list r (with_record (with_packet_sent (unwrap_or (good_range look address size) [])) r.list e)
