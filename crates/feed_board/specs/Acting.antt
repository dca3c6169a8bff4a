-- What others see of the next step of an environment.
use Rattle.std.specs.Prelude.{ℕ, ◌/◌, ◌%◌, Bool, ◌==◌, if◌then◌else◌, Option, Some, None, is_some}
use Rattle.aegis_limits.specs.Limits.{page_size}
use Rattle.mips_exec.specs.declared.registers.Cpu.{Cpu}
use Rattle.mips_exec.specs.declared.exception.Outcome.{Outcome}
use Rattle.mips_exec.specs.declared.exception.Outcome.TheVariants as outcome
use Rattle.mips_exec.specs.Access.{Write}
use Rattle.mips_exec.specs.Cpu.{reg}
use Rattle.env_frames.specs.Frame.{mapping_at}
use Rattle.bind_book.specs.declared.binding.Binding.{Binding}
use Rattle.bind_book.specs.Stripe.{binding_at, stripes}
use Rattle.guest_memory.specs.Space.{SpaceValue}
use Rattle.world_model.specs.Call.{exit_number}
use Rattle.feed_telling.specs.declared.act.NextAct.{NextAct}
use Rattle.feed_telling.specs.declared.act.NextAct.TheVariants as next

-- a store through a binding, if there is one
abbrev pub store_by_binding : Write → Option Binding → NextAct
store_by_binding w None = next.Aside
store_by_binding w (Some b) = next.Stores b.page (w.address % page_size) w.bytes

-- a store at a VPN at which a page is guaranteed or not, else bound or not
abbrev pub store_at_vpn : Write → Bool → Option Binding → NextAct
store_at_vpn w guaranteed bound = if guaranteed then next.Aside else store_by_binding w bound

-- what is stored, if anything is, by an environment that sees this
abbrev pub write_shown : SpaceValue → Option Write → NextAct
write_shown s None = next.Aside
write_shown s (Some w) = let vpn = w.address / page_size in
    store_at_vpn w (is_some (mapping_at s.mappings vpn)) (binding_at s.binds.version (stripes s.binds s.number) vpn)

-- a kernel call; exit is a death
abbrev pub call_shown : Cpu → NextAct
call_shown cpu = if reg cpu 2 == exit_number then next.Dies else next.Calls

-- an exception; without a handler it is a death
abbrev pub trap_shown : ℕ → NextAct
trap_shown handler = if handler == 0 then next.Dies else next.Aside

-- a step that ended so and wrote this, of an environment that sees this and has this handler of exceptions and these
-- registers
abbrev pub outcome_shown : SpaceValue → ℕ → Cpu → Outcome → Option Write → NextAct
outcome_shown s handler cpu outcome.Retired write = write_shown s write
outcome_shown s handler cpu outcome.Call write = call_shown cpu
outcome_shown s handler cpu (outcome.Trap exc) write = trap_shown handler
