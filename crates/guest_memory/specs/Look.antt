-- What is seen through a look-up of VPNs, and what steps do there.
use Rattle.std.specs.Prelude.{ℕ, ◌/◌, ◌%◌, List, Option, Some, None, slice_get}
use Rattle.std.specs.Option.{option_map, option_or}
use Rattle.mips_exec.specs.declared.registers.Cpu.{Cpu}
use Rattle.mips_exec.specs.Access.{Write}
use Rattle.mips_exec.specs.Step.{Step, step_of, view_of}
use Rattle.aegis_limits.specs.Limits.{page_size}
use Rattle.aegis_limits.specs.declared.version.Version.{Version}
use Rattle.frame_store.specs.Pages.{after_put}
use Rattle.env_frames.specs.declared.mapping.Mapping.{Mapping}
use Rattle.env_frames.specs.Frame.{mapping_at}
use Rattle.bind_book.specs.declared.binding.Binding.{Binding}
use Rattle.bind_book.specs.Stripe.{binding_at}
use Rattle.world_model.specs.Page.{Mapped, answers_by}

-- a binding as a mapping
abbrev pub bound_mapping : Binding → Mapping
bound_mapping b = record { vpn = b.vpn; page = b.page; writable = b.writable }

-- the mapping of a VPN: the guaranteed one, else that of the binding
abbrev pub mapping_in : Version → List Mapping → (ℕ → Option Binding) → ℕ → Option Mapping
mapping_in v mappings stripe vpn =
    option_or (mapping_at mappings vpn) (option_map bound_mapping (binding_at v stripe vpn))

-- a mapping leads to its page, where physical memory has it
abbrev pub look_through : List (List ℕ) → Option Mapping → Option Mapped
look_through frames None = None
look_through frames (Some m) =
    option_map (λ bytes. record { writable = m.writable; bytes = bytes }) (slice_get frames m.page)

-- where a VPN leads by a look-up, which gives the mapping that it has, if it has one
abbrev pub look : List (List ℕ) → (ℕ → Option Mapping) → ℕ → Option Mapped
look frames lookup vpn = look_through frames (lookup vpn)

-- a write changes the page that its mapping leads to
abbrev pub written_through : List (List ℕ) → Write → Option Mapping → List (List ℕ)
written_through frames w None = frames
written_through frames w (Some m) = after_put frames m.page (w.address % page_size) w.bytes

-- physical memory after what a step writes
abbrev pub frames_after : List (List ℕ) → (ℕ → Option Mapping) → Option Write → List (List ℕ)
frames_after frames lookup None = frames
frames_after frames lookup (Some w) = written_through frames w (lookup (w.address / page_size))

-- the step of a machine with these registers over such a look-up
abbrev pub guest_step : List (List ℕ) → (ℕ → Option Mapping) → Cpu → Step
guest_step frames lookup cpu = step_of cpu (view_of (answers_by (look frames lookup)) cpu)
