-- Upcalls: how an environment learns of its exceptions, of the start and the end of its slices, and of who enters it.
use Rattle.std.specs.Prelude.{ℕ, ◌==◌, if◌then◌else◌, List}
use Rattle.mips_exec.specs.declared.exception.Exc.{Exc}
use Rattle.mips_exec.specs.Cpu.{rested}
use Rattle.env_frames.specs.declared.transfer.TransferKind.{TransferKind}
use Rattle.env_frames.specs.Transfer.{Registers, entered_cpu, entry_area, entry_bytes, entry_context}
use Rattle.env_frames.specs.Context.{context_number, end_area, end_bytes, exception_area, exception_bytes, handler_of, raised_cpu, resumed_cpu, start_area, start_bytes}
use Rattle.world_model.specs.Solo.{Solo, Kept, kept_after}

-- the environment with bytes in an area of its context page
abbrev pub with_context : ℕ → List ℕ → Solo → Solo
with_context area bytes s = record s {
  kept = kept_after s.kept (record { key = Kept context_number; offset = area; bytes = bytes });
}

-- an exception goes to the environment's handler, which finds in the context page what it needs
abbrev pub raise : Exc → Solo → Solo
raise exc s = record (with_context exception_area (exception_bytes exc s.cpu) s) {
  cpu = raised_cpu s.handlers.exception exc s.cpu;
}

-- A slice starts where the environment stood, at rest; or at its handler of starts, which finds where it stood.
abbrev pub start_by : ℕ → Solo → Solo
start_by handler s =
    if handler == 0 then record s { cpu = rested s.cpu }
    else record (with_context start_area (start_bytes s.cpu) s) { cpu = resumed_cpu handler s.cpu }

abbrev pub start : Solo → Solo
start s = start_by s.handlers.start s

-- A slice ends at the environment's handler of ends, which finds where it stood, and whether in a delay slot.
abbrev pub end_slice : Solo → Solo
end_slice s = record (with_context end_area (end_bytes s.cpu) s) { cpu = resumed_cpu s.handlers.end s.cpu }

-- A transfer enters the environment: in its entry area it finds with which registers and where it stood, and who
-- calls it how; it goes on with its caller's registers; it stands at its entry for this kind; and it accepts nobody.
abbrev pub enter : ℕ → TransferKind → Registers → Solo → Solo
enter from kind registers s = record (with_context entry_area (entry_bytes from kind s.cpu) s) {
  cpu = entered_cpu (handler_of s.handlers (entry_context kind)) registers;
  mask = 0;
}
