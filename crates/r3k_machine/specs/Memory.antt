-- Physical memory as the machine's accesses see it.
use Rattle.std.specs.Prelude.{ℕ, ◌%◌, List, length, drop, Option, Some, None, Result, Ok, Err}
use Rattle.mips_exec.specs.declared.registers.Cpu.{Cpu}
use Rattle.mips_exec.specs.declared.exception.Exc.{Exc}
use Rattle.mips_exec.specs.Access.{Write}
use Rattle.mips_exec.specs.Step.{Answers, Step, step_of, view_of}
use Rattle.aegis_limits.specs.Limits.{page_size}
use Rattle.byteorder.specs.Endian.{little_number}
use Rattle.frame_store.specs.Pages.{after_put, page_at}
use Rattle.r3k_tlb.specs.declared.row.Row.{Row}
use Rattle.mips_exec.specs.declared.access_kind.AccessKind.TheVariants.{Fetch, Load, Store}
use Rattle.r3k_cp0.specs.declared.registers.Cp0.{Cp0}
use Rattle.r3k_machine.specs.Translation.{reached_page}

-- the number in so many bytes of a page, the lowest first; an exception is handed on
abbrev pub number_in : List (List ℕ) → ℕ → ℕ → Result ℕ Exc → Result ℕ Exc
number_in frames address width (Ok page) = Ok (little_number width (drop (address % page_size) (page_at frames page)))
number_in frames address width (Err exc) = Err exc

abbrev pub without_page : Result ℕ Exc → Result (Unit {0}) Exc
without_page (Ok page) = Ok tt
without_page (Err exc) = Err exc

-- what memory answers
unfoldable pub row_answers : Cp0 → List Row → List (List ℕ) → Answers
row_answers cp0 rows frames = record {
  fetch = λ address. number_in frames address 4 (reached_page cp0 rows (length frames) Fetch address);
  load = λ address width. number_in frames address width (reached_page cp0 rows (length frames) Load address);
  store = λ address width. without_page (reached_page cp0 rows (length frames) Store address);
}

-- memory after bytes were stored where an access reaches this page
abbrev pub stored_in : List (List ℕ) → Write → Result ℕ Exc → List (List ℕ)
stored_in frames w (Ok page) = after_put frames page (w.address % page_size) w.bytes
stored_in frames w (Err exc) = frames

-- memory after what a step writes
unfoldable pub frames_written : Cp0 → List Row → List (List ℕ) → Option Write → List (List ℕ)
frames_written cp0 rows frames None = frames
frames_written cp0 rows frames (Some w) = stored_in frames w (reached_page cp0 rows (length frames) Store w.address)

-- the step of an instruction that is none of coprocessor 0
abbrev pub row_step : Cp0 → List Row → List (List ℕ) → Cpu → Step
row_step cp0 rows frames cpu = step_of cpu (view_of (row_answers cp0 rows frames) cpu)
