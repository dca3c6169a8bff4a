-- The text of a report.
use Rattle.std.specs.Prelude.{ℕ, ◌^◌, List, [], ◌∷◌, ◌++◌, length, count_by, codes, Bool, true, false, ◌==◌, if◌then◌else◌, Option, Some}
use Rattle.std.specs.List.{filter, flat_map}
use Rattle.std.specs.Option.{option_map_or, option_to_list}
use Rattle.line_text.specs.Text.{dec_text, hex_text}
use Rattle.line_text.specs.WrittenLine.{bytes_text, line, or_dash, quotation, spaced}
use Rattle.machine_text.specs.Fingerprint.{fingerprint}
use Rattle.machine_text.specs.Registers.{cpu_words, register_words}
use Rattle.machine_text.specs.Series.{for_each}
use Rattle.boot_image.specs.ImageValue.{name_text}
use Rattle.bind_book.specs.declared.binding.Binding.{Binding}
use Rattle.aegis_limits.specs.Limits.{most_stripe_rows}
use Rattle.kernel_journal.specs.declared.row.Row.{Row}
use Rattle.kernel_journal.specs.declared.row.RunEnd.{RunEnd}
use Rattle.kernel_journal.specs.declared.row.RunEnd.TheVariants as end
use Rattle.kernel_journal.specs.RowTable.{name_of, numbers_of}
use Rattle.mips_exec.specs.declared.registers.Cpu.{Cpu}
use Rattle.mips_exec.specs.declared.exception.ExcCode.{ExcCode}
use Rattle.mips_exec.specs.declared.exception.ExcCode.TheVariants as exc
use Rattle.mips_exec.specs.Cpu.{rested}
use Rattle.world_model.specs.declared.life.Life.{Life}
use Rattle.world_model.specs.declared.life.Life.TheVariants.{Live, Dead}
use Rattle.world_model.specs.declared.life.Cause.TheVariants as cause
use Rattle.world_model.specs.Page.{KeptPage}
use Rattle.world_model.specs.Solo.{Solo, Seen}
use Rattle.world_model.specs.View.{owned_bytes}
use Rattle.world_model.specs.Book.{is_runner}
use Rattle.world_model.specs.World.{World}
use Rattle.run_model.specs.Excess.{is_over_of, is_pay_of, is_run_of}

-- a line of a name and numbers
unfoldable pub numbers_line : List ℕ → List (Option ℕ) → List ℕ
numbers_line name numbers = name ++ flat_map (λ n. spaced (or_dash n)) numbers ++ 10 ∷ []

-- an exception's name
abbrev pub exception_text : ExcCode → List ℕ
exception_text exc.Int = codes "int"
exception_text exc.Mod = codes "mod"
exception_text exc.Tlbl = codes "tlbl"
exception_text exc.Tlbs = codes "tlbs"
exception_text exc.Adel = codes "adel"
exception_text exc.Ades = codes "ades"
exception_text exc.Ibe = codes "ibe"
exception_text exc.Dbe = codes "dbe"
exception_text exc.Sys = codes "sys"
exception_text exc.Bp = codes "bp"
exception_text exc.Ri = codes "ri"
exception_text exc.Cpu = codes "cpu"
exception_text exc.Ov = codes "ov"

-- how an environment lives, or why it died
abbrev pub life_words : Life → List (List ℕ)
life_words Live = codes "live" ∷ []
life_words (Dead (cause.Exit code)) = codes "exit" ∷ dec_text code ∷ []
life_words (Dead (cause.Trapped code)) = codes "dead" ∷ exception_text code ∷ []
life_words (Dead cause.Excess) = codes "dead" ∷ codes "excess" ∷ []

unfoldable pub env_line : ℕ → Solo → List ℕ
env_line e s = line (codes "env" ∷ dec_text e ∷ name_text s.name ∷ life_words s.life)

-- the console: its length, and its bytes
unfoldable pub out_line : ℕ → Solo → List ℕ
out_line e s = line (codes "out" ∷ dec_text e ∷ dec_text (length s.console) ∷ quotation s.console ∷ [])

unfoldable pub cpu_line : ℕ → Cpu → List ℕ
cpu_line e cpu = line (codes "cpu" ∷ dec_text e ∷ cpu_words cpu)

-- registers 1 to 31
unfoldable pub regs_line : ℕ → Cpu → List ℕ
regs_line e cpu = line (codes "regs" ∷ dec_text e ∷ register_words cpu)

abbrev pub excess_line : ℕ → ℕ → List ℕ
excess_line e excess = numbers_line (codes "excess") (Some e ∷ Some excess ∷ [])

unfoldable pub keep_line : ℕ → KeptPage → List ℕ
keep_line e p = line (codes "keep" ∷ dec_text e ∷ hex_text 5 p.vpn ∷ fingerprint p.bytes ∷ [])

abbrev pub keep_lines : ℕ → List KeptPage → List ℕ
keep_lines e kept = flat_map (keep_line e) kept

-- a page of these bytes that an environment owns
unfoldable pub page_line : ℕ → ℕ → List ℕ → List ℕ
page_line e page bytes = line (codes "page" ∷ dec_text e ∷ dec_text page ∷ fingerprint bytes ∷ [])

-- the pages below count that an environment owns, by rising number
abbrev pub page_lines : ℕ → (ℕ → Option Seen) → ℕ → List ℕ
page_lines e seen count = for_each (λ page. option_map_or (page_line e page) (owned_bytes (seen page)) []) count

-- all pages that an environment owns
abbrev pub owned_lines : World → ℕ → List ℕ
owned_lines w e = page_lines e (w.solos e).seen w.book.page_count

abbrev pub mode_text : Bool → List ℕ
mode_text true = codes "w"
mode_text false = codes "r"

unfoldable pub bind_line : ℕ → Binding → List ℕ
bind_line e b = line (codes "bind" ∷ dec_text e ∷ hex_text 5 b.vpn ∷ dec_text b.page ∷ mode_text b.writable ∷ [])

-- the bindings in a stripe, by rising row
abbrev pub bindings_of : (ℕ → Option Binding) → List Binding
bindings_of stripe = for_each (λ row. option_to_list (stripe row)) most_stripe_rows

-- the same by rising VPN: those of each VPN in turn, which is a word at most
unfoldable pub rising_bindings : (ℕ → Option Binding) → List Binding
rising_bindings stripe = for_each (λ vpn. filter (λ b. b.vpn == vpn) (bindings_of stripe)) (2 ^ 32)

abbrev pub bind_lines : ℕ → (ℕ → Option Binding) → List ℕ
bind_lines e stripe = flat_map (bind_line e) (rising_bindings stripe)

-- the registers that are shown: those of an environment that doesn't run at rest
unfoldable pub shown_cpu : World → ℕ → Cpu
shown_cpu w e = if is_runner e w.book.runner then (w.solos e).cpu else rested (w.solos e).cpu

-- what is shown of an environment while it lives
unfoldable pub living_lines : World → ℕ → List ℕ
living_lines w e =
    cpu_line e (shown_cpu w e) ++ regs_line e (shown_cpu w e) ++ excess_line e (w.book.excess e)
    ++ keep_lines e (w.solos e).kept
    ++ owned_lines w e ++ bind_lines e (w.solos e).binds

abbrev pub if_live : Life → List ℕ → List ℕ
if_live Live text = text
if_live (Dead cause) text = []

-- a packet that an environment sent: its length, and its bytes
unfoldable pub sent_line : ℕ → List ℕ → List ℕ
sent_line e packet = line (codes "sent" ∷ dec_text e ∷ dec_text (length packet) ∷ bytes_text packet ∷ [])

abbrev pub sent_lines : ℕ → List (List ℕ) → List ℕ
sent_lines e sent = flat_map (sent_line e) sent

-- what is shown of an environment
unfoldable pub env_text : World → ℕ → List ℕ
env_text w e =
    env_line e (w.solos e) ++ out_line e (w.solos e) ++ if_live (w.solos e).life (living_lines w e)
    ++ sent_lines e (w.solos e).sent

-- a row of the ledger: its name, and its numbers in their order
abbrev pub row_line : Row → List ℕ
row_line r = numbers_line (name_of r) (numbers_of r)

abbrev pub sum_line : List Row → ℕ → List ℕ
sum_line rows e = numbers_line (codes "sum")
    (Some e ∷ Some (count_by (is_run_of e) rows) ∷ Some (count_by (is_pay_of e) rows) ∷ Some
    (count_by (is_over_of e) rows) ∷ [])

abbrev pub end_text : RunEnd → List ℕ
end_text end.Limit = codes "limit"
end_text end.Idle = codes "idle"

unfoldable pub end_line : World → RunEnd → List ℕ
end_line w how = line (codes "end" ∷ end_text how ∷ dec_text w.book.time ∷ [])

unfoldable pub report_text : World → RunEnd → List ℕ
report_text w how =
    line (codes "aegis" ∷ codes "run" ∷ []) ++ end_line w how ++ for_each (env_text w) w.count
    ++ flat_map row_line w.rows ++ for_each (sum_line w.rows) w.count ++ line (codes "done" ∷ [])

-- a run in short: how it ended, the sums, and the fingerprint of its report
unfoldable pub report_line : World → RunEnd → List ℕ
report_line w how = line (codes "report" ∷ fingerprint (report_text w how) ∷ [])

unfoldable pub summary_text : World → RunEnd → List ℕ
summary_text w how =
    end_line w how ++ for_each (sum_line w.rows) w.count ++ report_line w how ++ line (codes "done" ∷ [])
