-- A step in user mode is one of the instruction table, and it stores through a valid and dirty row.
use Rattle.std.proofs.Common.{◌≡◌, ◌<◌, ◌/◌, ◌%◌, ℕ, List, [], length, Bool, true, false, Option, Some, None, Result, Ok, Err, inl, inr, refl, sym, ap, subst, arith, length-set, get_or-set_other}
use Rattle.std.specs.Prelude.{not, ◌&&◌, nat_lt, if◌then◌else◌}
use Rattle.std.proofs.lemmas.Bool.{cases_eq, ltb-true}
use Rattle.aegis_limits.specs.Limits.{page_size, vpn_end}
use Rattle.frame_store.specs.Pages.{page_at, with_bytes}
use Rattle.mips_exec.specs.Access.{Write}
use Rattle.mips_exec.specs.AccessKind.{is_store, miss, raised, user_end}
use Rattle.mips_exec.specs.declared.access_kind.AccessKind.TheVariants.{Store}
use Rattle.mips_exec.specs.declared.exception.Exc.{Exc}
use Rattle.mips_exec.specs.declared.exception.ExcCode.TheVariants as code
use Rattle.mips_exec.specs.Step.{fetched, write_after}
use Rattle.r3k_tlb.specs.declared.row.Row.{Row}
use Rattle.r3k_tlb.specs.Row.{is_dirty, is_valid, row_page}
use Rattle.r3k_tlb.specs.Rows.{first_fitting}
use Rattle.r3k_cp0.specs.Registers.{current_pid, is_user}
use Rattle.r3k_machine.specs.declared.machine.Machine.{Machine}
use Rattle.r3k_machine.specs.Machine.{user_step}
use Rattle.r3k_machine.specs.Memory.{frames_written, row_answers, stored_in}
use Rattle.r3k_machine.specs.System.{machine_step, step_by, system_word_in, table_step}
use Rattle.r3k_machine.specs.Translation.{Users, Direct, High, direct_end, if_there, kernel_page, page_by_mode, page_by_row, reached_page, segment_of, user_page}
use Rattle.machine_laws.specs.Confined.{AreKeptButOpen, IsConfined, IsOpen, UsersAreConfined}

pub users_step : (m : Machine) (frames : List (List ℕ)) → is_user m.cp0 ≡ true → machine_step m frames ≡ table_step m frames (user_step m frames)
users_step m frames user = ap (λ (b : Bool). step_by m frames (if b then None else system_word_in (fetched (row_answers m.cp0 m.tlb frames) m.cpu.pc))) user

-- a row gives a store its page only where both bits are set
record IsWritable (o : Option Row) (page : ℕ) : Type 0 where
  row : Row
  its : o ≡ Some row
  valid : is_valid row ≡ true
  dirty : is_dirty row ≡ true
  leads : row_page row ≡ page

by_bits : (address page : ℕ) (row : Row) (v d : Bool) → is_valid row ≡ v → is_dirty row ≡ d
    → (if not v then raised (miss Store) address else (if is_store Store && not d then raised code.Mod address else Ok (row_page row))) ≡ Ok page → IsWritable (Some row) page
by_bits address page row true true valid dirty is = record { row = row; its = refl; valid = valid; dirty = dirty; leads = let same : row_page row ≡ page = cc in same }
by_bits address page row true false valid dirty is = cc
by_bits address page row false d valid dirty is = cc

by_row : (address page : ℕ) (o : Option Row) → page_by_row Store address o ≡ Ok page → IsWritable o page
by_row address page None is = cc
by_row address page (Some row) is = by_bits address page row (is_valid row) (is_dirty row) refl refl is

-- the address is a user's
record IsUsers (m : Machine) (address page : ℕ) : Type 0 where
  users : address < user_end
  found : page_by_row Store address (first_fitting (address / page_size) (current_pid m.cp0) m.tlb) ≡ Ok page

by_segment : (m : Machine) (address page : ℕ) (low middle : Bool) → nat_lt address user_end ≡ low
    → user_page Store address (page_by_row Store address (first_fitting (address / page_size) (current_pid m.cp0) m.tlb)) (if low then Users else (if middle then Direct else High)) ≡ Ok page
    → IsUsers m address page
by_segment m address page true middle less is = record { users = ltb-true address user_end less; found = is }
by_segment m address page false true less is = cc
by_segment m address page false false less is = cc

by_mode : (m : Machine) (address page : ℕ) (user : Bool) → user ≡ true
    → (let found = page_by_row Store address (first_fitting (address / page_size) (current_pid m.cp0) m.tlb) in
    if user then user_page Store address found (segment_of address) else kernel_page address found (segment_of address)) ≡ Ok page
    → IsUsers m address page
by_mode m address page true user is = by_segment m address page (nat_lt address user_end) (nat_lt address direct_end) refl is
by_mode m address page false user is = cc

abbrev IsPage : Result ℕ Exc → ℕ → Type 0
IsPage r page = r ≡ Ok page

there_by : (address page p : ℕ) (b : Bool) → IsPage (if b then Ok p else raised code.Dbe address) page → IsPage (Ok p) page
there_by address page p true is = is
there_by address page p false is = cc

there : (pages address page : ℕ) (r : Result ℕ Exc) → IsPage (if_there pages Store address r) page → IsPage r page
there pages address page (Err exc) is = cc
there pages address page (Ok p) is = there_by address page p (nat_lt p pages) is

opened : (m : Machine) (pages address page : ℕ) → is_user m.cp0 ≡ true → reached_page m.cp0 m.tlb pages Store address ≡ Ok page → IsOpen m page
opened m pages address page user is =
    let at = by_mode m address page (is_user m.cp0) user (there pages address page (page_by_mode m.cp0 m.tlb Store address) is) in
    let its = by_row address page (first_fitting (address / page_size) (current_pid m.cp0) m.tlb) at.found in
    let less : address / page_size < vpn_end = let users = at.users in omega (arith, users) in
    record { vpn = address / page_size; users = less; row = its.row; found = its.its; valid = its.valid; dirty = its.dirty; leads = its.leads }

stored : (m : Machine) (frames : List (List ℕ)) (w : Write) (r : Result ℕ Exc) → ((page : ℕ) → r ≡ Ok page → IsOpen m page) → AreKeptButOpen m frames (stored_in frames w r)
stored m frames w (Err exc) opens page differs = absurd (differs refl)
stored m frames w (Ok p) opens page differs = elim (cases_eq page p) [
  | inl same ↦ subst (IsOpen m) (sym same) (opens p refl)
  | inr other ↦ absurd (differs (get_or-set_other frames p page (with_bytes (page_at frames p) (w.address % page_size) w.bytes) [] other))
]

pub written : (m : Machine) (frames : List (List ℕ)) → is_user m.cp0 ≡ true → (o : Option Write) → AreKeptButOpen m frames (frames_written m.cp0 m.tlb frames o)
unfolding frames_written
written m frames user None page differs = absurd (differs refl)
written m frames user (Some w) page differs =
    stored m frames w (reached_page m.cp0 m.tlb (length frames) Store w.address) (λ p is. opened m (length frames) w.address p user is) page differs

stored_size : (frames : List (List ℕ)) (w : Write) (r : Result ℕ Exc) → length (stored_in frames w r) ≡ length frames
stored_size frames w (Err exc) = refl
stored_size frames w (Ok p) = length-set frames p (with_bytes (page_at frames p) (w.address % page_size) w.bytes)

written_size : (m : Machine) (frames : List (List ℕ)) (o : Option Write) → length (frames_written m.cp0 m.tlb frames o) ≡ length frames
unfolding frames_written
written_size m frames None = refl
written_size m frames (Some w) = stored_size frames w (reached_page m.cp0 m.tlb (length frames) Store w.address)

pub confined : UsersAreConfined
confined m frames user =
    let write = write_after (user_step m frames) in
    subst (IsConfined m frames) (sym (users_step m frames user))
    (record { rows = refl; system = refl; pages = written m frames user write; size = written_size m frames write })
