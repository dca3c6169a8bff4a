-- A step in user mode asks memory at the pages of valid rows alone.
use Rattle.std.proofs.Common.{◌≡◌, ◌<◌, ◌/◌, ◌%◌, ℕ, List, length, drop, Bool, true, false, Option, Some, None, Result, Ok, Err, refl, sym, ◌∙◌, ap, arith}
use Rattle.std.specs.Prelude.{not, ◌&&◌, nat_lt, if◌then◌else◌}
use Rattle.std.proofs.lemmas.Bool.{ltb-true}
use Rattle.aegis_limits.specs.Limits.{page_size, vpn_end}
use Rattle.byteorder.specs.Endian.{little_number}
use Rattle.frame_store.specs.Pages.{page_at}
use Rattle.mips_exec.specs.AccessKind.{bus_error, is_store, miss, raised, user_end}
use Rattle.mips_exec.specs.declared.access_kind.AccessKind.{AccessKind}
use Rattle.mips_exec.specs.declared.access_kind.AccessKind.TheVariants as kind
use Rattle.mips_exec.specs.declared.exception.Exc.{Exc}
use Rattle.mips_exec.specs.declared.exception.ExcCode.TheVariants as code
use Rattle.mips_exec.specs.Step.{Answers, Step, step_of, view_of}
use Rattle.r3k_tlb.specs.declared.row.Row.{Row}
use Rattle.r3k_tlb.specs.Row.{is_dirty, is_valid, row_page}
use Rattle.r3k_tlb.specs.Rows.{first_fitting}
use Rattle.r3k_cp0.specs.Registers.{current_pid, is_user}
use Rattle.r3k_machine.specs.declared.machine.Machine.{Machine}
use Rattle.r3k_machine.specs.Machine.{user_step}
use Rattle.r3k_machine.specs.Memory.{number_in, row_answers, without_page}
use Rattle.r3k_machine.specs.System.{MachineStep, table_step}
use Rattle.r3k_machine.specs.Translation.{Users, Direct, High, direct_end, if_there, kernel_page, page_by_mode, page_by_row, reached_page, segment_of, user_page}
use Rattle.machine_laws.specs.Seen.{AreAlike, IsVisible, UsersSeeByRows}
use Rattle.machine_laws.proofs.Confining.{users_step}

-- a row gives an access its page only where V is set
record IsReached (o : Option Row) (page : ℕ) : Type 0 where
  row : Row
  its : o ≡ Some row
  valid : is_valid row ≡ true
  leads : row_page row ≡ page

abbrev IsPage : Result ℕ Exc → ℕ → Type 0
IsPage r page = r ≡ Ok page

by_bits : (k : AccessKind) (address page : ℕ) (row : Row) (v refuses : Bool) → is_valid row ≡ v
    → IsPage (if not v then raised (miss k) address else (if refuses then raised code.Mod address else Ok (row_page row))) page → IsReached (Some row) page
by_bits k address page row true false valid is = record { row = row; its = refl; valid = valid; leads = let same : row_page row ≡ page = cc in same }
by_bits k address page row true true valid is = cc
by_bits k address page row false refuses valid is = cc

by_row : (k : AccessKind) (address page : ℕ) (o : Option Row) → IsPage (page_by_row k address o) page → IsReached o page
by_row k address page None is = cc
by_row k address page (Some row) is = by_bits k address page row (is_valid row) (is_store k && not (is_dirty row)) refl is

record IsUsers (m : Machine) (k : AccessKind) (address page : ℕ) : Type 0 where
  users : address < user_end
  found : IsPage (page_by_row k address (first_fitting (address / page_size) (current_pid m.cp0) m.tlb)) page

by_segment : (m : Machine) (k : AccessKind) (address page : ℕ) (low middle : Bool) → nat_lt address user_end ≡ low
    → IsPage (user_page k address (page_by_row k address (first_fitting (address / page_size) (current_pid m.cp0) m.tlb)) (if low then Users else (if middle then Direct else High))) page
    → IsUsers m k address page
by_segment m k address page true middle less is = record { users = ltb-true address user_end less; found = is }
by_segment m k address page false true less is = cc
by_segment m k address page false false less is = cc

by_mode : (m : Machine) (k : AccessKind) (address page : ℕ) (user : Bool) → user ≡ true
    → (let found = page_by_row k address (first_fitting (address / page_size) (current_pid m.cp0) m.tlb) in
    IsPage (if user then user_page k address found (segment_of address) else kernel_page address found (segment_of address)) page)
    → IsUsers m k address page
by_mode m k address page true user is = by_segment m k address page (nat_lt address user_end) (nat_lt address direct_end) refl is
by_mode m k address page false user is = cc

there_by : (k : AccessKind) (address page p : ℕ) (b : Bool) → IsPage (if b then Ok p else raised (bus_error k) address) page → IsPage (Ok p) page
there_by k address page p true is = is
there_by k address page p false is = cc

there : (pages : ℕ) (k : AccessKind) (address page : ℕ) (r : Result ℕ Exc) → IsPage (if_there pages k address r) page → IsPage r page
there pages k address page (Err exc) is = cc
there pages k address page (Ok p) is = there_by k address page p (nat_lt p pages) is

visible : (m : Machine) (pages : ℕ) (k : AccessKind) (address page : ℕ) → is_user m.cp0 ≡ true → IsPage (reached_page m.cp0 m.tlb pages k address) page → IsVisible m page
visible m pages k address page user is =
    let at = by_mode m k address page (is_user m.cp0) user (there pages k address page (page_by_mode m.cp0 m.tlb k address) is) in
    let its = by_row k address page (first_fitting (address / page_size) (current_pid m.cp0) m.tlb) at.found in
    let less : address / page_size < vpn_end = let users = at.users in omega (arith, users) in
    record { vpn = address / page_size; users = less; row = its.row; found = its.its; valid = its.valid; leads = its.leads }

module _ (m : Machine) (frames others : List (List ℕ)) (user : is_user m.cp0 ≡ true) (alike : AreAlike m frames others) where
  number_same : (address width : ℕ) (r : Result ℕ Exc) → ((page : ℕ) → IsPage r page → page_at others page ≡ page_at frames page) → number_in others address width r ≡ number_in frames address width r
  number_same address width (Err exc) same = refl
  number_same address width (Ok page) same = ap (λ (bytes : List ℕ). Ok (little_number width (drop (address % page_size) bytes))) (same page refl)

  read_same : (k : AccessKind) (address width : ℕ)
      → number_in others address width (reached_page m.cp0 m.tlb (length others) k address) ≡ number_in frames address width (reached_page m.cp0 m.tlb (length frames) k address)
  read_same k address width =
      ap (λ (n : ℕ). number_in others address width (reached_page m.cp0 m.tlb n k address)) alike.size
      ∙ number_same address width (reached_page m.cp0 m.tlb (length frames) k address) (λ page is. alike.pages page (visible m (length frames) k address page user is))

  answers_same : row_answers m.cp0 m.tlb others ≡ row_answers m.cp0 m.tlb frames
  unfolding row_answers
  answers_same j = record {
    fetch = λ address. read_same kind.Fetch address 4 j;
    load = λ address width. read_same kind.Load address width j;
    store = λ address width. without_page (reached_page m.cp0 m.tlb (alike.size j) kind.Store address);
  }

  step_same : user_step m others ≡ user_step m frames
  step_same = ap (λ (a : Answers). step_of m.cpu (view_of a m.cpu)) answers_same

pub sees_by_rows : UsersSeeByRows
sees_by_rows m frames others user alike =
    let same = step_same m frames others user alike in
    let left = users_step m others user in
    let right = users_step m frames user in
    record {
      machine = ap (λ (s : MachineStep). s.machine) left ∙ ap (λ (t : Step). (table_step m frames t).machine) same ∙ sym (ap (λ (s : MachineStep). s.machine) right);
      outcome = ap (λ (s : MachineStep). s.outcome) left ∙ ap (λ (t : Step). (table_step m frames t).outcome) same ∙ sym (ap (λ (s : MachineStep). s.outcome) right);
    }
