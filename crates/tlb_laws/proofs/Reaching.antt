-- An access that finds a row reaches the page to which its VPN leads; one that finds none is a miss.
use Rattle.std.proofs.Common.{◌≡◌, ◌<◌, ℕ, ◌/◌, ◌%◌, ◌^◌, Bool, true, false, List, length, Option, Some, None, Result, Ok, Err, refl, ◌∙◌, ap, arith}
use Rattle.std.specs.Prelude.{not, ◌&&◌, ◌==◌, nat_le, nat_lt, if◌then◌else◌}
use Rattle.std.specs.Option.{option_map}
use Rattle.std.proofs.lemmas.Bool.{lt-ltb}
use Rattle.std.proofs.lemmas.Option.{slice_get-get_or}
use Rattle.aegis_limits.specs.Limits.{page_size, vpn_end}
use Rattle.mips_exec.specs.declared.exception.Exc.{Exc}
use Rattle.mips_exec.specs.declared.exception.ExcCode.TheVariants as code
use Rattle.frame_store.specs.Pages.{page_at}
use Rattle.env_frames.specs.declared.mapping.Mapping.{Mapping}
use Rattle.guest_memory.specs.Look.{look, look_through}
use Rattle.world_model.specs.Page.{Mapped, reach, served}
use Rattle.r3k_tlb.specs.declared.row.Row.{Row}
use Rattle.r3k_tlb.specs.Row.{lo_word_of}
use Rattle.r3k_tlb.specs.Rows.{first_fitting}
use Rattle.r3k_cp0.specs.declared.registers.Cp0.{Cp0}
use Rattle.r3k_cp0.specs.Registers.{current_pid, is_user}
use Rattle.mips_exec.specs.declared.access_kind.AccessKind.{AccessKind}
use Rattle.mips_exec.specs.declared.access_kind.AccessKind.TheVariants as kind
use Rattle.mips_exec.specs.AccessKind.{address_error, is_store, miss, raised, user_end}
use Rattle.r3k_machine.specs.Translation.{Segment, if_there, page_by_mode, page_by_row, reached_page}
use Rattle.r3k_machine.specs.Translation as machine
use Rattle.tlb_model.specs.Cache.{row_for}
use Rattle.tlb_model.proofs.Fitting.{page_in as page_of_row, rows_say}
use Rattle.tlb_laws.specs.Laws.{RunsFor}

-- an access is served by a mapping that may be stored to or not
abbrev pub served_page : AccessKind → ℕ → Bool → ℕ → Result ℕ Exc
served_page k address writable page = if is_store k && not writable then raised code.Mod address else Ok page

abbrev pub served_bytes : AccessKind → ℕ → Bool → List ℕ → Result Mapped Exc
served_bytes k address writable bytes =
    if is_store k && not writable then raised code.Mod address else Ok (record { writable = writable; bytes = bytes })

valid_low : (page : ℕ) (w : Bool) → (lo_word_of page w / 2 ^ 9 % 2 == 1) ≡ true
valid_low page true = grind arith
valid_low page false = grind arith

dirty_low : (page : ℕ) (w : Bool) → (lo_word_of page w / 2 ^ 10 % 2 == 1) ≡ w
dirty_low page true = grind arith
dirty_low page false = grind arith

by_row : (k : AccessKind) (address e : ℕ) (m : Mapping) → page_by_row k address (Some (row_for e m)) ≡ served_page k address m.writable m.page
by_row k address e m = rw (valid_low m.page m.writable, dirty_low m.page m.writable, page_of_row m.page m.writable) refl

there_if : (pages : ℕ) (k : AccessKind) (address page : ℕ) → page < pages → if_there pages k address (Ok page) ≡ Ok page
there_if pages k address page less = rw (lt-ltb page pages less) refl

there_page : (pages : ℕ) (k : AccessKind) (address page : ℕ) (w : Bool) → page < pages → if_there pages k address (served_page k address w page) ≡ served_page k address w page
there_page pages kind.Fetch address page true less = there_if pages kind.Fetch address page less
there_page pages kind.Fetch address page false less = there_if pages kind.Fetch address page less
there_page pages kind.Load address page true less = there_if pages kind.Load address page less
there_page pages kind.Load address page false less = there_if pages kind.Load address page less
there_page pages kind.Store address page true less = there_if pages kind.Store address page less
there_page pages kind.Store address page false less = refl

by_mapping : (k : AccessKind) (address : ℕ) (w : Bool) (bytes : List ℕ) → served k address (Some (record { writable = w; bytes = bytes })) ≡ served_bytes k address w bytes
by_mapping kind.Fetch address w bytes = refl
by_mapping kind.Load address w bytes = refl
by_mapping kind.Store address w bytes = refl

looked : (frames : List (List ℕ)) (leads : ℕ → Option Mapping) (vpn : ℕ) (m : Mapping) → leads vpn ≡ Some m → m.page < length frames
    → look frames leads vpn ≡ Some (record { writable = m.writable; bytes = page_at frames m.page })
looked frames leads vpn m is there = rw is (ap (option_map (λ bytes. record { writable = m.writable; bytes = bytes })) (slice_get-get_or frames m.page _ there))

pub user_vpn_below : (address : ℕ) → nat_le user_end address ≡ false → address / page_size < vpn_end
user_vpn_below address below = grind arith

-- the page of an access by its row, and by the segment of its address
abbrev row_page_of : Cp0 → List Row → AccessKind → ℕ → Result ℕ Exc
row_page_of cp0 rows k address = page_by_row k address (first_fitting (address / page_size) (current_pid cp0) rows)

abbrev page_in_mode : Bool → AccessKind → ℕ → Result ℕ Exc → Segment → Result ℕ Exc
page_in_mode user k address by_row s =
    if user then machine.user_page k address by_row s else machine.kernel_page address by_row s

abbrev page_in : Cp0 → List Row → AccessKind → ℕ → Segment → Result ℕ Exc
page_in cp0 rows k address s = page_in_mode (is_user cp0) k address (row_page_of cp0 rows k address) s

users_segment : (address : ℕ) → nat_le user_end address ≡ false → machine.segment_of address ≡ machine.Users
users_segment address below =
    let less : nat_lt address user_end ≡ true = grind arith in
    ap (λ (b : Bool). if b then machine.Users else (if nat_lt address machine.direct_end then machine.Direct else machine.High)) less

abbrev segment_past : ℕ → Segment
segment_past address = if nat_lt address machine.direct_end then machine.Direct else machine.High

kernels_segment : (address : ℕ) → nat_le user_end address ≡ true → machine.segment_of address ≡ segment_past address
kernels_segment address beyond =
    let more : nat_lt address user_end ≡ false = grind arith in
    ap (λ (b : Bool). if b then machine.Users else segment_past address) more

refused_past : (k : AccessKind) (address : ℕ) (by_row : Result ℕ Exc) (b : Bool)
    → machine.user_page k address by_row (if b then machine.Direct else machine.High) ≡ raised (address_error k) address
refused_past k address by_row true = refl
refused_past k address by_row false = refl

module _ (leads : ℕ → ℕ → Option Mapping) (e : ℕ) (cp0 : Cp0) (rows : List Row) (frames : List (List ℕ)) (runs : RunsFor leads e cp0 rows frames) where
  user_page : (k : AccessKind) (address : ℕ) → nat_le user_end address ≡ false
      → page_by_mode cp0 rows k address ≡ page_by_row k address (first_fitting (address / page_size) e rows)
  user_page k address below =
      ap (λ (s : Segment). page_in cp0 rows k address s) (users_segment address below)
      ∙ ap (λ (b : Bool). if b then row_page_of cp0 rows k address else row_page_of cp0 rows k address) runs.user
      ∙ ap (λ pid. page_by_row k address (first_fitting (address / page_size) pid rows)) runs.pid

  -- a user's access that finds a row
  pub found : (k : AccessKind) (address : ℕ) (row : Row) → nat_le user_end address ≡ false → first_fitting (address / page_size) e rows ≡ Some row
      → (m : Mapping) × (leads e (address / page_size) ≡ Some m) × (reached_page cp0 rows (length frames) k address ≡ served_page k address m.writable m.page)
      × (reach (look frames (leads e)) k address ≡ served_bytes k address m.writable (page_at frames m.page))
  found k address row below fits =
      let f = rows_say leads (length frames) rows (address / page_size) e row runs.coherent (user_vpn_below address below) runs.numbered fits in
      let m = f.mapping in (
        m,
        f.mapped,
        ap (if_there (length frames) k address) (user_page k address below ∙ ap (page_by_row k address) (fits ∙ ap Some f.words) ∙ by_row k address e m)
            ∙ there_page (length frames) k address m.page m.writable f.there,
        ap (λ (b : Bool). if b then raised (address_error k) address
            else served k address (look frames (leads e) (address / page_size))) below
            ∙ ap (served k address) (looked frames (leads e) (address / page_size) m f.mapped f.there)
            ∙ by_mapping k address m.writable (page_at frames m.page),
      )

  -- one that finds none
  pub missed : (k : AccessKind) (address : ℕ) → nat_le user_end address ≡ false → first_fitting (address / page_size) e rows ≡ None
      → reached_page cp0 rows (length frames) k address ≡ raised (miss k) address
  missed k address below none =
      ap (if_there (length frames) k address) (user_page k address below ∙ ap (page_by_row k address) none)

  -- where the VPN leads nowhere it is one of the mappings', too
  pub missed_flat : (k : AccessKind) (address : ℕ) → nat_le user_end address ≡ false → leads e (address / page_size) ≡ None
      → reach (look frames (leads e)) k address ≡ raised (miss k) address
  missed_flat k address below none =
      ap (λ (b : Bool). if b then raised (address_error k) address
      else served k address (look frames (leads e) (address / page_size))) below
      ∙ ap (λ m. served k address (look_through frames m)) none

  -- an address that is no user's
  pub refused : (k : AccessKind) (address : ℕ) → nat_le user_end address ≡ true
      → reached_page cp0 rows (length frames) k address ≡ raised (address_error k) address
  refused k address beyond =
      ap (λ (s : Segment). if_there (length frames) k address (page_in cp0 rows k address s)) (kernels_segment address beyond)
      ∙ ap (λ (b : Bool). if_there (length frames) k address (page_in_mode b k address (row_page_of cp0 rows k address) (segment_past address))) runs.user
      ∙ ap (if_there (length frames) k address) (refused_past k address (row_page_of cp0 rows k address) (nat_lt address machine.direct_end))

  pub refused_flat : (k : AccessKind) (address : ℕ) → nat_le user_end address ≡ true
      → reach (look frames (leads e)) k address ≡ raised (address_error k) address
  refused_flat k address beyond =
      ap (λ (b : Bool). if b then raised (address_error k) address
      else served k address (look frames (leads e) (address / page_size))) beyond
