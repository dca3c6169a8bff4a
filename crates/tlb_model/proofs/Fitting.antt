-- What a row that fits says.
use Rattle.std.proofs.Common.{◌≡◌, ◌<◌, ℕ, ◌/◌, ◌%◌, ◌^◌, Bool, true, false, List, [], ◌∷◌, All, find, Option, Some, refl, sym, ◌∙◌, ap, subst, rules, arith, if◌then◌else◌}
use Rattle.std.proofs.lemmas.List.Elements.{All-head, All-tail}
use Rattle.aegis_limits.specs.Limits.{vpn_end}
use Rattle.env_frames.specs.declared.mapping.Mapping.{Mapping}
use Rattle.r3k_tlb.specs.declared.row.Row.{Row}
use Rattle.r3k_tlb.specs.Row.{emptied_row, fits, hi_word_of, lo_word_of}
use Rattle.tlb_model.specs.Cache.{row_for}
use Rattle.tlb_model.specs.Coherence.{Emptied, Held, IsCoherent}
use Rattle.tlb_model.specs.Laws.{FittingRow, RowsHaveTheirWords, RowsSayWhatLeads}

vpn_in : (vpn e : ℕ) → e < 32 → hi_word_of vpn e / 2 ^ 12 ≡ vpn
vpn_in vpn e small = grind arith

pid_in : (vpn e : ℕ) → e < 32 → hi_word_of vpn e / 2 ^ 6 % 2 ^ 6 ≡ e
pid_in vpn e small = grind arith

local_low : (page : ℕ) (w : Bool) → lo_word_of page w / 2 ^ 8 % 2 ≡ 0
local_low page true = grind arith
local_low page false = grind arith

pub page_in : (page : ℕ) (w : Bool) → lo_word_of page w / 2 ^ 12 ≡ page
page_in page true = grind arith
page_in page false = grind arith

-- a row for a mapping fits its VPN and environment alone
fits_own : (vpn e f : ℕ) (m : Mapping) → f < 32 → fits vpn e (row_for f m) ≡ true → (m.vpn ≡ vpn) × (f ≡ e)
fits_own vpn e f m small h = search (rules, vpn_in, pid_in, local_low)

-- an emptied row fits no user's VPN
fits_none : (vpn e : ℕ) → vpn < vpn_end → fits vpn e emptied_row ≡ true → ⊥
fits_none vpn e below h = grind arith

found_first : (x row : Row) → Some x ≡ Some row → x ≡ row
found_first x row h = search rules

found_fits_by : (p : Row → Bool) (x : Row) (rows : List Row) (row : Row) (b : Bool) → p x ≡ b → (if b then Some x else find p rows) ≡ Some row
    → (find p rows ≡ Some row → p row ≡ true) → p row ≡ true
found_fits_by p x rows row true is h rest = search rules
found_fits_by p x rows row false is h rest = rest h

found_fits : (p : Row → Bool) (rows : List Row) (row : Row) → find p rows ≡ Some row → p row ≡ true
found_fits p [] row h = search rules
found_fits p (x ∷ rows) row h = found_fits_by p x rows row (p x) refl h (found_fits p rows row)

found_all_by : (P : Row → Type 0) (p : Row → Bool) (x : Row) (rows : List Row) (row : Row) (b : Bool) → P x → (if b then Some x else find p rows) ≡ Some row
    → (find p rows ≡ Some row → P row) → P row
found_all_by P p x rows row true its h rest = subst P (found_first x row h) its
found_all_by P p x rows row false its h rest = rest h

found_all : (P : Row → Type 0) (p : Row → Bool) (rows : List Row) (row : Row) → All P rows → find p rows ≡ Some row → P row
found_all P p [] row all h = search rules
found_all P p (x ∷ rows) row all h =
    found_all_by P p x rows row (p x) (All-head P x rows all) h (λ rest. found_all P p rows row (All-tail P x rows all) rest)

said : (leads : ℕ → ℕ → Option Mapping) (pages vpn e : ℕ) (row : Row) → vpn < vpn_end → fits vpn e row ≡ true → IsCoherent leads pages row
    → FittingRow leads pages e vpn row
said leads pages vpn e row below h (Emptied is) = absurd (fits_none vpn e below (ap (fits vpn e) (sym is) ∙ h))
said leads pages vpn e row below h (Held x) =
    let both = fits_own vpn e x.env x.mapping x.numbered (ap (fits vpn e) (sym x.words) ∙ h) in record {
      mapping = x.mapping;
      mapped = ap (λ f. leads f vpn) (sym both.1) ∙ ap (leads x.env) (sym both.0) ∙ x.mapped;
      number = both.0;
      there = x.there;
      words = x.words ∙ ap (λ f. row_for f x.mapping) both.1;
    }

pub rows_say : RowsSayWhatLeads
rows_say leads pages rows vpn e row all below small h =
    said leads pages vpn e row below (found_fits (fits vpn e) rows row h) (found_all (IsCoherent leads pages) (fits vpn e) rows row all h)

pub row_words : RowsHaveTheirWords
row_words e m small = record { vpn = vpn_in m.vpn e small; env = pid_in m.vpn e small; page = page_in m.page m.writable }
