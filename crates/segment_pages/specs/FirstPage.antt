-- The first page that segments touch.
use Rattle.std.specs.Prelude.{ℕ, ◌≡◌, ◌≤◌, ◌<◌, true, false, List, Option, None, Some, min}
use Rattle.std.specs.List.{list_any}
use Rattle.elf_static.specs.ElfValue.{SegmentValue}
use Rattle.segment_pages.specs.Pages.{touches}

-- the lesser of two numbers, or the only one
abbrev pub lesser : Option ℕ → Option ℕ → Option ℕ
lesser None other = other
lesser (Some one) None = Some one
lesser (Some one) (Some other) = Some (min one other)

-- a page is the first from a number on in which one of the segments has a byte
pub record TouchesFirst (first : ℕ) (segments : List SegmentValue) (vpn : ℕ) : Type 0 where
  pub from : first ≤ vpn
  pub above : 2 ≤ vpn
  pub below : vpn < 0x7FF00
  pub touched : list_any (touches vpn) segments ≡ true
  pub before : (k : ℕ) → first ≤ k → k < vpn → list_any (touches k) segments ≡ false

-- this page is the first, or there is none
abbrev pub IsFirstPage : ℕ → List SegmentValue → Option ℕ → Type 0
IsFirstPage first segments None = (k : ℕ) → first ≤ k → list_any (touches k) segments ≡ false
IsFirstPage first segments (Some vpn) = TouchesFirst first segments vpn
