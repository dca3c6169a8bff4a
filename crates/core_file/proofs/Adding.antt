-- The pages of runs, counted.
use Rattle.std.proofs.Common.{◌≡◌, ◌<◌, ◌≤◌, ℕ, zero, suc, ◌+◌, List, [], ◌∷◌, ◌++◌, length, Option, Some, None, Bool, true, false, refl, sym, ◌∙◌, ap, subst, arith}
use Rattle.std.proofs.lemmas.List.{length-append, length-map}
use Rattle.std.proofs.lemmas.List.Sums.{sum_by-cons}
use Rattle.std.specs.Prelude.{◌==◌, if◌then◌else◌}
use Rattle.std.proofs.lemmas.Bool.{and_parts, eqb-true}
use Rattle.aegis_limits.specs.Limits.{vpn_end}
use Rattle.world_model.specs.Page.{Mapped}
use Rattle.core_file.specs.declared.pages.SeenPage.{SeenPage}
use Rattle.core_file.specs.declared.runs.Run.{Run}
use Rattle.core_file.specs.Pages.{PageValue, pages_at, pages_below, pages_seen}
use Rattle.core_file.specs.Runs.{are_alike, goes_on, longer, run_of, runs_from, runs_of}
use Rattle.core_file.specs.Seen.{AreUserPages, FitsWords, page_seen, pages_in, pages_shown}

-- each page lies below the end of users' addresses
abbrev pub AreBelow : List PageValue → Type 0
AreBelow [] = Unit {0}
AreBelow (p ∷ pages) = (p.vpn < vpn_end) × AreBelow pages

below_both : (xs ys : List PageValue) → AreBelow xs → AreBelow ys → AreBelow (xs ++ ys)
below_both [] ys a b = b
below_both (x ∷ xs) ys a b = (a.0, below_both xs ys a.1 b)

below_one : (vpn : ℕ) (m : Option Mapped) → vpn < vpn_end → AreBelow (pages_at vpn m)
below_one vpn None within = tt
below_one vpn (Some m) within = (within, tt)

pub are_below : (look : ℕ → Option Mapped) (n : ℕ) → n ≤ vpn_end → AreBelow (pages_below look n)
are_below look zero within = tt
are_below look (suc n) within =
    below_both (pages_below look n) (pages_at n (look n)) (are_below look n (omega (arith, within))) (below_one n (look n) (omega (arith, within)))

one_page : (vpn : ℕ) (m : Option Mapped) → length (pages_at vpn m) ≤ 1
one_page vpn None = omega arith
one_page vpn (Some m) = omega arith

-- there is a page at most for each VPN
pub are_few : (look : ℕ → Option Mapped) (n : ℕ) → length (pages_below look n) ≤ n
are_few look zero = omega arith
are_few look (suc n) = omega (arith, length-append (pages_below look n) (pages_at n (look n)), are_few look n, one_page n (look n))

-- The runs of pages lie where the pages do, have as many pages, and are no more than these.
pub record AreRuns (count : ℕ) (runs : List Run) : Type 0 where
  pub within : AreUserPages runs
  pub whole : pages_in runs ≡ count
  pub few : length runs ≤ count

one_more : (run : Run) (runs : List Run) (count : ℕ) → run.first + run.count ≤ vpn_end → 1 ≤ run.count → AreRuns count runs → AreRuns (run.count + count) (run ∷ runs)
one_more run runs count within some are = record {
  within = (within, are.within);
  whole = sum_by-cons (λ (r : Run). r.count) run runs ∙ ap (λ (n : ℕ). run.count + n) are.whole;
  few = omega (arith, are.few, some);
}

from_run : (run : Run) (pages : List PageValue) → run.first + run.count ≤ vpn_end → 1 ≤ run.count → AreBelow pages
    → AreRuns (run.count + length pages) (runs_from run pages)
from_run run [] within some below = one_more run [] 0 within some (record { within = tt; whole = refl; few = omega arith })
from_run run (page ∷ pages) within some below =
    either (goes_on run page) refl (λ goes. from_run (longer run) pages (omega (arith, there goes, below.0)) (omega arith) below.1)
    (from_run (run_of page) pages (omega (arith, below.0)) (omega arith) below.1)
  where
    there : goes_on run page ≡ true → run.first + run.count ≡ page.vpn
    there goes = eqb-true (run.first + run.count) page.vpn (and_parts (run.first + run.count == page.vpn) (are_alike run.writable page.writable) goes).0

    either : (t : Bool) → goes_on run page ≡ t → (goes_on run page ≡ true → AreRuns (run.count + 1 + length pages) (runs_from (longer run) pages)) → AreRuns (1 + length pages) (runs_from (run_of page) pages)
        → AreRuns (run.count + length (page ∷ pages)) (if t then runs_from (longer run) pages else run ∷ runs_from (run_of page) pages)
    either true goes more rest = subst (λ (n : ℕ). AreRuns n (runs_from (longer run) pages)) (omega arith) (more goes)
    either false goes more rest = subst (λ (n : ℕ). AreRuns n (run ∷ runs_from (run_of page) pages)) (omega arith) (one_more run (runs_from (run_of page) pages) (1 + length pages) within some rest)

pub of_pages : (pages : List PageValue) → AreBelow pages → AreRuns (length pages) (runs_of pages)
of_pages [] below = record { within = tt; whole = refl; few = omega arith }
of_pages (page ∷ pages) below =
    subst (λ (n : ℕ). AreRuns n (runs_of (page ∷ pages))) (omega arith) (from_run (run_of page) pages (omega (arith, below.0)) (omega arith) below.1)

-- so a file can be written of them
pub are_writable : (look : ℕ → Option Mapped) → FitsWords (runs_of (pages_seen look))
are_writable look =
    let pages = pages_seen look in
    let are = of_pages pages (are_below look vpn_end (omega arith)) in
    let few = are_few look vpn_end in
    record { within = are.within; room = omega (arith, are.whole, are.few, few) }

pub few_shown : (pages : List SeenPage) (look : ℕ → Option Mapped) → pages_shown pages ≡ pages_seen look → length pages ≤ vpn_end
few_shown pages look shown = subst (λ (n : ℕ). n ≤ vpn_end) (sym (ap length shown) ∙ length-map pages page_seen) (are_few look vpn_end)
