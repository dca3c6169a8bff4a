-- Runs of pages.
use Rattle.std.specs.Prelude.{◌+◌, Bool, not, ◌==◌, ◌&&◌, if◌then◌else◌, List, [], ◌∷◌}
use Rattle.core_file.specs.Pages.{PageValue}
use Rattle.core_file.specs.declared.runs.Run.{Run}

-- a page alone
abbrev pub run_of : PageValue → Run
run_of page = record { first = page.vpn; count = 1; writable = page.writable }

-- whether both may be stored to, or neither
abbrev pub are_alike : Bool → Bool → Bool
are_alike a b = if a then b else not b

-- whether a page goes on where a run ends, and may be stored to as its pages may
abbrev pub goes_on : Run → PageValue → Bool
goes_on run page = run.first + run.count == page.vpn && are_alike run.writable page.writable

abbrev pub longer : Run → Run
longer run = record run { count = run.count + 1 }

-- a run and the pages after it: it takes the next one that goes on, or ends and another begins
abbrev pub runs_from : Run → List PageValue → List Run
runs_from run [] = run ∷ []
runs_from run (page ∷ pages) =
    if goes_on run page then runs_from (longer run) pages else run ∷ runs_from (run_of page) pages

-- the runs of all pages
abbrev pub runs_of : List PageValue → List Run
runs_of [] = []
runs_of (page ∷ pages) = runs_from (run_of page) pages
