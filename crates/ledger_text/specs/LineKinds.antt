-- The kinds of lines of a report, and which may follow which.
use Rattle.std.specs.Prelude.{ℕ, Bool, true, false, List, [], ◌∷◌, Option, Some, is_some, ◌||◌, if◌then◌else◌, codes}
use Rattle.std.specs.List.{before_first}
use Rattle.std.specs.Map.{lookup}
use Rattle.std.specs.Str.{bytes_eq}
use Rattle.kernel_journal.specs.RowTable.{name_in}
use Rattle.ledger_text.specs.declared.kind.LineKind.{LineKind}
use Rattle.ledger_text.specs.declared.kind.LineKind.TheVariants as kind
use Rattle.ledger_text.specs.Words.{is_space}

-- the kinds of other lines than rows by their first words
abbrev pub kind_names : List (List ℕ × LineKind)
kind_names =
    (codes "sum", kind.Sum) ∷ (codes "env", kind.Env) ∷ (codes "out", kind.Out)
    ∷ (codes "cpu", kind.Cpu) ∷ (codes "regs", kind.Regs) ∷ (codes "excess", kind.Excess) ∷ (codes "keep", kind.Keep)
    ∷ (codes "page", kind.Page) ∷ (codes "bind", kind.Bind) ∷ (codes "sent", kind.Sent) ∷ (codes "aegis", kind.Title)
    ∷ (codes "done", kind.Done) ∷ []

abbrev pub kind_named : List ℕ → Option LineKind
kind_named name = if is_some (name_in name) then Some kind.Row else lookup (bytes_eq name) kind_names

abbrev pub first_word : List ℕ → List ℕ
first_word text = before_first is_space text

-- directly behind the title `end` begins the line that says how the run ended; later it begins a row
abbrev pub kind_after : LineKind → List ℕ → Option LineKind
kind_after kind.Title name = if bytes_eq name (codes "end") then Some kind.End else kind_named name
kind_after last name = kind_named name

-- whether an environment's lines may end with this one
abbrev pub ends_env : LineKind → Bool
ends_env kind.Out = true
ends_env kind.Excess = true
ends_env kind.Keep = true
ends_env kind.Page = true
ends_env kind.Bind = true
ends_env kind.Sent = true
ends_env last = false

abbrev pub is_kind_end : LineKind → Bool
is_kind_end kind.End = true
is_kind_end last = false

abbrev pub is_kind_env : LineKind → Bool
is_kind_env kind.Env = true
is_kind_env last = false

abbrev pub is_kind_out : LineKind → Bool
is_kind_out kind.Out = true
is_kind_out last = false

abbrev pub is_kind_cpu : LineKind → Bool
is_kind_cpu kind.Cpu = true
is_kind_cpu last = false

abbrev pub is_kind_regs : LineKind → Bool
is_kind_regs kind.Regs = true
is_kind_regs last = false

-- whether a guaranteed page's line may stand behind it; an owned page's; a binding's
abbrev pub before_keep : LineKind → Bool
before_keep kind.Excess = true
before_keep kind.Keep = true
before_keep last = false

abbrev pub before_page : LineKind → Bool
before_page kind.Page = true
before_page last = before_keep last

abbrev pub before_bind : LineKind → Bool
before_bind kind.Bind = true
before_bind last = before_page last

-- whether a row may; a sum, or the last line
abbrev pub before_row : LineKind → Bool
before_row kind.Row = true
before_row last = ends_env last

abbrev pub before_sum : LineKind → Bool
before_sum kind.Sum = true
before_sum last = before_row last

abbrev pub is_kind_none : LineKind → Bool
is_kind_none kind.Nothing = true
is_kind_none last = false

abbrev pub is_kind_title : LineKind → Bool
is_kind_title kind.Title = true
is_kind_title last = false

abbrev pub is_kind_done : LineKind → Bool
is_kind_done kind.Done = true
is_kind_done last = false

-- Whether a line may stand directly behind another: the title, how the run ended, then of each environment, of which
-- there is one or more, its life and console; of one that lives its registers, its excess, and its pages and bindings,
-- each in this order; and what it sent. Then the rows, then the sums, and the last line.
abbrev pub may_follow : LineKind → LineKind → Bool
may_follow last kind.Nothing = false
may_follow last kind.Title = is_kind_none last
may_follow last kind.End = is_kind_title last
may_follow last kind.Env = is_kind_end last || ends_env last
may_follow last kind.Out = is_kind_env last
may_follow last kind.Cpu = is_kind_out last
may_follow last kind.Regs = is_kind_cpu last
may_follow last kind.Excess = is_kind_regs last
may_follow last kind.Keep = before_keep last
may_follow last kind.Page = before_page last
may_follow last kind.Bind = before_bind last
may_follow last kind.Sent = ends_env last
may_follow last kind.Row = before_row last
may_follow last kind.Sum = before_sum last
may_follow last kind.Done = before_sum last
