-- The calls on interrupt lines: who may take one, and drop it.
use Rattle.std.specs.Prelude.{ℕ, Bool, false, not, ◌==◌, nat_lt, if◌then◌else◌, [], Option, Some, None}
use Rattle.external_event.specs.Limits.{lines}
use Rattle.mips_exec.specs.Cpu.{reg}
use Rattle.world_model.specs.declared.code.Code.{Code}
use Rattle.world_model.specs.declared.code.Code.TheVariants as code
use Rattle.world_model.specs.declared.verdict.Verdict.{Verdict}
use Rattle.world_model.specs.Answer.{granted_unless}
use Rattle.world_model.specs.Table.{set_at}
use Rattle.world_model.specs.World.{World, Reply, no_items}

-- whether a line is an environment's
abbrev pub is_line_of : ℕ → Option ℕ → Bool
is_line_of e None = false
is_line_of e (Some owner) = owner == e

-- whether it is another's
abbrev pub is_line_of_other : ℕ → Option ℕ → Bool
is_line_of_other e None = false
is_line_of_other e (Some owner) = not (owner == e)

-- Take is for a line that isn't another's, and drop for one of the caller's own.
abbrev pub refusal_of_line_take : ℕ → Option ℕ → Option Code
refusal_of_line_take e owner = if is_line_of_other e owner then Some code.LineTaken else None

abbrev pub refusal_of_line_drop : ℕ → Option ℕ → Option Code
refusal_of_line_drop e owner = if is_line_of e owner then None else Some code.NotHolder

-- what is asked: 1 takes a line, and 0 drops it
abbrev pub refusal_of_line_act : ℕ → ℕ → Option ℕ → Option Code
refusal_of_line_act e act owner =
    if act == 1 then refusal_of_line_take e owner else
    if act == 0 then refusal_of_line_drop e owner else Some code.BadCall

-- a number that names no line is refused first
abbrev pub refusal_of_line : ℕ → ℕ → ℕ → Option ℕ → Option Code
refusal_of_line e line act owner = if nat_lt line lines then refusal_of_line_act e act owner else Some code.BadCall

abbrev pub line : World → ℕ → Verdict
line w e =
    let cpu = (w.solos e).cpu in granted_unless (refusal_of_line e (reg cpu 4) (reg cpu 5) (w.book.lines (reg cpu 4))) 0

-- a line has another owner, or none
abbrev pub with_line : World → ℕ → Option ℕ → Reply
with_line w line owner = record {
  book = record w.book { lines = set_at line owner w.book.lines };
  items = no_items;
  rows = [];
}

-- a line once an environment is gone
abbrev pub line_without : ℕ → Option ℕ → Option ℕ
line_without e owner = if is_line_of e owner then None else owner
