-- The questions about the kernel's book.
use Rattle.std.specs.Prelude.{ℕ, ◌==◌, nat_lt, if◌then◌else◌, Option, Some, None, unwrap_or, Result, Ok, Err}
use Rattle.std.specs.Option.{option_map}
use Rattle.mips_exec.specs.Cpu.{reg}
use Rattle.page_book.specs.declared.row.PageRow.{PageRow}
use Rattle.page_book.specs.Row.{owner_of}
use Rattle.page_book.specs.Rows.{free_below}
use Rattle.world_model.specs.declared.code.Code.{Code}
use Rattle.world_model.specs.declared.code.Code.TheVariants as code
use Rattle.world_model.specs.declared.life.Life.{Life}
use Rattle.world_model.specs.declared.question.Question.{Question}
use Rattle.world_model.specs.declared.question.Question.TheVariants as question
use Rattle.world_model.specs.declared.hold.Hold.{Hold}
use Rattle.world_model.specs.Book.{page_row}
use Rattle.world_model.specs.Call.{any}
use Rattle.world_model.specs.Solo.{is_dead}
use Rattle.world_model.specs.SlotCalls.{slot_at}
use Rattle.world_model.specs.World.{World}
use Rattle.world_model.specs.declared.verdict.Verdict.{Verdict}
use Rattle.world_model.specs.Answer.{verdict_of}

-- what is asked, by its number
abbrev pub question_numbered : ℕ → Option Question
question_numbered number =
    if number == 0 then Some question.FreePages else
    if number == 1 then Some question.Pages else
    if number == 2 then Some question.Environments else
    if number == 3 then Some question.Slots else
    if number == 4 then Some question.Quantum else
    if number == 5 then Some question.PageOwner else
    if number == 6 then Some question.SlotHolder else
    if number == 7 then Some question.Excess else
    if number == 8 then Some question.Death else None

abbrev pub or_any : Option ℕ → ℕ
or_any who = unwrap_or who any

abbrev pub owner_answer : Option PageRow → Result ℕ Code
owner_answer None = Err code.NoPage
owner_answer (Some row) = Ok (or_any (owner_of row))

abbrev pub holder_answer : Option (Option Hold) → Result ℕ Code
holder_answer None = Err code.NoSlice
holder_answer (Some slot) = Ok (or_any (option_map (λ (hold : Hold). hold.holder) slot))

-- the life of an environment, if there is one of this number
abbrev pub life_at : World → ℕ → Option Life
life_at w e = if nat_lt e w.count then Some (w.solos e).life else None

abbrev pub death_in : Option Life → Result ℕ Code
death_in None = Err code.NoEnv
death_in (Some life) = Ok (if is_dead life then 1 else 0)

abbrev pub death_answer : World → ℕ → Result ℕ Code
death_answer w e = death_in (life_at w e)

-- the answer: a number of the book, of this page, slot or environment; there is none of what isn't there
abbrev pub answer_to : World → ℕ → Option Question → ℕ → Result ℕ Code
answer_to w e None index = Err code.BadCall
answer_to w e (Some question.FreePages) index = Ok (free_below w.book.pages w.book.page_count)
answer_to w e (Some question.Pages) index = Ok w.book.page_count
answer_to w e (Some question.Environments) index = Ok w.count
answer_to w e (Some question.Slots) index = Ok w.book.slot_count
answer_to w e (Some question.Quantum) index = Ok w.book.quantum
answer_to w e (Some question.PageOwner) index = owner_answer (page_row w.book index)
answer_to w e (Some question.SlotHolder) index = holder_answer (slot_at w.book index)
answer_to w e (Some question.Excess) index = Ok (w.book.excess e)
answer_to w e (Some question.Death) index = death_answer w index

abbrev pub query : World → ℕ → Verdict
query w e = let cpu = (w.solos e).cpu in verdict_of (answer_to w e (question_numbered (reg cpu 4)) (reg cpu 5))
