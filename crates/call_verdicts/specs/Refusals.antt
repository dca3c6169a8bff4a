-- Why the call that an environment's registers hold is refused.
use Rattle.std.specs.Prelude.{ℕ, Option, length}
use Rattle.mips_exec.specs.Cpu.{reg}
use Rattle.world_model.specs.declared.code.Code.{Code}
use Rattle.world_model.specs.Book.{page_row}
use Rattle.world_model.specs.OwnCalls.{put_refusal, send_refusal}
use Rattle.world_model.specs.PageCalls.{is_guaranteed_vpn, refusal_of_bind}
use Rattle.world_model.specs.Solo.{Solo, sight}
use Rattle.world_model.specs.World.{World}

-- a put, alone
abbrev pub refusal_of_put_call : Solo → Option Code
refusal_of_put_call s = put_refusal s.cpu (sight s) (length s.console)

-- a send, alone
abbrev pub refusal_of_send_call : Solo → Option Code
refusal_of_send_call s = send_refusal s.cpu (sight s) (length s.sent)

-- a bind, by the row of its page
abbrev pub refusal_of_bind_call : World → ℕ → Option Code
refusal_of_bind_call w e = refusal_of_bind e (w.solos e).cpu (is_guaranteed_vpn (w.solos e) (reg (w.solos e).cpu 4))
    (page_row w.book (reg (w.solos e).cpu 5))
