-- The kernel calls: the verdict on each, and what is done where it is granted.
use Rattle.std.specs.Prelude.{ℕ, ◌+◌, ◌*◌, ◌==◌, if◌then◌else◌, Option, Some, None, is_none, unwrap_or}
use Rattle.mips_exec.specs.Cpu.{reg}
use Rattle.world_model.specs.declared.call.Call.{Call}
use Rattle.world_model.specs.declared.call.Call.TheVariants as call
use Rattle.world_model.specs.declared.code.Code.TheVariants as code
use Rattle.world_model.specs.Call.{any, called, exit_number}
use Rattle.world_model.specs.declared.verdict.Verdict.{Verdict}
use Rattle.world_model.specs.declared.verdict.Verdict.TheVariants.{Refuse, Again, Grant}
use Rattle.world_model.specs.declared.call.Deed.{Deed}
use Rattle.world_model.specs.declared.call.Deed.TheVariants.{Answers, Own, Stops, Gives, Allocates, Frees, Recaps, Binds, Unbinds, Transfers, TakesSlot, DropsSlot, TakesLine, DropsLine, Claims, Unclaims, Downloads, Loads}
use Rattle.world_model.specs.Solo.{Solo}
use Rattle.world_model.specs.Item.{Answer, deed_at}
use Rattle.world_model.specs.World.{World, Reply, followed, no_change, tells}
use Rattle.world_model.specs.Event.{revokes}
use Rattle.world_model.specs.PageCalls.{alloc, allocates, bind, binds_to, free, frees, recap, recaps, unbind, unbinds}
use Rattle.world_model.specs.OwnCalls.{accept, context, put, send}
use Rattle.world_model.specs.Downloads.{download}
use Rattle.world_model.specs.SlotCalls.{drops_slot, gives, slot_drop, slot_take, stops, takes_slot, yield_alone, yield_to}
use Rattle.world_model.specs.LineCalls.{line, with_line}
use Rattle.world_model.specs.ClaimCalls.{claim, claims_packets, unclaim, unclaims}
use Rattle.world_model.specs.BackupCalls.{backup, loads}
use Rattle.world_model.specs.Queries.{query}
use Rattle.world_model.specs.Transfers.{transfer, transfers}

-- The calls that are decided by their caller alone: put, send, unbind, unclaim, context, accept, self, and a yield to
-- whoever is next.
abbrev pub verdict_alone : Solo → Option Call → Option Verdict
verdict_alone s (Some call.Yield) = yield_alone (reg s.cpu 4 == any)
verdict_alone s (Some call.Put) = Some (put s)
verdict_alone s (Some call.Send) = Some (send s)
verdict_alone s (Some call.Unbind) = Some (unbind s)
verdict_alone s (Some call.Unclaim) = Some (unclaim s)
verdict_alone s (Some call.Handler) = Some (download s)
verdict_alone s (Some call.Context) = Some (context s)
verdict_alone s (Some call.Accept) = Some (accept s)
verdict_alone s (Some call.OwnNumber) = Some (Grant s.number)
verdict_alone s call = None

-- The calls that are decided by the world. A number that names no call is refused.
abbrev pub verdict_shared : World → ℕ → Option Call → Verdict
verdict_shared w e (Some call.Yield) = yield_to w e (reg (w.solos e).cpu 4)
verdict_shared w e (Some call.Alloc) = alloc w e
verdict_shared w e (Some call.Free) = free w e
verdict_shared w e (Some call.Recap) = recap w e
verdict_shared w e (Some call.Bind) = bind w e
verdict_shared w e (Some call.Transfer) = transfer w e
verdict_shared w e (Some call.SlotTake) = slot_take w e
verdict_shared w e (Some call.SlotDrop) = slot_drop w e
verdict_shared w e (Some call.Query) = query w e
verdict_shared w e (Some call.Claim) = claim w e
verdict_shared w e (Some call.Line) = line w e
verdict_shared w e (Some call.Backup) = backup w e
verdict_shared w e (Some call.Clock) = Grant w.book.time
verdict_shared w e call = Refuse code.BadCall 0

abbrev pub verdict : World → ℕ → Option Call → Verdict
verdict w e call = unwrap_or (verdict_alone (w.solos e) call) (verdict_shared w e call)

-- what a deed does to the book, what it gives to each environment behind the answer, and its rows
abbrev pub done : World → ℕ → Deed → Reply
done w e Answers = no_change w
done w e (Own own) = no_change w
done w e Stops = stops w e
done w e (Gives target) = gives w e target
done w e (Allocates page words) = allocates w e page words
done w e (Frees page) = frees w e page
done w e (Recaps page words) = recaps w e page words
done w e (Binds binding word) = binds_to w e binding
done w e (Unbinds vpn) = unbinds w e vpn
done w e (Transfers target kind) = transfers w e target kind
done w e (TakesSlot slot) = takes_slot w e slot
done w e (DropsSlot slot) = drops_slot w e slot
done w e (TakesLine line) = with_line w line (Some e)
done w e (DropsLine line) = with_line w line None
done w e (Claims claim address atoms page) = claims_packets w e claim address atoms page
done w e (Unclaims claim) = unclaims w e claim
done w e (Downloads claim address words) = no_change w
done w e (Loads page) = loads w e page

-- An environment of which a caller wants a page is asked for one within two quanta, if nothing is pending for it.
abbrev pub asks_one : ℕ → World → Reply
asks_one who w =
    if is_none (w.book.pending who) then revokes who 1 (w.book.time + 2 * w.book.quantum) w else no_change w

-- A refused call is answered, and nothing else happens. One that is to be made again is answered, and another
-- environment is asked. A granted one is answered, and then comes what it does.
abbrev pub reply_by_verdict : World → ℕ → Verdict → Reply
reply_by_verdict w e (Refuse code value) = tells e (Answer (Refuse code value)) w
reply_by_verdict w e (Again who) = followed (tells e (Answer (Again who)) w) (asks_one who w)
reply_by_verdict w e (Grant value) = followed (tells e (Answer (Grant value)) w) (done w e (deed_at (w.solos e) value))

abbrev pub reply_to : World → ℕ → Option Call → Reply
reply_to w e call = reply_by_verdict w e (verdict w e call)

-- the verdict on the call at which an environment stands; exit has none
abbrev pub verdict_now : World → ℕ → Option Verdict
verdict_now w e =
    let cpu = (w.solos e).cpu in if reg cpu 2 == exit_number then None else Some (verdict w e (called cpu))
