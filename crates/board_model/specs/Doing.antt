-- The model retold over lists, part by part of a tick. Nobody has to believe it: the laws say that it shows the model.
use Rattle.std.specs.Prelude.{ℕ, zero, suc, ◌+◌, ◌-◌, ◌*◌, ◌/◌, ◌%◌, Bool, true, false, not, drop, fold, List, [], ◌∷◌, ◌++◌, length, map, ◌==◌, if◌then◌else◌, Option, Some, None, is_none, unwrap_or, slice_set}
use Rattle.external_event.specs.declared.event.Occurrence.{Occurrence}
use Rattle.external_event.specs.declared.event.Occurrence.TheVariants as outside
use Rattle.kernel_journal.specs.Ledger.{Ledger, with_row}
use Rattle.kernel_journal.specs.declared.row.Row.{Row}
use Rattle.kernel_journal.specs.declared.row.Row.TheVariants as row
use Rattle.mips_exec.specs.declared.registers.Cpu.{Cpu}
use Rattle.mips_exec.specs.declared.exception.Exc.{Exc}
use Rattle.mips_exec.specs.Cpu.{reg}
use Rattle.mips_exec.specs.Step.{Step, Retired, Called, Trapped, cpu_after, write_after}
use Rattle.env_frames.specs.declared.mapping.Mapping.{Mapping}
use Rattle.env_frames.specs.declared.context.Context.{Context}
use Rattle.env_frames.specs.declared.transfer.TransferKind.{TransferKind}
use Rattle.env_frames.specs.declared.transfer.TransferKind.TheVariants as kind
use Rattle.env_frames.specs.Transfer.{carried, entered_cpu, entry_area, entry_bytes, entry_context, hands_slot}
use Rattle.env_frames.specs.Context.{context_number, end_area, end_bytes, handler_of, raised_cpu, resumed_cpu, start_area, start_bytes, started_cpu, with_handler}
use Rattle.env_frames.specs.declared.post.PostWord.{PostWord}
use Rattle.env_frames.specs.declared.post.PostWord.TheVariants as post
use Rattle.env_frames.specs.Post.{asked_in, counted_in, signalled_in, taken_in}
use Rattle.packet_ring.specs.Ring.{is_full, with_packet}
use Rattle.filter_tree.specs.declared.claim.Claim.{Claim}
use Rattle.filter_tree.specs.ClaimBook.{is_of_env}
use Rattle.filter_tree.specs.Claims.{claim_for, claim_handler, delivered, downloaded, is_claim, is_into, with_claim, without}
use Rattle.handler_rules.specs.Running.{HandlerRun, handler_run}
use Rattle.world_model.specs.ClaimCalls.{atoms_or_none, filter_at}
use Rattle.world_model.specs.Downloads.{handler_at, handler_or_none}
use Rattle.world_model.specs.Rings.{sent_with_replies}
use Rattle.revocation_book.specs.declared.revocation.Pending.{Pending}
use Rattle.revocation_book.specs.declared.revocation.Taking.{Taking}
use Rattle.revocation_book.specs.Pending.{asked}
use Rattle.revocation_book.specs.Backups.{loaded}
use Rattle.revocation_book.specs.RevocationBook.{backups_at, once_freed, once_gone, once_served, books_of, pending_at, with_backups, with_pending}
use Rattle.revocation_book.specs.Takings.{takings_below}
use Rattle.env_frames.specs.Frame.{gone_env, left_in, page_of, raised_in}
use Rattle.frame_store.specs.Pages.{after_put, page_at, with_page, zero_page}
use Rattle.page_book.specs.declared.row.PageRow.{PageRow}
use Rattle.page_book.specs.declared.row.PageRow.TheVariants.{Free, Owned}
use Rattle.page_book.specs.declared.row.Capabilities.{Capabilities}
use Rattle.page_book.specs.Row.{released}
use Rattle.page_book.specs.Rows.{row_in}
use Rattle.bind_book.specs.declared.binding.Binding.{Binding}
use Rattle.bind_book.specs.Stripe.{goes_with, leads_to_page, row_of, stripes, swept, unbound, with_binding_in}
use Rattle.guest_memory.specs.Look.{look, frames_after, guest_step}
use Rattle.guest_memory.specs.Space.{lookup}
use Rattle.slot_vector.specs.declared.turn.NextTurn.{NextTurn}
use Rattle.slot_vector.specs.declared.turn.NextTurn.TheVariants as next
use Rattle.world_model.specs.declared.timer.Timer.{Timer}
use Rattle.world_model.specs.declared.timer.Timer.TheVariants as timer
use Rattle.slot_vector.specs.Slices.{Slices, after_timer, after_turn, excess_of, given_to, hold_at, timer_answer, whole_turn_of, turn_ended, with_hold, without_env}
use Rattle.world_model.specs.declared.hold.Hold.{Hold}
use Rattle.world_model.specs.declared.slot.Runner.{Runner}
use Rattle.world_model.specs.declared.slot.Turn.{Turn}
use Rattle.world_model.specs.declared.call.Call.{Call}
use Rattle.world_model.specs.declared.life.Life.TheVariants.{Dead}
use Rattle.world_model.specs.declared.life.Cause.{Cause}
use Rattle.world_model.specs.declared.life.Cause.TheVariants as cause
use Rattle.world_model.specs.Page.{Mapped}
use Rattle.world_model.specs.declared.call.Deed.{Deed}
use Rattle.world_model.specs.declared.call.Deed.TheVariants.{Answers, Own, Stops, Gives, Allocates, Frees, Recaps, Binds, Unbinds, Transfers, TakesSlot, DropsSlot, TakesLine, DropsLine, Claims, Unclaims, Downloads, Loads}
use Rattle.world_model.specs.declared.verdict.Verdict.{Verdict}
use Rattle.world_model.specs.declared.verdict.Verdict.TheVariants.{Refuse, Again, Grant}
use Rattle.world_model.specs.declared.call.OwnDeed.{OwnDeed}
use Rattle.world_model.specs.declared.call.OwnDeed.TheVariants.{Puts, Sends, Handles, Accepts}
use Rattle.world_model.specs.Item.{answered_cpu}
use Rattle.world_model.specs.World.{is_living}
use Rattle.world_model.specs.OwnCalls.{put_bytes}
use Rattle.world_model.specs.Call.{deed_of, good_range}
use Rattle.std.specs.Option.{option_map}
use Rattle.world_model.specs.Death.{released_rows}
use Rattle.world_model.specs.Verdict.{verdict}
use Rattle.world_model.specs.Book.{WholeTurn, own_hold}
use Rattle.world_model.specs.LineCalls.{line_without}
use Rattle.world_model.specs.SlotCalls.{dropped, held_by, slot_row}
use Rattle.world_model.specs.Call.{called, exit_number}
use Rattle.board_model.specs.declared.roster.Environment.{Environment}
use Rattle.board_model.specs.Lines.{line_at}
use Rattle.tlb_model.specs.Flushes.{OfEnv, OfPage, OfPair, flushed_all, replaced_pair}
use Rattle.board_model.specs.Shown.{Shown, mappings_of, handlers_of, registers_of, with_record, with_list}
use Rattle.board_model.specs.Showing.{world_of}

-- What happens from outside. A packet that nobody claims is dropped, and the ledger tells its length.
abbrev pub after_drop : Shown → List ℕ → Shown
after_drop b packet = record b { ledger = with_row b.ledger (row.Unclaimed b.time (length packet)) }

-- A signal on a line that is an environment's sets the line's bit in its context page.
abbrev pub after_signal_to : Shown → ℕ → Option ℕ → Shown
after_signal_to b line None = b
after_signal_to b line (Some owner) =
    record b { frames = signalled_in line (page_of (mappings_of b.roster.list owner) context_number) b.frames }

abbrev pub after_signal : Shown → ℕ → Shown
after_signal b line = after_signal_to b line (line_at b.lines line)

-- A packet for a claim is counted in the context page of the claim's environment. If the buffer whose turn it is has
-- room, it goes there, and the other is next; else it is counted as lost, too. If the claim has a handler, that runs in
-- place of this.
abbrev pub context_of : Shown → ℕ → Option ℕ
context_of b e = page_of (mappings_of b.roster.list e) context_number

abbrev pub with_count : Shown → PostWord → ℕ → Shown
with_count b word e = record b { frames = counted_in word (context_of b e) b.frames }

abbrev pub with_queued_packet : Shown → Claim → List ℕ → Shown
with_queued_packet b c packet = record b {
  frames = after_put b.frames c.page 0 (with_packet (page_at b.frames c.page) c.next packet);
  claims = delivered c.id b.claims;
}

abbrev pub after_queue : Bool → Shown → Claim → List ℕ → Shown
after_queue true b c packet = with_count b post.Lost c.env
after_queue false b c packet = with_queued_packet b c packet

-- an environment that sent a handler's replies, but for those that find 256 packets held
abbrev pub with_replies_sent : List (List ℕ) → Environment → Environment
with_replies_sent replies x = record x { output = record x.output { sent = sent_with_replies x.output.sent replies } }

abbrev pub with_replies : Shown → ℕ → List (List ℕ) → Shown
with_replies b e replies =
    record b { roster = with_list b.roster (with_record (with_replies_sent replies) b.roster.list e) }

-- A handler took the packet: the ring page is what it left, and the claim's environment sent its replies. The buffer
-- whose turn it is stays.
abbrev pub after_handler : Shown → Claim → HandlerRun → Shown
after_handler b c run = with_replies (record b { frames = after_put b.frames c.page 0 run.page }) c.env run.replies

abbrev pub after_delivery_by : Option (List ℕ) → Shown → Claim → List ℕ → Shown
after_delivery_by None b c packet = after_queue (is_full (page_at b.frames c.page) c.next) b c packet
after_delivery_by (Some words) b c packet = after_handler b c (handler_run words packet c.id (page_at b.frames c.page))

abbrev pub after_delivery : Shown → Claim → List ℕ → Shown
after_delivery b c packet = after_delivery_by (claim_handler b.claims c.id) (with_count b post.Packets c.env) c packet

abbrev pub after_arrival_for : Shown → List ℕ → Option Claim → Shown
after_arrival_for b packet None = after_drop b packet
after_arrival_for b packet (Some c) = after_delivery b c packet

abbrev pub after_arrival : Shown → List ℕ → Shown
after_arrival b packet = after_arrival_for b packet (claim_for b.claims packet)

-- A revocation: the environment finds in its context page how many pages are outstanding, and until when; the ledger
-- tells it.
abbrev pub with_asked : Shown → ℕ → Option Pending → Shown
with_asked b e None = record b { revocations = with_pending b.revocations e None }
with_asked b e (Some p) = record b {
  frames = asked_in p.outstanding p.deadline (context_of b e) b.frames;
  revocations = with_pending b.revocations e (Some p);
  ledger = with_row b.ledger (row.Asked b.time e p.outstanding p.deadline);
}

-- it is for an environment that is there and lives
abbrev pub after_revocation : Shown → ℕ → ℕ → ℕ → Shown
after_revocation b e count deadline =
    if is_living (world_of b) e then with_asked b e (asked count deadline (pending_at b.revocations e)) else b

abbrev pub after_event : Occurrence → Shown → Shown
after_event (outside.Packet packet) b = after_arrival b packet
after_event (outside.Line line) b = after_signal b line
after_event (outside.Revoke env count grace) b = after_revocation b env count (b.time + grace)

-- The start of an environment's slice: the registers with which it starts, and physical memory with what its handler of
-- starts finds.
abbrev pub start_registers : List Environment → ℕ → Cpu
start_registers list e = started_cpu (handlers_of list e).start (registers_of list e)

abbrev pub start_frames : Shown → ℕ → List (List ℕ)
start_frames b e =
    if (handlers_of b.roster.list e).start == 0 then b.frames
    else left_in start_area (start_bytes (registers_of b.roster.list e)) (context_of b e) b.frames

-- a slot that is forfeited
abbrev pub after_forfeit : Shown → Turn → Shown
after_forfeit b t =
    record b { slots = after_turn b.slots (next.Pay t); ledger = with_row b.ledger (row.Pay b.time t.slot t.env) }

-- the start of a slot's holder
abbrev pub after_start : Shown → Turn → Shown
after_start b t = record b {
  slots = after_turn b.slots (next.Run t);
  frames = start_frames b t.env;
  cpu = start_registers b.roster.list t.env;
  ledger = with_row b.ledger (row.Run b.time t.slot t.env);
}

-- what comes next in the vector of slots
abbrev pub after_next : Shown → NextTurn → Shown
after_next b next.Idle = b
after_next b (next.Pay t) = after_forfeit b t
after_next b (next.Run t) = after_start b t

abbrev pub after_start_if : Shown → Option Turn → Shown
after_start_if b None = b
after_start_if b (Some t) = after_start b t

abbrev pub after_told : Shown → WholeTurn → Shown
after_told b told = after_start_if (fold after_forfeit b told.pays) told.runs

abbrev pub after_turn_when : Shown → Option Runner → Shown
after_turn_when b None = after_told b (whole_turn_of b.slots)
after_turn_when b (Some r) = b

-- the turn
abbrev pub after_turn_phase : Shown → Shown
after_turn_phase b = after_turn_when b b.slots.runner

-- the mapping that a VPN of an environment has
abbrev pub lookup_of : Shown → ℕ → ℕ → Option Mapping
lookup_of b e = lookup (record { mappings = mappings_of b.roster.list e; binds = b.binds; number = e })

-- where the VPNs of an environment lead
abbrev pub look_of : Shown → ℕ → ℕ → Option Mapped
look_of b e = look b.frames (lookup_of b e)

-- what the machine's step comes to for the runner
abbrev pub step_seen : Shown → ℕ → Step
step_seen b e = guest_step b.frames (lookup_of b e) b.cpu

-- the machine after the runner's step
abbrev pub after_machine_step : Shown → ℕ → Step → Shown
after_machine_step b e step = record b {
  cpu = cpu_after b.cpu step;
  frames = frames_after b.frames (lookup_of b e) (write_after step);
}

-- an environment of which these registers are kept
abbrev pub with_registers : Cpu → Environment → Environment
with_registers cpu x = record x { env = record x.env { cpu = cpu } }

-- an environment whose handler of a context stands at an address
abbrev pub with_handler_at : Context → ℕ → Environment → Environment
with_handler_at kind address x = record x { env = record x.env { handlers = with_handler x.env.handlers kind address } }

-- an environment that accepts those of a mask
abbrev pub with_mask : ℕ → Environment → Environment
with_mask mask x = record x { env = record x.env { mask = mask } }

-- an environment that wrote these bytes more to its console
abbrev pub with_bytes_put : List ℕ → Environment → Environment
with_bytes_put bytes x = record x { output = record x.output { console = x.output.console ++ bytes } }

-- an environment that sent a packet of these bytes more
abbrev pub with_packet_sent : List ℕ → Environment → Environment
with_packet_sent bytes x = record x { output = record x.output { sent = x.output.sent ++ bytes ∷ [] } }

-- an environment after its death
abbrev pub dead_frame : Cause → Environment → Environment
dead_frame cause x = record x { life = Dead cause; env = gone_env }

-- the ledger with more rows
abbrev pub with_rows : Ledger → List Row → Ledger
with_rows ledger rows = record { rows = ledger.rows ++ rows; spare = ledger.spare - length rows }

-- what a mask has from a bit on
abbrev pub mask_from : ℕ → ℕ → ℕ
mask_from mask zero = mask
mask_from mask (suc k) = mask_from (mask / 2) k

-- the rows of the slots below k that a mask names, by rising slot
abbrev pub mask_rows : ℕ → ℕ → (ℕ → Option Hold) → ℕ → List Row
mask_rows t mask slots zero = []
mask_rows t mask slots (suc k) =
    mask_rows t mask slots k ++ (if mask_from mask k % 2 == 1 then slot_row t k (slots k) ∷ [] else [])

-- An environment's death. Its slots are released, and the ledger tells its death and what becomes of them.
abbrev pub ledger_after_release : ℕ → ℕ → Slices → Ledger → Ledger
ledger_after_release t e v ledger =
    with_rows (with_row ledger (row.Dead t v.cursor e)) (released_rows t e (hold_at v.slots) (length v.slots))

abbrev pub after_release : Shown → ℕ → Shown
after_release b e = record b { slots = without_env e b.slots; ledger = ledger_after_release b.time e b.slots b.ledger }

-- Its pages are free, neither its bindings nor those of its pages are left, nor are its rows of the TLB and those of its
-- pages; its lines are nobody's, its claims are withdrawn, nothing is asked of it, and its registers and mappings go.
abbrev pub after_burial : Shown → ℕ → Cause → Shown
after_burial b e cause = record b {
  pages = map (released e) b.pages;
  binds = swept (goes_with (row_in b.pages) e) b.binds;
  lines = map (line_without e) b.lines;
  claims = without (is_of_env e) b.claims;
  revocations = once_gone b.revocations e;
  roster = with_list b.roster (with_record (dead_frame cause) b.roster.list e);
  tlb = flushed_all (OfEnv (row_in b.pages) e ∷ []) b.tlb;
}

-- both
abbrev pub after_death : Shown → ℕ → Cause → Shown
after_death b e cause = after_burial (after_release b e) e cause

-- the registers of an environment that is stopped are kept
abbrev pub with_stop_kept : Shown → ℕ → Shown
with_stop_kept b e = record b {
  roster = with_list b.roster (with_record (with_registers b.cpu) b.roster.list e);
  ledger = with_row b.ledger (row.Stop b.time b.slots.cursor e);
}

-- the runner is stopped, and the rest of its slice is dropped
abbrev pub after_stop : Shown → ℕ → Shown
after_stop b e = with_stop_kept (record b { slots = turn_ended b.slots }) e

-- an answer to a call
abbrev pub after_answer : Shown → Verdict → Shown
after_answer b verdict = record b { cpu = answered_cpu verdict b.cpu }

-- What the runner does to itself alone: its record, once this is done
abbrev pub own_record : Shown → ℕ → OwnDeed → Environment → Environment
own_record b e (Puts address size) = with_bytes_put (unwrap_or (put_bytes (look_of b e) address size) [])
own_record b e (Sends address size) = with_packet_sent (unwrap_or (good_range (look_of b e) address size) [])
own_record b e (Handles kind address) = with_handler_at kind address
own_record b e (Accepts mask) = with_mask mask

abbrev pub after_own_deed : Shown → ℕ → OwnDeed → Shown
after_own_deed b e own = record b { roster = with_list b.roster (with_record (own_record b e own) b.roster.list e) }

-- the rest of the runner's slice goes to another environment, which is started
abbrev pub after_gift : Shown → ℕ → ℕ → Shown
after_gift b e target = record b {
  slots = given_to target false b.slots;
  frames = start_frames b target;
  cpu = start_registers b.roster.list target;
  roster = with_list b.roster (with_record (with_registers b.cpu) b.roster.list e);
  ledger = with_row b.ledger (row.Give b.time b.slots.cursor e target);
}

-- physical memory after a transfer has entered an environment: the entry area of its context page is written
abbrev pub frames_after_entry : List Environment → ℕ → ℕ → TransferKind → List (List ℕ) → List (List ℕ)
frames_after_entry list from target kind frames =
    let context = page_of (mappings_of list target) context_number in
    left_in entry_area (entry_bytes from kind (registers_of list target)) context frames

abbrev pub entry_registers : Shown → ℕ → TransferKind → Cpu
entry_registers b target kind =
    entered_cpu (handler_of (handlers_of b.roster.list target) (entry_context kind)) (carried b.cpu)

abbrev pub entry_roster : Shown → ℕ → ℕ → ℕ → List Environment
entry_roster b e value target =
    with_record (with_registers (answered_cpu (Grant value) b.cpu)) (with_record (with_mask 0) b.roster.list target) e

abbrev pub ledger_after_hand_on : Shown → ℕ → ℕ → TransferKind → Ledger
ledger_after_hand_on b e target kind.Asynchronous = with_row b.ledger (row.Async b.time b.slots.cursor e target)
ledger_after_hand_on b e target kind.Synchronous =
    let slot = b.slots.cursor in
    with_row (with_row b.ledger (row.Sync b.time slot e target))
    (slot_row b.time slot (option_map (held_by target) (hold_at b.slots.slots slot)))

-- The target runs for the rest of the runner's slice, and holds the slot, if that is handed on; the ledger says so.
abbrev pub after_hand_on : Shown → ℕ → ℕ → TransferKind → Shown
after_hand_on b e target kind =
    record b { slots = given_to target (hands_slot kind) b.slots; ledger = ledger_after_hand_on b e target kind }

-- The runner's registers are kept behind its call, which is granted with a value, and the target goes on at its entry.
abbrev pub after_entry : Shown → ℕ → ℕ → ℕ → TransferKind → Shown
after_entry b e value target kind = record b {
  frames = frames_after_entry b.roster.list e target kind b.frames;
  cpu = entry_registers b target kind;
  roster = with_list b.roster (entry_roster b e value target);
}

-- Transfer: the runner's registers are kept behind its call, which is answered; another environment goes on at its
-- entry with those that the runner had at the call, for the rest of the slice, and holds the slot or not.
abbrev pub after_transfer : Shown → ℕ → ℕ → ℕ → TransferKind → Shown
after_transfer b e value target kind = after_entry (after_hand_on b e target kind) e value target kind

-- Take and drop: a slot has another hold.
abbrev pub board_with_slot : Shown → ℕ → Option Hold → Shown
board_with_slot b k hold = record b {
  slots = with_hold b.slots k hold;
  ledger = with_row b.ledger (slot_row b.time k hold);
}

-- An interrupt line has another owner, or none.
abbrev pub board_with_line : Shown → ℕ → Option ℕ → Shown
board_with_line b line owner = record b { lines = slice_set b.lines line owner }

-- The runner's exception goes to its handler, which stands at this address.
abbrev pub after_raise : Shown → ℕ → ℕ → Exc → Shown
after_raise b e handler exc = record b {
  frames = raised_in exc b.cpu (page_of (mappings_of b.roster.list e) context_number) b.frames;
  cpu = raised_cpu handler exc b.cpu;
}

-- where there is none it dies
abbrev pub after_trap_by : Shown → ℕ → ℕ → Exc → Shown
after_trap_by b e handler exc =
    if handler == 0 then after_death b e (cause.Trapped exc.code) else after_raise b e handler exc

abbrev pub after_trap : Shown → ℕ → Exc → Shown
after_trap b e exc = after_trap_by b e (handlers_of b.roster.list e).exception exc

-- Allocation: the page is the runner's and holds zeros.
abbrev pub with_allocated : Shown → ℕ → ℕ → Capabilities → Shown
with_allocated b e page words =
    record b { frames = with_page b.frames page zero_page; pages = slice_set b.pages page (Owned e words) }

-- Free and recap: the page has another row, and the bindings of it are broken, but for those of one environment; the
-- TLB's rows of it are emptied.
abbrev pub with_broken : Shown → ℕ → PageRow → Option ℕ → Shown
with_broken b page row but = record b {
  pages = slice_set b.pages page row;
  binds = swept (leads_to_page page but) b.binds;
  tlb = flushed_all (OfPage page ∷ []) b.tlb;
}

-- Free: the page is nobody's, and the claims whose ring it is are withdrawn.
abbrev pub with_freed : Shown → ℕ → Shown
with_freed b page =
    let broken = with_broken b page Free None in record broken { claims = without (is_into page) b.claims }

-- by its owner, of whom one page fewer is outstanding then, and whose backup it isn't any more
abbrev pub with_given_back : Shown → ℕ → ℕ → Shown
with_given_back b e page =
    let freed = with_freed b page in record freed { revocations = once_freed b.revocations e page }

-- Backup: the page is the last of the runner's backups.
abbrev pub with_loaded : Shown → ℕ → ℕ → Shown
with_loaded b e page =
    record b { revocations = with_backups b.revocations e (loaded page (backups_at b.revocations e)) }

-- A page is taken from its owner: its first backup gets a copy and is an ordinary page again, the owner finds the
-- record, the page is nobody's, and the ledger tells it.
abbrev pub frames_after_copy : ℕ → Option ℕ → List (List ℕ) → List (List ℕ)
frames_after_copy page None frames = frames
frames_after_copy page (Some backup) frames = after_put frames backup 0 (page_at frames page)

abbrev pub after_taking : Shown → Taking → Shown
after_taking b x = let freed = with_freed b x.page in record freed {
  frames = taken_in x.page x.backup (context_of b x.env) (frames_after_copy x.page x.backup b.frames);
  revocations = with_backups b.revocations x.env (drop 1 (backups_at b.revocations x.env));
  ledger = with_row b.ledger (row.Take b.time x.env x.page x.backup);
}

-- What is taken at deadlines that have come is taken, and these deadlines are over.
abbrev pub board_takings : Shown → List Taking
board_takings b = takings_below (books_of b.pages b.revocations) b.time (length b.roster.list)

abbrev pub with_deadlines_over : Shown → Shown
with_deadlines_over b = record b { revocations = once_served b.revocations b.time }

abbrev pub after_deadlines : Shown → Shown
after_deadlines b = with_deadlines_over (fold after_taking b (board_takings b))

-- Claim: the claim stands, with the filter that is named. Unclaim: it doesn't stand any more.
abbrev pub with_claimed : Shown → ℕ → ℕ → ℕ → ℕ → Shown
with_claimed b e address atoms page =
    record b { claims = with_claim b.claims e (atoms_or_none (filter_at (look_of b e) address atoms)) page }

abbrev pub with_unclaimed : Shown → ℕ → ℕ → Shown
with_unclaimed b e claim = record b { claims = without (is_claim e claim) b.claims }

-- Handler: the claim has the handler that is named, or none.
abbrev pub with_downloaded : Shown → ℕ → ℕ → ℕ → ℕ → Shown
with_downloaded b e claim address words =
    record b { claims = downloaded claim (handler_or_none (handler_at (look_of b e) address words)) b.claims }

-- Bind: the binding stands in its row, and the TLB's rows of its pair and of the one that stood there are emptied.
abbrev pub with_bound : Shown → ℕ → Binding → Shown
with_bound b e x = record b {
  binds = with_binding_in b.binds e x;
  tlb = flushed_all (OfPair x.vpn e ∷ replaced_pair e (stripes b.binds e (row_of b.binds.version x.vpn))) b.tlb;
}

-- Unbind: the row of the VPN is empty, if its binding stood there, and so is the TLB's row of its pair.
abbrev pub with_unbound : Shown → ℕ → ℕ → Shown
with_unbound b e vpn =
    record b { binds = unbound b.binds e vpn; tlb = flushed_all (OfPair vpn e ∷ []) b.tlb }

-- a call of the runner that is granted with a value, once this is done
abbrev pub after_grant : Shown → ℕ → ℕ → Deed → Shown
after_grant b e value Answers = after_answer b (Grant value)
after_grant b e value (Own own) = after_answer (after_own_deed b e own) (Grant value)
after_grant b e value Stops = after_stop (after_answer b (Grant value)) e
after_grant b e value (Gives target) = after_gift (after_answer b (Grant value)) e target
after_grant b e value (Allocates page words) = after_answer (with_allocated b e page words) (Grant value)
after_grant b e value (Frees page) = after_answer (with_given_back b e page) (Grant value)
after_grant b e value (Recaps page words) = after_answer (with_broken b page (Owned e words) (Some e)) (Grant value)
after_grant b e value (Binds binding word) = after_answer (with_bound b e binding) (Grant value)
after_grant b e value (Unbinds vpn) = after_answer (with_unbound b e vpn) (Grant value)
after_grant b e value (Transfers target kind) = after_transfer b e value target kind
after_grant b e value (TakesSlot slot) = after_answer (board_with_slot b slot (Some (own_hold e))) (Grant value)
after_grant b e value (DropsSlot slot) =
    after_answer (board_with_slot b slot (dropped e (hold_at b.slots.slots slot))) (Grant value)
after_grant b e value (TakesLine line) = after_answer (board_with_line b line (Some e)) (Grant value)
after_grant b e value (DropsLine line) = after_answer (board_with_line b line None) (Grant value)
after_grant b e value (Claims claim address atoms page) =
    after_answer (with_claimed b e address atoms page) (Grant value)
after_grant b e value (Unclaims claim) = after_answer (with_unclaimed b e claim) (Grant value)
after_grant b e value (Downloads claim address words) =
    after_answer (with_downloaded b e claim address words) (Grant value)
after_grant b e value (Loads page) = after_answer (with_loaded b e page) (Grant value)

-- an environment is asked for a page within two quanta, if nothing is pending for it
abbrev pub with_one_asked : Shown → ℕ → Shown
with_one_asked b who =
    if is_none (pending_at b.revocations who) then after_revocation b who 1 (b.time + 2 * b.slots.quantum) else b

-- a call of the runner on which this is the verdict
abbrev pub after_verdict : Shown → ℕ → Option Call → Verdict → Shown
after_verdict b e call (Refuse why value) = after_answer b (Refuse why value)
after_verdict b e call (Again who) = after_answer (with_one_asked b who) (Again who)
after_verdict b e call (Grant value) = after_grant b e value (deed_of call value b.cpu)

abbrev pub after_decision : Shown → ℕ → Option Call → Shown
after_decision b e call = after_verdict b e call (verdict (world_of b) e call)

-- exit is the runner's death
abbrev pub after_exit_or_call : Shown → ℕ → Bool → Shown
after_exit_or_call b e true = after_death b e (cause.Exit (reg b.cpu 4))
after_exit_or_call b e false = after_decision b e (called b.cpu)

-- the runner stands at a call
abbrev pub after_runner_call : Shown → ℕ → Shown
after_runner_call b e = after_exit_or_call b e (reg b.cpu 2 == exit_number)

-- what the runner's step came to, and its call or death
abbrev pub after_runner_step : Shown → ℕ → Step → Shown
after_runner_step b e (Retired cpu write) = after_machine_step b e (Retired cpu write)
after_runner_step b e Called = after_runner_call b e
after_runner_step b e (Trapped exc) = after_trap b e exc

-- the board at the next time
abbrev pub with_next_time : Shown → Shown
with_next_time b = record b { time = b.time + 1 }

-- the end of a slice is told to the runner
abbrev pub after_end : Shown → ℕ → Shown
after_end b e = record b {
  slots = after_timer b.slots timer.End;
  frames = left_in end_area (end_bytes b.cpu) (page_of (mappings_of b.roster.list e) context_number) b.frames;
  cpu = resumed_cpu (handlers_of b.roster.list e).end b.cpu;
  ledger = with_row b.ledger (row.End b.time b.slots.cursor e);
}

-- a quantum of grace is over, and the runner's excess is this now
abbrev pub over_row : Shown → ℕ → ℕ → Ledger
over_row b e excess = with_row b.ledger (row.Over b.time b.slots.cursor e excess)

-- What the timer brought is settled at once: the ledger tells of a quantum of grace that is over, and the slots of a
-- runner that is to die are released.
abbrev pub slots_settled : ℕ → Slices → Timer → Slices
slots_settled e v timer.Nothing = v
slots_settled e v timer.Stop = v
slots_settled e v timer.End = v
slots_settled e v (timer.Over excess) = v
slots_settled e v timer.Kill = without_env e v

abbrev pub ledger_after_timer : ℕ → ℕ → Slices → Ledger → Timer → Ledger
ledger_after_timer t e v ledger timer.Nothing = ledger
ledger_after_timer t e v ledger timer.Stop = ledger
ledger_after_timer t e v ledger timer.End = ledger
ledger_after_timer t e v ledger (timer.Over excess) = with_row ledger (row.Over t v.cursor e excess)
ledger_after_timer t e v ledger timer.Kill =
    ledger_after_release t e v (with_row ledger (row.Over t v.cursor e (excess_of v.excess e)))

-- a tick of the runner's slice is used
abbrev pub after_use : Shown → ℕ → Timer → Shown
after_use b e answer =
    let v = after_timer b.slots answer in
    record b { slots = slots_settled e v answer; ledger = ledger_after_timer b.time e v b.ledger answer }

-- a runner with too much excess, which is to die
abbrev pub with_overrun : Shown → ℕ → Shown
with_overrun b e =
    let v = after_timer b.slots timer.Kill in record b { slots = v; ledger = over_row b e (excess_of v.excess e) }

-- what the timer brings to the runner
abbrev pub after_timer_by : Shown → ℕ → Timer → Shown
after_timer_by b e timer.Nothing = record b { slots = after_timer b.slots timer.Nothing }
after_timer_by b e timer.Stop = after_stop b e
after_timer_by b e timer.End = after_end b e
after_timer_by b e (timer.Over excess) =
    record b { slots = after_timer b.slots (timer.Over excess); ledger = over_row b e excess }
after_timer_by b e timer.Kill = after_death (with_overrun b e) e cause.Excess

abbrev pub has_end : Shown → ℕ → Bool
has_end b e = not ((handlers_of b.roster.list e).end == 0)

abbrev pub after_count_down : Shown → Option Runner → Shown
after_count_down b None = b
after_count_down b (Some r) = after_timer_by b r.env (timer_answer b.slots (has_end b r.env))

-- the timer
abbrev pub after_timer_phase : Shown → Shown
after_timer_phase b = with_next_time (after_count_down b b.slots.runner)
