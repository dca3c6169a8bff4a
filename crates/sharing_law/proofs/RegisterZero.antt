-- Register 0 stays 0, whatever an environment is given: no item writes it.
use Rattle.std.proofs.Common.{◌≡◌, ◌+◌, ℕ, zero, suc, List, [], ◌∷◌, Option, Some, None, Result, Ok, Err, refl, sym, subst}
use Rattle.std.specs.Prelude.{◌==◌, nat_lt, slice_get, slice_set}
use Rattle.std.proofs.Math.Dec.{eqb-suc-zero}
use Rattle.mips_isa.specs.Encoding.{insn_of}
use Rattle.mips_isa.specs.declared.insn.Insn.{Insn}
use Rattle.mips_exec.specs.declared.change.Change.{Change}
use Rattle.mips_exec.specs.declared.change.Change.TheVariants as change
use Rattle.mips_exec.specs.declared.exception.Exc.{Exc}
use Rattle.mips_exec.specs.declared.reach.Access.{Access}
use Rattle.mips_exec.specs.declared.registers.Cpu.{Cpu}
use Rattle.mips_exec.specs.Access.{Write, access, write_of}
use Rattle.mips_exec.specs.Cpu.{blank_cpu, jumped, rested, restart_of, with_reg}
use Rattle.mips_exec.specs.Effect.{changed, effect}
use Rattle.mips_exec.specs.Exception.{cause_word_of}
use Rattle.mips_exec.specs.Step.{cpu_after, decoded, ended, executed, view_of}
use Rattle.mips_exec.specs.Word.{low_word}
use Rattle.env_frames.specs.Context.{raised_cpu, resumed_cpu, start_area, start_bytes}
use Rattle.env_frames.specs.Post.{most_records, record_bytes, record_offset}
use Rattle.env_frames.specs.declared.post.PostWord.TheVariants as post
use Rattle.world_model.specs.declared.verdict.Verdict.{Verdict}
use Rattle.world_model.specs.declared.verdict.Verdict.TheVariants.{Refuse, Again, Grant}
use Rattle.world_model.specs.Answer.{verdict_code, verdict_value}
use Rattle.world_model.specs.Item.{Item, Boot, Step, Start, End, Transfer, Killed, Answer, Packet, Taken, absorb, absorb_all, absorbed, answered_cpu}
use Rattle.world_model.specs.Page.{answers_by}
use Rattle.world_model.specs.Post.{counted, post_word}
use Rattle.world_model.specs.Repossession.{copied}
use Rattle.world_model.specs.Rings.{Reception, Loses, Queues, Handles, after_packet_in, after_reception, reception, ring_of}
use Rattle.world_model.specs.Solo.{Solo, Ring, absent, sight}
use Rattle.world_model.specs.Step.{Act, Nothing, Stores, Calls, Raises, Dies, act_of, acted, step_alone}
use Rattle.world_model.specs.Upcalls.{with_context}
use Rattle.run_model.specs.Boot.{record_items}
use Rattle.run_model.specs.Run.{given_at, moment}
use Rattle.sharing_law.specs.Registers.{HasZero, RegisterZeroStays}
use Rattle.sharing_law.proofs.Choices.{either}
use Rattle.sharing_law.proofs.Given.{absorb_or}
use Rattle.sharing_law.proofs.Later.{next_solo}
use Rattle.sharing_law.proofs.Moments.{each_moment}

-- ---- registers: what is written to register 0 is dropped

written_zero : (regs : List ℕ) (n value : ℕ) → slice_get regs 0 ≡ Some 0 → slice_get (slice_set regs (suc n) value) 0 ≡ Some 0
written_zero [] n value has = has
written_zero (r ∷ regs) n value has = has

register_zero : (cpu : Cpu) (n value : ℕ) → HasZero cpu → HasZero (with_reg cpu n value)
register_zero cpu zero value has = has
register_zero cpu (suc n) value has = rw (eqb-suc-zero n) (written_zero cpu.regs n (low_word value) has)

changed_zero : (cpu : Cpu) (what : Change) → HasZero cpu → HasZero (changed cpu what)
changed_zero cpu (change.Puts n value) has = register_zero cpu n value has
changed_zero cpu (change.JumpsAndLinks n target) has = register_zero (jumped cpu target) n (cpu.pc + 8) has
changed_zero cpu what has = has

ended_zero : (cpu : Cpu) (what : Change) (write : Option Write) → HasZero cpu → HasZero (cpu_after cpu (ended cpu what write))
ended_zero cpu change.Calls write has = has
ended_zero cpu (change.Raises exc) write has = has
ended_zero cpu what write has = changed_zero cpu what has

executed_zero : (insn : Insn) (cpu : Cpu) (reach : Option Access) (answer : Result ℕ Exc) → HasZero cpu → HasZero (cpu_after cpu (executed insn cpu reach answer))
executed_zero insn cpu None answer has = ended_zero cpu (effect insn cpu 0) None has
executed_zero insn cpu (Some reach) (Ok x) has = ended_zero cpu (effect insn cpu x) (write_of reach) has
executed_zero insn cpu (Some reach) (Err exc) has = has

decoded_zero : (cpu : Cpu) (fetch answer : Result ℕ Exc) → HasZero cpu → HasZero (cpu_after cpu (decoded cpu fetch answer))
decoded_zero cpu (Ok word) answer has = executed_zero (insn_of word) cpu (access (insn_of word) cpu) answer has
decoded_zero cpu (Err exc) answer has = has

raised_zero : (handler : ℕ) (exc : Exc) (cpu : Cpu) → HasZero cpu → HasZero (raised_cpu handler exc cpu)
raised_zero handler exc cpu has =
    let caused = with_reg cpu 1 (cause_word_of exc cpu.slot) in
    let placed = with_reg caused 26 (restart_of cpu) in
    register_zero placed 27 exc.bad (register_zero caused 26 (restart_of cpu) (register_zero cpu 1 (cause_word_of exc cpu.slot) has))

resumed_zero : (handler : ℕ) (cpu : Cpu) → HasZero cpu → HasZero (resumed_cpu handler cpu)
resumed_zero handler cpu has = register_zero cpu 26 (restart_of cpu) has

answered_zero : (verdict : Verdict) (cpu : Cpu) → HasZero cpu → HasZero (answered_cpu verdict cpu)
answered_zero verdict cpu has = register_zero (with_reg cpu 2 (verdict_code verdict)) 3 (verdict_value verdict) (register_zero cpu 2 (verdict_code verdict) has)

-- ---- items

abbrev Zero : Solo → Type 0
Zero s = HasZero s.cpu

acted_zero : (act : Act) (s : Solo) → Zero s → Zero (acted act s)
acted_zero Nothing s has = has
acted_zero (Stores x) s has = has
acted_zero (Calls call) s has = has
acted_zero (Raises exc) s has = raised_zero s.handlers.exception exc s.cpu has
acted_zero (Dies cause) s has = refl

stepped_zero : (s : Solo) → Zero s → HasZero (cpu_after s.cpu (step_alone s))
stepped_zero s has =
    let view = view_of (answers_by (sight s)) s.cpu in
    decoded_zero s.cpu view.fetch view.access has

reception_zero : (r : Ring) (what : Reception) (s : Solo) → Zero s → Zero (after_reception r what s)
reception_zero r Loses s has = has
reception_zero r (Queues page) s has = has
reception_zero r (Handles page replies) s has = has

packet_zero : (r : Option Ring) (packet : List ℕ) (s : Solo) → Zero s → Zero (after_packet_in r packet s)
packet_zero None packet s has = has
packet_zero (Some r) packet s has = reception_zero r (reception s r packet) s has

copied_zero : (page : ℕ) (backup : Option ℕ) (s : Solo) → Zero s → Zero (copied page backup s)
copied_zero page None s has = has
copied_zero page (Some backup) s has = has

item_zero : (s : Solo) (item : Item) → Zero s → Zero (absorbed s item)
item_zero s (Boot version number name entry accept kept) has = register_zero blank_cpu 29 0x7FFEFFF0 refl
item_zero s Step has = acted_zero (act_of s (step_alone s)) (record s { cpu = cpu_after s.cpu (step_alone s) }) (stepped_zero s has)
item_zero s Start has =
    either Zero (s.handlers.start == 0) (record s { cpu = rested s.cpu }) (record (with_context start_area (start_bytes s.cpu) s) { cpu = resumed_cpu s.handlers.start s.cpu }) has
    (resumed_zero s.handlers.start s.cpu has)
item_zero s End has = resumed_zero s.handlers.end s.cpu has
item_zero s (Transfer from kind registers) has = refl
item_zero s Killed has = refl
item_zero s (Answer (Refuse code value)) has = answered_zero (Refuse code value) s.cpu has
item_zero s (Answer (Again who)) has = answered_zero (Again who) s.cpu has
item_zero s (Answer (Grant value)) has = answered_zero (Grant value) s.cpu has
item_zero s (Packet claim packet) has = packet_zero (ring_of s.rings claim) packet (counted post.Packets s) has
item_zero s (Taken page backup) has =
    let v = copied page backup s in
    let n = post_word post.Takings v in
    either Zero (nat_lt n most_records) (with_context (record_offset n) (record_bytes page backup) v) v (copied_zero page backup s has) (copied_zero page backup s has)
item_zero s item has = has

all_zero : (items : List Item) (s : Solo) → Zero s → Zero (absorb_all s items)
all_zero [] s has = has
all_zero (item ∷ items) s has = all_zero items (absorb s item) (absorb_or Zero s item has (item_zero s item has))

pub register_zero_stays : RegisterZeroStays
register_zero_stays system t k e =
    each_moment (λ w. Zero (w.solos e)) system
    (λ t k was. subst Zero (sym (next_solo system t k e)) (all_zero (given_at system t k e) ((moment system t k).solos e) was))
    (all_zero (record_items system.image.version e (slice_get system.image.programs e)) (absent e) refl) t k
