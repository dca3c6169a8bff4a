-- Registers are words, at each moment.
use Rattle.std.proofs.Common.{◌≡◌, ◌+◌, ℕ, zero, suc, List, [], ◌∷◌, length, take, drop, Option, Some, None, refl, ◌∙◌, ap, arith, Result, Ok, Err}
use Rattle.std.specs.Prelude.{◌==◌, nat_lt, replicate, slice_get, slice_set}
use Rattle.std.proofs.lemmas.Bool.{cond_both}
use Rattle.std.proofs.lemmas.List.{length-set, length-take}
use Rattle.boot_image.specs.ImageValue.{ImageValue, ProgramValue}
use Rattle.env_frames.specs.Context.{raised_cpu, resumed_cpu, start_area, start_bytes}
use Rattle.env_frames.specs.Post.{most_records, record_bytes, record_offset}
use Rattle.env_frames.specs.Transfer.{carried}
use Rattle.env_frames.specs.declared.post.PostWord.TheVariants as post
use Rattle.feed_log.specs.Views.{AreRegistersFit, AreWords, IsWord}
use Rattle.mips_isa.specs.Encoding.{insn_of}
use Rattle.mips_isa.specs.declared.insn.Insn.{Insn}
use Rattle.mips_exec.specs.Access.{Write, access, write_of}
use Rattle.mips_exec.specs.Cpu.{blank_cpu, going_on_at, jumped, rested, restart_of, with_reg}
use Rattle.mips_exec.specs.Exception.{cause_word_of}
use Rattle.mips_exec.specs.Effect.{changed, effect}
use Rattle.mips_exec.specs.Step.{cpu_after, decoded, ended, executed, view_of}
use Rattle.mips_exec.specs.Word.{low_word}
use Rattle.mips_exec.specs.declared.change.Change.{Change}
use Rattle.mips_exec.specs.declared.change.Change.TheVariants as change
use Rattle.mips_exec.specs.declared.exception.Exc.{Exc}
use Rattle.mips_exec.specs.declared.reach.Access.{Access}
use Rattle.mips_exec.specs.declared.registers.Cpu.{Cpu}
use Rattle.world_model.specs.declared.verdict.Verdict.{Verdict}
use Rattle.world_model.specs.declared.verdict.Verdict.TheVariants.{Refuse, Again, Grant}
use Rattle.world_model.specs.Answer.{verdict_code, verdict_value}
use Rattle.world_model.specs.Item.{Item, Boot, Step, Start, End, Transfer, Killed, Answer, Packet, Taken, absorb, absorb_all, absorbed, answered_cpu, with_answer}
use Rattle.world_model.specs.Page.{answers_by}
use Rattle.world_model.specs.Post.{counted, post_word}
use Rattle.world_model.specs.Repossession.{copied}
use Rattle.world_model.specs.Rings.{Reception, Loses, Queues, Handles, after_packet_in, after_reception, reception, ring_of}
use Rattle.world_model.specs.Solo.{Ring, Solo, absent, is_dead, sight}
use Rattle.world_model.specs.Step.{Act, Nothing, Stores, Calls, Raises, Dies, act_of, acted, step_alone}
use Rattle.world_model.specs.Upcalls.{with_context}
use Rattle.world_model.specs.Verdict.{verdict}
use Rattle.world_model.specs.World.{World}
use Rattle.run_model.specs.Boot.{boot_items, record_items}
use Rattle.run_model.specs.Run.{System, moment}
use Rattle.limits_law.proofs.Solos.{IsPlain, each_solo}

-- 32 registers, HI and LO, each a word
pub record IsCpuFit (cpu : Cpu) : Type 0 where
  pub count : length cpu.regs ≡ 32
  pub regs : AreWords cpu.regs
  pub hi : IsWord cpu.hi
  pub lo : IsWord cpu.lo

low : (n : ℕ) → IsWord (low_word n)
low n = omega arith

set_words : (numbers : List ℕ) (n value : ℕ) → IsWord value → AreWords numbers → AreWords (slice_set numbers n value)
set_words [] n value its words = tt
set_words (x ∷ numbers) zero value its (first, rest) = (its, rest)
set_words (x ∷ numbers) (suc n) value its (first, rest) = (first, set_words numbers n value its rest)

register_fit : (cpu : Cpu) (n value : ℕ) → IsCpuFit cpu → IsCpuFit (with_reg cpu n value)
register_fit cpu n value fit =
    cond_both (n == 0) cpu (record cpu { regs = slice_set cpu.regs n (low_word value) }) IsCpuFit (λ none. fit) (λ some. record {
      count = length-set cpu.regs n (low_word value) ∙ fit.count;
      regs = set_words cpu.regs n (low_word value) (low value) fit.regs;
      hi = fit.hi;
      lo = fit.lo;
    })

changed_fit : (cpu : Cpu) (what : Change) → IsCpuFit cpu → IsCpuFit (changed cpu what)
changed_fit cpu (change.Puts n value) fit = let its = register_fit cpu n value fit in record { count = its.count; regs = its.regs; hi = its.hi; lo = its.lo }
changed_fit cpu (change.PutsHiLo high rest) fit = record { count = fit.count; regs = fit.regs; hi = low high; lo = low rest }
changed_fit cpu change.Passes fit = record { count = fit.count; regs = fit.regs; hi = fit.hi; lo = fit.lo }
changed_fit cpu (change.Jumps target) fit = record { count = fit.count; regs = fit.regs; hi = fit.hi; lo = fit.lo }
changed_fit cpu (change.JumpsAndLinks n target) fit = register_fit (jumped cpu target) n (cpu.pc + 8) (record { count = fit.count; regs = fit.regs; hi = fit.hi; lo = fit.lo })
changed_fit cpu change.Calls fit = fit
changed_fit cpu (change.Raises exc) fit = fit

ended_fit : (cpu : Cpu) (what : Change) (write : Option Write) → IsCpuFit cpu → IsCpuFit (cpu_after cpu (ended cpu what write))
ended_fit cpu change.Calls write fit = fit
ended_fit cpu (change.Raises exc) write fit = fit
ended_fit cpu what write fit = changed_fit cpu what fit

executed_fit : (insn : Insn) (cpu : Cpu) (reach : Option Access) (answer : Result ℕ Exc) → IsCpuFit cpu → IsCpuFit (cpu_after cpu (executed insn cpu reach answer))
executed_fit insn cpu None answer fit = ended_fit cpu (effect insn cpu 0) None fit
executed_fit insn cpu (Some reach) (Ok x) fit = ended_fit cpu (effect insn cpu x) (write_of reach) fit
executed_fit insn cpu (Some reach) (Err exc) fit = fit

decoded_fit : (cpu : Cpu) (fetch answer : Result ℕ Exc) → IsCpuFit cpu → IsCpuFit (cpu_after cpu (decoded cpu fetch answer))
decoded_fit cpu (Ok word) answer fit = executed_fit (insn_of word) cpu (access (insn_of word) cpu) answer fit
decoded_fit cpu (Err exc) answer fit = fit

-- ---- items

abbrev pub HasFit : Solo → Type 0
HasFit s = IsCpuFit s.cpu

going_on : (cpu : Cpu) (address : ℕ) → IsCpuFit cpu → IsCpuFit (going_on_at cpu address)
going_on cpu address fit = record { count = fit.count; regs = fit.regs; hi = fit.hi; lo = fit.lo }

raised_fit : (handler : ℕ) (exc : Exc) (cpu : Cpu) → IsCpuFit cpu → IsCpuFit (raised_cpu handler exc cpu)
raised_fit handler exc cpu fit =
    let caused = with_reg cpu 1 (cause_word_of exc cpu.slot) in
    let placed = with_reg caused 26 (restart_of cpu) in
    going_on (with_reg placed 27 exc.bad) handler (register_fit placed 27 exc.bad (register_fit caused 26 (restart_of cpu) (register_fit cpu 1 (cause_word_of exc cpu.slot) fit)))

resumed_fit : (handler : ℕ) (cpu : Cpu) → IsCpuFit cpu → IsCpuFit (resumed_cpu handler cpu)
resumed_fit handler cpu fit = going_on (with_reg cpu 26 (restart_of cpu)) handler (register_fit cpu 26 (restart_of cpu) fit)

blank_fit : IsCpuFit blank_cpu
blank_fit = record { count = refl; regs = zeros 32; hi = omega arith; lo = omega arith }
  where
    zeros : (n : ℕ) → AreWords (replicate n 0)
    zeros zero = tt
    zeros (suc n) = (omega arith, zeros n)

acted_fit : (act : Act) (s : Solo) → HasFit s → HasFit (acted act s)
acted_fit Nothing s fit = fit
acted_fit (Stores x) s fit = fit
acted_fit (Calls call) s fit = fit
acted_fit (Raises exc) s fit = raised_fit s.handlers.exception exc s.cpu fit
acted_fit (Dies cause) s fit = blank_fit

stepped_fit : (s : Solo) → HasFit s → IsCpuFit (cpu_after s.cpu (step_alone s))
stepped_fit s fit = let view = view_of (answers_by (sight s)) s.cpu in decoded_fit s.cpu view.fetch view.access fit

reception_fit : (r : Ring) (what : Reception) (s : Solo) → HasFit s → HasFit (after_reception r what s)
reception_fit r Loses s fit = fit
reception_fit r (Queues page) s fit = fit
reception_fit r (Handles page replies) s fit = fit

packet_fit : (r : Option Ring) (packet : List ℕ) (s : Solo) → HasFit s → HasFit (after_packet_in r packet s)
packet_fit None packet s fit = fit
packet_fit (Some r) packet s fit = reception_fit r (reception s r packet) s fit

copied_fit : (page : ℕ) (backup : Option ℕ) (s : Solo) → HasFit s → HasFit (copied page backup s)
copied_fit page None s fit = fit
copied_fit page (Some backup) s fit = fit

item_fit : (s : Solo) (item : Item) → IsPlain AreRegistersFit item → HasFit s → HasFit (absorbed s item)
item_fit s (Boot version number name entry accept kept) plain fit = absurd plain
item_fit s Step plain fit = acted_fit (act_of s (step_alone s)) (record s { cpu = cpu_after s.cpu (step_alone s) }) (stepped_fit s fit)
item_fit s Start plain fit =
    cond_both (s.handlers.start == 0) (record s { cpu = rested s.cpu }) (record (with_context start_area (start_bytes s.cpu) s) { cpu = resumed_cpu s.handlers.start s.cpu }) HasFit
    (λ none. going_on s.cpu (restart_of s.cpu) fit) (λ handled. resumed_fit s.handlers.start s.cpu fit)
item_fit s End plain fit = resumed_fit s.handlers.end s.cpu fit
item_fit s (Transfer from kind registers) plain fit = record { count = ap suc plain.count; regs = (omega arith, plain.regs); hi = plain.hi; lo = plain.lo }
item_fit s Killed plain fit = blank_fit
item_fit s (Answer verdict) plain fit = absurd plain
item_fit s (Packet claim packet) plain fit = packet_fit (ring_of s.rings claim) packet (counted post.Packets s) fit
item_fit s (Taken page backup) plain fit =
    let v = copied page backup s in
    let n = post_word post.Takings v in
    cond_both (nat_lt n most_records) (with_context (record_offset n) (record_bytes page backup) v) v HasFit (λ room. copied_fit page backup s fit) (λ none. copied_fit page backup s fit)
item_fit s item plain fit = fit

plain_fit : (s : Solo) (item : Item) → IsPlain AreRegistersFit item → HasFit s → HasFit (absorb s item)
plain_fit s item plain fit = cond_both (is_dead s.life) s (absorbed s item) HasFit (λ gone. fit) (λ lives. item_fit s item plain fit)

answered_fit : (v : Verdict) (s : Solo) → HasFit s → HasFit (with_answer v s)
answered_fit v s fit = by_verdict v its
  where
    cpu : Cpu
    cpu = with_reg (with_reg s.cpu 2 (verdict_code v)) 3 (verdict_value v)

    answered : IsCpuFit (with_reg (with_reg s.cpu 2 (verdict_code v)) 3 (verdict_value v))
    answered = register_fit (with_reg s.cpu 2 (verdict_code v)) 3 (verdict_value v) (register_fit s.cpu 2 (verdict_code v) fit)

    its : IsCpuFit (answered_cpu v s.cpu)
    its = record { count = answered.count; regs = answered.regs; hi = answered.hi; lo = answered.lo }

    by_verdict : (v : Verdict) → IsCpuFit (answered_cpu v s.cpu) → HasFit (with_answer v s)
    by_verdict (Refuse code value) its = its
    by_verdict (Again who) its = its
    by_verdict (Grant value) its = its

taken_words : (n : ℕ) (numbers : List ℕ) → AreWords numbers → AreWords (take n numbers)
taken_words zero numbers words = tt
taken_words (suc n) [] words = tt
taken_words (suc n) (x ∷ numbers) (first, rest) = (first, taken_words n numbers rest)

-- so what a transfer carries is fit
pub carried_fit : (s : Solo) → HasFit s → AreRegistersFit (carried s.cpu)
carried_fit s fit = by_regs s.cpu.regs fit.count fit.regs
  where
    by_regs : (regs : List ℕ) → length regs ≡ 32 → AreWords regs → AreRegistersFit (record { regs = take 31 (drop 1 regs); hi = s.cpu.hi; lo = s.cpu.lo })
    by_regs [] count words = cc
    by_regs (x ∷ regs) count (first, rest) = record {
      count = omega (arith, length-take 31 regs, count);
      regs = taken_words 31 regs rest;
      hi = fit.hi;
      lo = fit.lo;
    }

boot_fit : (image : ImageValue) (e : ℕ) → HasFit (absorb_all (absent e) (boot_items image e))
boot_fit image e = by_program (slice_get image.programs e)
  where
    by_program : (o : Option ProgramValue) → HasFit (absorb_all (absent e) (record_items image.version e o))
    by_program None = blank_fit
    by_program (Some p) = let its = register_fit blank_cpu 29 0x7FFEFFF0 blank_fit in record { count = its.count; regs = its.regs; hi = its.hi; lo = its.lo }

abbrev AnyWorld : World → Type 0
AnyWorld w = Unit {0}

pub registers_fit : (system : System) (t k e : ℕ) → HasFit ((moment system t k).solos e)
registers_fit system t k e =
    each_solo HasFit AreRegistersFit carried_fit plain_fit AnyWorld (λ w i c acts so fit. answered_fit (verdict w i c) (w.solos i) fit) system (boot_fit system.image) (λ u j. tt) t k e
