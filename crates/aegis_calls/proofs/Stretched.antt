-- A board in the middle of plain ticks.
use Rattle.std.proofs.Common.{◌≡◌, ◌<◌, ℕ, zero, suc, ◌-◌, List, length, length-set, Bool, false, Option, Some, refl, ◌∙◌, arith, rules}
use Rattle.std.specs.Prelude.{◌&&◌, is_none, unwrap_or}
use Rattle.std.specs.Option.{option_map}
use Rattle.mips_exec.specs.Access.{Write}
use Rattle.mips_exec.specs.Step.{write_after}
use Rattle.env_frames.specs.declared.mapping.Mapping.{Mapping}
use Rattle.guest_memory.specs.Look.{frames_after}
use Rattle.guest_memory.specs.Steps.{Machine, after_steps, next_step}
use Rattle.revocation_book.specs.Pending.{earliest_in}
use Rattle.revocation_book.specs.RevocationBook.{RevocationBook, is_any_due, next_deadline}
use Rattle.revocation_book.proofs.Earliest.{due_by_earliest, has_come}
use Rattle.r3k_cp0.specs.Random.{fallen_times}
use Rattle.slot_vector.specs.Slices.{Slices, after_ticks, left_of}
use Rattle.world_model.specs.declared.slot.Runner.{Runner}
use Rattle.world_model.specs.Book.{running}
use Rattle.board_model.specs.Doing.{lookup_of}
use Rattle.board_model.specs.Shown.{Environments, Shown}
use Rattle.board_model.specs.Sound.{IsSoundBoard, SlotsAgree}
use Rattle.board_model.specs.Stretch.{ArePlain, machine_of, stretched}
use Rattle.board_model.proofs.Staying.{sound_frames, sound_machine, sound_slots, sound_tlb}

-- physical memory keeps its size
step_size : (frames : List (List ℕ)) (lookup : ℕ → Option Mapping) (w : Option Write) → length (frames_after frames lookup w) ≡ length frames
step_size frames lookup w = search (rules, length-set)

steps_size : (lookup : ℕ → Option Mapping) (m : Machine) (k : ℕ) → length (after_steps lookup m k).frames ≡ length m.frames
steps_size lookup m zero = refl
steps_size lookup m (suc k) = let n = after_steps lookup m k in step_size n.frames lookup (write_after (next_step lookup n)) ∙ steps_size lookup m k

-- the runner goes on, with so many ticks fewer
abbrev pub passed : ℕ → Option Runner → Option Runner
passed k o = option_map (λ (r : Runner). record r { left = r.left - k }) o

pub runs_on : (k : ℕ) (o : Option Runner) → running (passed k o) ≡ running o
runs_on k o = search rules

pub left_on : (k : ℕ) (o : Option Runner) → left_of (passed k o) ≡ left_of o - k
left_on k o = search rules

passed_manned : (v : Slices) (r : Environments) (k : ℕ) → SlotsAgree v r → k < left_of v.runner → SlotsAgree (after_ticks k v) r
passed_manned v r k manned some = search rules

-- it is sound
pub stretch_sound : (b : Shown) (e k : ℕ) → IsSoundBoard b → k < left_of b.slots.runner → IsSoundBoard (stretched b e k)
stretch_sound b e k sound some =
    sound_machine (sound_slots _ (passed_manned b.slots b.roster k sound.book some) (sound_frames _ (steps_size (lookup_of b e) (machine_of b) k) (sound_tlb (record b.tlb { random = fallen_times b.tlb.random k }) sound.rows sound)))

-- fewer ticks are plain too
pub fewer_plain : (b : Shown) (e k : ℕ) → ArePlain b e (suc k) → ArePlain b e k
fewer_plain b e k plain =
    let left = plain.left in
    let early = plain.early in
    record { retire = record { each = λ i less. plain.retire.each i (omega arith) }; left = omega arith; early = omega arith }

-- before the next deadline none has come
not_come : (t : ℕ) (deadline : Option ℕ) → t < unwrap_or deadline 4294967295 → has_come t deadline ≡ false
not_come t deadline before = search rules

pub none_due : (book : RevocationBook) (t : ℕ) → t < next_deadline book → is_any_due book t ≡ false
none_due book t before = due_by_earliest t book.pending ∙ not_come t (earliest_in book.pending) before

-- where somebody runs the board isn't idle
pub busy : (o : Option Runner) (nobody : Bool) (e : ℕ) → running o ≡ Some e → (is_none o && nobody) ≡ false
busy o nobody e runs = search rules
