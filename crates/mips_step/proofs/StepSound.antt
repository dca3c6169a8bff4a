-- Words stay words, and what a step writes is a write.
use Rattle.std.proofs.Common.{◌≡◌, ℕ, Option, Some, None, Bool, Ok, Err, Result, ◌<◌, ◌≤◌, ◌^◌, arith, if◌then◌else◌, rules}
use Rattle.std.specs.Prelude.{IfSome}
use Rattle.std.proofs.lemmas.List.{length-set, length-take-le}
use Rattle.mips_isa.specs.Encoding.{insn_of}
use Rattle.mips_isa.specs.declared.insn.Insn.{Insn}
use Rattle.mips_isa.specs.declared.insn.Insn.TheVariants.{Reserved}
use Rattle.mips_exec.specs.declared.registers.Cpu.{Cpu}
use Rattle.mips_exec.specs.declared.exception.Exc.{Exc}
use Rattle.mips_exec.specs.declared.reach.Spot.{Spot}
use Rattle.mips_exec.specs.declared.reach.Access.{Access}
use Rattle.mips_exec.specs.declared.reach.Access.TheVariants.{Load, Store}
use Rattle.mips_exec.specs.Access.{access, Write, IsSpot, is_aligned, place_of}
use Rattle.mips_exec.specs.declared.exception.ExcCode.TheVariants.{Ades}
use Rattle.mips_exec.specs.Exception.{plain}
use Rattle.mips_exec.specs.Word.{low_word}
use Rattle.mips_exec.specs.declared.change.Change.{Change}
use Rattle.mips_exec.specs.Step.{Answers, answered_if, access_after, without_value, ended, executed, decoded, write_after, cpu_after}
use Rattle.mips_exec.specs.Kept.{HasWords, IsWrite, StepsAreSound}

-- ---- words

word : (n : ℕ) → low_word n < 2 ^ 32
word n = omega arith

words-decoded : (c : Cpu) (f r : Result ℕ Exc) → HasWords c → HasWords (cpu_after c (decoded c f r))
words-decoded c f r h = search (rules, length-set, word)

-- ---- writes

-- a store has 1 to 4 bytes, which lie in one word where they are aligned
record IsStore (spot : Spot) : Type 0 where
  sized : IsSpot spot
  most : spot.width ≤ 4
  in_range : spot.address < 2 ^ 32

abbrev StoreFits : Access → Type 0
StoreFits (Load spot) = Unit {0}
StoreFits (Store spot value) = IsStore spot

StoreFits-access : (i : Insn) (c : Cpu) → IfSome (access i c) StoreFits
unfolding access
StoreFits-access (Reserved w) c = tt
StoreFits-access _ c = search arith

-- what a step writes that has nothing to write
nothing : (c : Cpu) (e : Change) (w : Write) → write_after (ended c e None) ≡ Some w → ⊥
nothing c e w h = search rules

writes-store : (answers : Answers) (i : Insn) (c : Cpu) (spot : Spot) (v : ℕ) (w : Write) → IsStore spot
    → (b : Bool) → is_aligned spot ≡ b → (r : Result (Unit {0}) Exc) → answers.store (place_of spot) spot.width ≡ r
    → write_after (executed i c (Some (Store spot v)) (if b then without_value r else Err (plain Ades))) ≡ Some w → IsWrite answers w
writes-store answers i c spot v w h b aligned r ok e = search (rules, length-take-le)

writes-load : (i : Insn) (c : Cpu) (spot : Spot) (w : Write) (r : Result ℕ Exc)
    → write_after (executed i c (Some (Load spot)) r) ≡ Some w → ⊥
writes-load i c spot w r e = search (rules, nothing)

writes-executed : (answers : Answers) (i : Insn) (c : Cpu) (o : Option Access) (w : Write) → IfSome o StoreFits
    → write_after (executed i c o (answered_if answers o)) ≡ Some w → IsWrite answers w
writes-executed answers i c o w h e = search (rules, nothing, writes-load, writes-store)

writes-decoded : (answers : Answers) (c : Cpu) (f : Result ℕ Exc) (w : Write)
    → write_after (decoded c f (access_after answers c f)) ≡ Some w → IsWrite answers w
writes-decoded answers c (Ok x) w e =
    writes-executed answers (insn_of x) c (access (insn_of x) c) w (StoreFits-access (insn_of x) c) e
writes-decoded answers c (Err exc) w e = cc

pub all_sound : StepsAreSound
all_sound answers c = search (rules, words-decoded, writes-decoded)
