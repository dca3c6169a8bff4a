-- Where a verified handler stands: at a word, with a later word next.
use Rattle.std.proofs.Common.{arith, ◌≡◌, ◌<◌, ◌≤◌, ◌+◌, ◌*◌, ◌^◌, ◌⊎◌, inl, inr, ℕ, suc, Bool, true, false, List, length, Some, None, refl, ltb-false, rules}
use Rattle.std.specs.Prelude.{◌&&◌}
use Rattle.std.proofs.lemmas.Bool.{eqb-false, lt-ltb, ltb-true, or_parts}
use Rattle.mips_isa.specs.Word.{sign16_of}
use Rattle.mips_exec.specs.declared.registers.Cpu.{Cpu}
use Rattle.mips_exec.specs.Cpu.{advanced, branch_target, jumped}
use Rattle.handler_rules.specs.Instructions.{branch_offset, is_allowed, is_barred_from_slots, branches}
use Rattle.handler_rules.specs.Laws.{AreGood, FirstBadIsFirst}
use Rattle.handler_rules.specs.Verification.{first_bad, follows_branch, insn_at, is_bad_branch, is_bad_word, most_words}

-- no word is bad
pub record IsVerified (words : List ℕ) : Type 0 where
  pub few : length words ≤ most_words
  pub good : AreGood words (length words)

-- what is next is the word behind it, or the target of a branch that stands before it
abbrev pub IsInOrder : List ℕ → ℕ → ℕ → Type 0
IsInOrder words i j = (j ≡ i + 1) ⊎ ((follows_branch words i ≡ true) × (j ≤ length words))

-- the registers are at word i, and word j is next
pub record IsAt (words : List ℕ) (cpu : Cpu) (i j : ℕ) : Type 0 where
  pub pc : cpu.pc ≡ 4 * i
  pub next : cpu.next ≡ 4 * j
  pub forward : i < j
  pub order : IsInOrder words i j

-- they are at a word behind word i
pub record IsBeyond (words : List ℕ) (cpu : Cpu) (i : ℕ) : Type 0 where
  pub place : ℕ
  pub next : ℕ
  pub at : IsAt words cpu place next
  pub beyond : i < place

-- what is next lies within the words or just behind them
within : (words : List ℕ) (cpu : Cpu) (i j : ℕ) → IsAt words cpu i j → i < length words → j ≤ length words
within words cpu i j is inside = search rules

-- an instruction that doesn't jump
pub advances : (words : List ℕ) (cpu : Cpu) (i j : ℕ) → IsVerified words → IsAt words cpu i j → i < length words → IsBeyond words (advanced cpu) i
advances words cpu i j verified is inside = search (rules, within)

-- ---- good words

-- a word that isn't bad is allowed, may stand where it does, and isn't bad as a branch
pub record IsGood (words : List ℕ) (i : ℕ) : Type 0 where
  pub allowed : is_allowed (insn_at words i) ≡ true
  pub slot : (is_barred_from_slots (insn_at words i) && follows_branch words i) ≡ false
  pub branch : is_bad_branch words i (branch_offset (insn_at words i)) ≡ false

-- so is each word that isn't bad
pub good_word : (words : List ℕ) (i : ℕ) → is_bad_word words i ≡ false → IsGood words i
unfolding is_bad_word
good_word words i good = search (rules, or_parts)

-- a branch that isn't bad has a word behind it, and its target is behind that, and not above the number of words
pub record IsForward (words : List ℕ) (i imm : ℕ) : Type 0 where
  pub slot : i + 1 < length words
  pub ahead : imm < 2 ^ 15
  pub some : 0 < imm
  pub most : i + 1 + imm ≤ length words

-- so is each branch that isn't bad
pub good_branch : (words : List ℕ) (i imm : ℕ) → i < length words → is_bad_branch words i (Some imm) ≡ false → IsForward words i imm
good_branch words i imm inside good = search (rules, or_parts, eqb-false, ltb-false, ltb-true)

-- its offset with a sign is its offset
forward_sign : (imm : ℕ) → imm < 2 ^ 15 → sign16_of imm ≡ imm
forward_sign imm ahead = rw (lt-ltb imm (2 ^ 15) ahead) refl

-- a branch goes to the word behind it, and from there to its target, or to the word behind that
pub jumps : (words : List ℕ) (cpu : Cpu) (i imm : ℕ) (taken : Bool) → IsVerified words → IsAt words cpu i (i + 1) → i < length words
    → IsForward words i imm → branches (insn_at words i) ≡ true → IsBeyond words (jumped cpu (branch_target cpu taken imm)) i
jumps words cpu i imm true verified is inside forward branch =
    let few = verified.few in
    let pc = is.pc in
    let next = is.next in
    let most = forward.most in
    let some = forward.some in
    let sign = forward_sign imm forward.ahead in
    record {
      place = suc i;
      next = i + 1 + imm;
      at = record { pc = omega (arith, next); next = rw sign (omega (arith, pc, few, most)); forward = omega (arith, some); order = inr (branch, most) };
      beyond = omega arith;
    }
jumps words cpu i imm false verified is inside forward branch =
    let few = verified.few in
    let next = is.next in
    let slot = forward.slot in
    record {
      place = suc i;
      next = i + 2;
      at = record { pc = omega (arith, next); next = omega (arith, next, few, slot); forward = omega arith; order = inl (omega arith) };
      beyond = omega arith;
    }

-- ---- the words of a handler

-- words without a first bad one have none
pub is_verified : FirstBadIsFirst → (words : List ℕ) → first_bad words ≡ None → IsVerified words
is_verified law words none = search (rules, ltb-false)
