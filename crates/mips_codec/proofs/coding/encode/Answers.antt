use Rattle.std.proofs.Common.{◌≡◌, ℕ, Option, Some, None, sym, rules}
use Rattle.std.specs.Prelude.{IfSome, IfNone}
use Rattle.std.specs.Option.{SomeIff}
use Rattle.mips_isa.specs.declared.insn.Insn.{Insn}
use Rattle.mips_isa.specs.Encoding.{IsEncodable, Spells, word_of, insn_of}
use Rattle.mips_codec.proofs.Spelling.{insn_of-spelled, spells_insn_of}
use Rattle.mips_codec.proofs.coding.encode.Goals as goal

module _ (insn : Insn) where
  spells : (found : Option ℕ) → SomeIff found (IsEncodable insn) (word_of insn) → IfSome found (λ w. Spells w insn)
  spells found value = search rules

  unspelled : (found : Option ℕ) → SomeIff found (IsEncodable insn) (word_of insn) → IfNone found ((w : ℕ) → ¬ Spells w insn)
  unspelled found value = search rules

  reads_back : (found : Option ℕ) → SomeIff found (IsEncodable insn) (word_of insn) → IfSome found (λ w. insn_of w ≡ insn)
  reads_back (Some w) value = sym (insn_of-spelled w insn value)
  reads_back None value = tt

  -- the word that an instruction is read from is the word found
  inverse : (found : Option ℕ) → SomeIff found (IsEncodable insn) (word_of insn) → (w : ℕ) → Spells w insn → found ≡ Some w
  inverse found value w spelled = search rules

pub returns-clause-spells : goal.returns-clause-spells
returns-clause-spells c = spells _ _ c.word.ensures

pub returns-clause-unspelled : goal.returns-clause-unspelled
returns-clause-unspelled c = unspelled _ _ c.word.ensures

pub returns-clause-reads_back : goal.returns-clause-reads_back
returns-clause-reads_back c = reads_back _ _ c.word.ensures

pub returns-clause-inverse : goal.returns-clause-inverse
returns-clause-inverse c = search (rules, spells_insn_of)
