-- Each word spells what it is read as and nothing else, and no two words spell one instruction.
use Rattle.std.proofs.Common.{◌≡◌, ℕ, ◌⊎◌, inl, inr, refl, sym, ◌∙◌, subst, rules}
use Rattle.mips_isa.specs.declared.insn.Insn.{Insn}
use Rattle.mips_isa.specs.declared.insn.Insn.TheVariants.{Reserved}
use Rattle.mips_isa.specs.Encoding.{form_of, IsRow, Spells, insn_of}
use Rattle.mips_codec.proofs.RowsRead.{insn_of-row}
use Rattle.mips_codec.proofs.RowsFound.{IsFound, insn_of-found}

-- a word that is read as itself has no row
no_row : (w : ℕ) → insn_of w ≡ Reserved w → (insn : Insn) → ¬ IsRow w insn
unfolding form_of
no_row w is insn has = let itself : IsRow w (Reserved w) = subst (IsRow w) (sym (insn_of-row w insn has) ∙ is) has in itself.0

spells_row : (w : ℕ) (insn : Insn) → IsRow w insn → Spells w insn
unfolding form_of
spells_row w insn has = search rules

spells_found : (w : ℕ) → IsFound w (insn_of w) → Spells w (insn_of w)
unfolding form_of
spells_found w (inl has) = spells_row w (insn_of w) has
spells_found w (inr is) =
    let itself : Spells w (Reserved w) = (no_row w is, refl) in
    subst (Spells w) (sym is) itself

pub spells_insn_of : (w : ℕ) → Spells w (insn_of w)
spells_insn_of w = spells_found w (insn_of-found w)

-- what a word spells is a row that it has, or itself
row_spelled : (w : ℕ) (insn : Insn) → Spells w insn → IsRow w insn ⊎ ((insn ≡ Reserved w) × ((other : Insn) → ¬ IsRow w other))
unfolding form_of
row_spelled w insn spells = search rules

pub insn_of-spelled : (w : ℕ) (insn : Insn) → Spells w insn → insn ≡ insn_of w
insn_of-spelled w insn spells =
    elim (row_spelled w insn spells) [
      | inl has ↦ sym (insn_of-row w insn has)
      | inr (is, none) ↦ elim (insn_of-found w) [
        | inl has ↦ absurd (none (insn_of w) has)
        | inr read ↦ is ∙ sym read
      ]
    ]
