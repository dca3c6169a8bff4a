-- What holds of each layout that the first pass makes.
use Rattle.std.specs.Prelude.{◌≡◌, ℕ, ◌+◌, ◌≤◌, true, ◌⊎◌, List, [], ◌∷◌, Option, Some, None}
use Rattle.asm_layout.specs.declared.section.Section.{Section}
use Rattle.asm_layout.specs.declared.section.Section.TheVariants.{Text, Data}
use Rattle.asm_layout.specs.Content.{content_length}
use Rattle.asm_layout.specs.Layout.{Layout, Placed, used_by}
use Rattle.asm_layout.specs.Limits.{section_limit}

-- so many bytes, where they stand in this section
abbrev pub length_in : Section → Section → ℕ → ℕ
length_in Text Text n = n
length_in Text Data n = 0
length_in Data Text n = 0
length_in Data Data n = n

-- how many bytes statements put into a section
abbrev pub total : Section → List Placed → ℕ
total section [] = 0
total section (p ∷ ps) = length_in section p.section (content_length p.content) + total section ps

-- a statement with the label `start` stands at a place
abbrev pub HasStart : ℕ → List Placed → Type 0
HasStart place [] = ⊥
HasStart place (p ∷ ps) = ((p.is_start ≡ true) × (p.place ≡ place)) ⊎ HasStart place ps

-- the label `start` has no address, or that of a statement with the label
abbrev pub StartIn : Option ℕ → List Placed → Type 0
StartIn None ps = Unit {0}
StartIn (Some place) ps = HasStart place ps

-- a section is within its limit, and as long as what its statements put into it
pub record IsLaid (layout : Layout) : Type 0 where
  pub fits : (section : Section) → used_by section layout ≤ section_limit
  pub is : (section : Section) → used_by section layout ≡ total section layout.placed
  pub start_is : StartIn layout.start layout.placed
