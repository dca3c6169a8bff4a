-- What is printed of each cause.
use Rattle.std.specs.Prelude.{ℕ, List, codes}
use Rattle.elf_static.specs.ElfNames.{elf_why_text}
use Rattle.boot_image.specs.declared.fault.ImageWhy.{ImageWhy}
use Rattle.boot_image.specs.declared.fault.ImageWhy.TheVariants.{Short, Magic, Pages, Quantum, Envs, Slots, SlotOwner, Name, Kind, Stack, Base, Empty, Elf, Trailing, TooMany, TooBig}

-- the printed name of a cause of an image
abbrev pub image_why_text : ImageWhy → List ℕ
image_why_text Short = codes "Short"
image_why_text Magic = codes "Magic"
image_why_text Pages = codes "Pages"
image_why_text Quantum = codes "Quantum"
image_why_text Envs = codes "Envs"
image_why_text Slots = codes "Slots"
image_why_text SlotOwner = codes "SlotOwner"
image_why_text Name = codes "Name"
image_why_text Kind = codes "Kind"
image_why_text Stack = codes "Stack"
image_why_text Base = codes "Base"
image_why_text Empty = codes "Empty"
image_why_text (Elf why) = elf_why_text why
image_why_text Trailing = codes "Trailing"
image_why_text TooMany = codes "TooMany"
image_why_text TooBig = codes "TooBig"
