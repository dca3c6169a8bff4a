-- What the program holds, as plain data.
use Rattle.mips_asm.specs.Second as seconds
use Rattle.mips_asm.specs.declared.second.Sections.{Sections}

abbrev pub sections_seen : Sections → seconds.Sections
sections_seen s = record { text = s.text.items; data_bytes = s.data_bytes.items }
