-- What the readers of lines answer.
use Rattle.boot_schedule.specs.declared.statement.Parts.{Parts}
use Rattle.boot_schedule.specs.declared.statement.Parts.TheVariants as parts
use Rattle.boot_schedule.specs.Forms.{EventWords, PacketWords, LineWords, RevokeWords}

abbrev pub parts_seen : Parts → EventWords
parts_seen (parts.Packet time bytes) = PacketWords time.now bytes.now
parts_seen (parts.Line time number) = LineWords time.now number.now
parts_seen (parts.Revoke time env count grace) = RevokeWords time.now env.now count.now grace.now
