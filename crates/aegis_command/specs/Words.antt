-- The words of the command line.
use Rattle.std.specs.Prelude.{ℕ, List, [], ◌∷◌, Option, None, String, if◌then◌else◌, codes, map, string_bytes}
use Rattle.std.specs.Global.{Global}
use Rattle.std.specs.Str.{bytes_eq}
use Rattle.commands.specs.Asm.{asm}
use Rattle.commands.specs.Command.{CommandValue, of_one_name}
use Rattle.commands.specs.ListElf.{list_elf}
use Rattle.commands.specs.MakeImage.{make_image}
use Rattle.aegis_command.specs.declared.words.Words.{Words}
use Rattle.aegis_command.specs.declared.words.Words.TheVariants.{RunImage, Asm, ListElf, MakeImage, LoadSeed, AuditLedger, TraceEnv, RunBare, WireMachines, TlbImage, TwinSystems, LongRun, CoreEnv}
use Rattle.aegis_command.specs.AuditLedger.{audit_seen, audit_words}
use Rattle.aegis_command.specs.CoreEnv.{core_seen, core_words}
use Rattle.aegis_command.specs.LoadSeed.{load_seed, load_words}
use Rattle.aegis_command.specs.LongRun.{long_words, long_writing}
use Rattle.aegis_command.specs.RunBare.{bare_seen, bare_words}
use Rattle.aegis_command.specs.RunImage.{report_writing, run_words}
use Rattle.aegis_command.specs.SystemCommand.{system_seen}
use Rattle.aegis_command.specs.TlbImage.{report_and_tlb_writing, tlb_words}
use Rattle.aegis_command.specs.TraceEnv.{trace_words, trace_writing}
use Rattle.aegis_command.specs.TwinSystems.{twin_seen, twin_words}
use Rattle.aegis_command.specs.WireCommand.{wire_seen}
use Rattle.aegis_command.specs.WireMachines.{wire_words}

-- the command of these words, if they are one's: its own word first, and then those that it asks for
abbrev pub command_of : List (List ℕ) → Option CommandValue
command_of [] = None
command_of (word ∷ words) =
    if bytes_eq word (codes "run") then run_words words else
    if bytes_eq word (codes "asm") then of_one_name asm words else
    if bytes_eq word (codes "list") then of_one_name list_elf words else
    if bytes_eq word (codes "image") then of_one_name make_image words else
    if bytes_eq word (codes "load") then load_words words else
    if bytes_eq word (codes "audit") then audit_words words else
    if bytes_eq word (codes "trace") then trace_words words else
    if bytes_eq word (codes "bare") then bare_words words else
    if bytes_eq word (codes "wire") then wire_words words else
    if bytes_eq word (codes "tlb") then tlb_words words else
    if bytes_eq word (codes "twin") then twin_words words else
    if bytes_eq word (codes "long") then long_words words else
    if bytes_eq word (codes "core") then core_words words else None

-- the words as texts
abbrev pub texts_of : List (String Global) → List (List ℕ)
texts_of words = map string_bytes words

-- the command of the words after the program's name, if they are one's
abbrev pub asked_by : List (String Global) → Option CommandValue
asked_by words = command_of (texts_of words)

-- the command of the words that were taken apart
abbrev pub command_seen : Words → CommandValue
command_seen (RunImage c) = system_seen report_writing c
command_seen (Asm c) = asm c.source.now
command_seen (ListElf c) = list_elf c.elf.now
command_seen (MakeImage c) = make_image c.manifest.now
command_seen (LoadSeed c) = load_seed c.seed
command_seen (AuditLedger c) = audit_seen c
command_seen (TraceEnv c) = system_seen trace_writing c
command_seen (RunBare c) = bare_seen c
command_seen (WireMachines c) = wire_seen c
command_seen (TlbImage c) = system_seen report_and_tlb_writing c
command_seen (TwinSystems c) = twin_seen c
command_seen (LongRun c) = system_seen long_writing c
command_seen (CoreEnv c) = core_seen c
