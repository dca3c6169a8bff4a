-- A board without programs.
use Rattle.std.proofs.Common.{arith, rules}
use Rattle.std.proofs.lemmas.List.{length-replicate}
use Rattle.mips_exec.specs.Cpu.{blank_cpu}
use Rattle.board_model.proofs.Building.{built_free, built_sound, built_world}
use Rattle.aegis_calls.proofs.board.Board.build.Goals as goal

pub invariant_of-result : goal.invariant_of-result
invariant_of-result c =
    rw (c.in_ok-frames.ensures.0, c.in_ok-frames.ensures.1, c.in_ok-frames.ensures.2, c.in_ok-claims.ensures, c.new-3.ensures, c.new-4.ensures, c.new-5.ensures, c.new-6.ensures, c.new-7.ensures, c.none.ensures, c.in_ok-roster.ensures)
    (built_sound c.args.version c.args.pages c.args.quantum c.args.envs c.args.slots.now _ _ c.requires.pages.1 c.requires.quantum.0 c.requires.slots.1
    (let few = (c.law_versions_are_within.ensures c.args.version).environments in omega (arith, few, c.requires.envs)) c.requires.owners)

pub returns-clause-world : goal.returns-clause-world
returns-clause-world c =
    rw (c.in_ok-frames.ensures.0, c.in_ok-frames.ensures.1, c.in_ok-frames.ensures.2, c.in_ok-claims.ensures, c.new-3.ensures, c.new-4.ensures, c.new-5.ensures, c.new-6.ensures, c.new-7.ensures, c.none.ensures, c.in_ok-roster.ensures)
    (built_world c.args.version c.args.pages c.args.quantum c.args.envs c.args.slots.now blank_cpu c.in_ok-journal.journal c.in_ok-journal.ensures)

pub returns-clause-bare : goal.returns-clause-bare
returns-clause-bare c = search (rules, length-replicate, built_free)
