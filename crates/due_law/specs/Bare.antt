-- An environment that calls for no page, packet or signal, and shares none.
use Rattle.std.specs.Prelude.{◌≡◌, ◌<◌, ℕ, Bool, true, false, ◌==◌, Option, Some}
use Rattle.std.specs.List.{list_any}
use Rattle.mips_exec.specs.declared.registers.Cpu.{Cpu}
use Rattle.mips_exec.specs.Cpu.{reg}
use Rattle.world_model.specs.declared.call.Call.{Call}
use Rattle.world_model.specs.declared.call.Call.TheVariants as call
use Rattle.world_model.specs.Step.{Calls}
use Rattle.run_model.specs.Acting.{Acts}
use Rattle.run_model.specs.Boot.{boot_items, boot_world}
use Rattle.run_model.specs.Run.{System, at_step, feed}
use Rattle.quiet_law.specs.Beginning.{NeverDiffer}
use Rattle.quiet_law.specs.Quiet.{is_asking}
use Rattle.due_law.specs.Due.{AcceptsNobody}
use Rattle.due_law.specs.Private.{IsPrivate, answers_in}

-- Bare calls are all but those for pages, claims, lines and backups, and an accept of somebody. Their answers may
-- depend on others.
abbrev pub is_bare_call : Cpu → Option Call → Bool
is_bare_call cpu (Some call.Alloc) = false
is_bare_call cpu (Some call.Free) = false
is_bare_call cpu (Some call.Recap) = false
is_bare_call cpu (Some call.Bind) = false
is_bare_call cpu (Some call.Claim) = false
is_bare_call cpu (Some call.Line) = false
is_bare_call cpu (Some call.Backup) = false
is_bare_call cpu (Some call.Accept) = reg cpu 4 == 0
is_bare_call cpu call = true

-- In the ticks below t all calls of the environment are bare, and no revocation of the schedule names it; and it
-- accepts nobody at boot.
pub record IsBare (system : System) (e t : ℕ) : Type 0 where
  pub calls : (u : ℕ) (call : Option Call) → u < t → Acts (at_step system u) e (Calls call)
      → is_bare_call ((at_step system u).solos e).cpu call ≡ true
  pub accepts_nobody : ((boot_world system.image).solos e).mask ≡ 0
  pub unasked : (u : ℕ) → u < t → list_any (is_asking e) (system.schedule u) ≡ false

-- So it accepts nobody later either, and is private.
abbrev pub BareIsPrivate : Type 0
BareIsPrivate = (system : System) (e t : ℕ) → IsBare system e t → AcceptsNobody system e t × IsPrivate system e t

-- In two systems in which it is bare, is given the same at boot and has one quantum, its feeds never differ where the
-- answers to its calls don't.
abbrev pub BareIsTold : Type 0
BareIsTold = (left right : System) (e t u : ℕ) → boot_items left.image e ≡ boot_items right.image e
    → left.image.quantum ≡ right.image.quantum → IsBare left e t → IsBare right e u
    → NeverDiffer (answers_in (feed left e t)) (answers_in (feed right e u))
    → NeverDiffer (feed left e t) (feed right e u)
