-- The machine's step over the rows of the TLB's course is that of the environment alone.
use Rattle.std.proofs.Common.{◌≡◌, ◌<◌, ◌+◌, ◌++◌, ◌/◌, ◌%◌, ℕ, List, length, Option, None, Some, refl, sym, ◌∙◌, ap, subst, length-set}
use Rattle.aegis_limits.specs.Limits.{environment_numbers, page_size}
use Rattle.call_verdicts.specs.Granted.{AgainAsks, GrantedMay}
use Rattle.env_frames.specs.declared.mapping.Mapping.{Mapping}
use Rattle.guest_memory.specs.Look.{frames_after, guest_step, look, written_through}
use Rattle.frame_store.specs.Pages.{page_at, with_bytes}
use Rattle.mips_exec.specs.Access.{Write}
use Rattle.mips_exec.specs.declared.registers.Cpu.{Cpu}
use Rattle.mips_exec.specs.Step.{Step, cpu_after, step_of, view_of, write_after}
use Rattle.r3k_tlb.specs.declared.row.Row.{Row}
use Rattle.r3k_machine.specs.declared.machine.Machine.{Machine}
use Rattle.r3k_machine.specs.Memory.{frames_written, row_step}
use Rattle.r3k_machine.specs.System.{MachineStep, machine_step, table_step}
use Rattle.revocation_book.specs.Takings.{TakingsAreTakable}
use Rattle.tlb_model.specs.Cache.{Cache, refilled}
use Rattle.tlb_model.specs.Coherence.{AreCoherent}
use Rattle.tlb_model.specs.Lookups.{data_vpns, fetch_vpns, next_refill, settled}
use Rattle.tlb_laws.specs.Laws.{FindsAreFlat, MissesRefill, TwoRefillsSuffice, vpns_over}
use Rattle.tlb_course.specs.Accesses.{is_kept, mapping_for, step_vpns}
use Rattle.tlb_course.specs.Course.{cache_after, cache_looked, cache_served}
use Rattle.world_model.specs.Page.{answers_by}
use Rattle.world_model.specs.Solo.{Solo, sight}
use Rattle.world_model.specs.Step.{step_alone}
use Rattle.world_model.specs.World.{World}
use Rattle.run_model.specs.Licensed.{GivenIsLicensed}
use Rattle.run_model.specs.Run.{at_step, before_turn, once_happened, world_after}
use Rattle.sharing_law.specs.Kept.{KeptAgree, LeadsAgree}
use Rattle.sharing_law.specs.Versions.{VersionsAgree}
use Rattle.coherence_law.specs.Solo.{IsStepAlone, MachineIsSolo, ShowsSolo, stored_alone, with_rows}
use Rattle.coherence_law.proofs.Leading.{fine, safe}
use Rattle.coherence_law.proofs.Shape.{settled_keeps}
use Rattle.coherence_law.proofs.Storing.{stored_seen}
use Rattle.coherence_law.proofs.Ticking.{IsOnCourse, attempt_rows, early, most_fit, on_course, refill_course}
use Rattle.coherence_law.proofs.Trying.{IsFor, IsMapped, mapped_step, none_left, settled_for, users_step}

through_size : (frames : List (List ℕ)) (write : Write) (o : Option Mapping) → length (written_through frames write o) ≡ length frames
through_size frames write None = refl
through_size frames write (Some m) = length-set frames m.page (with_bytes (page_at frames m.page) (write.address % page_size) write.bytes)

-- there are as many pages after a write
frames_size : (leads : ℕ → Option Mapping) (frames : List (List ℕ)) (o : Option Write) → length (frames_after frames leads o) ≡ length frames
frames_size leads frames None = refl
frames_size leads frames (Some write) = through_size frames write (leads (write.address / page_size))

-- one step, where the machine has its rows
module _ (w : World) (e : ℕ) (frames : List (List ℕ)) (c d : Cache) (n : Machine) (shows : ShowsSolo w.book e (w.solos e) frames) (final : IsFor e (w.solos e).cpu d n)
    (flat : IsMapped (mapping_for w.book e) n.cp0 n.tlb frames (w.solos e).cpu) (course : d.rows ≡ (cache_looked w e c).rows)
    (stored : (vpn : ℕ) → look (frames_after frames (mapping_for w.book e) (write_after (step_alone (w.solos e)))) (mapping_for w.book e) vpn ≡ sight (stored_alone (w.solos e)) vpn)
    (size : length (frames_after frames (mapping_for w.book e) (write_after (step_alone (w.solos e)))) ≡ length frames) where
  abbrev s : Solo
  s = w.solos e

  abbrev leads : ℕ → Option Mapping
  leads = mapping_for w.book e

  guest : guest_step frames leads s.cpu ≡ step_alone s
  guest j = step_of s.cpu (view_of (answers_by (λ v. shows.each v j)) s.cpu)

  whole : machine_step n frames ≡ table_step n frames (step_alone s)
  whole = users_step n frames final.user ∙ ap (table_step n frames) (ap (row_step n.cp0 n.tlb frames) final.cpu_is ∙ flat.step ∙ guest)

  memory_is : (machine_step n frames).frames ≡ frames_after frames leads (write_after (step_alone s))
  memory_is =
      ap (λ (m : MachineStep). m.frames) whole
      ∙ ap (λ (t : Step). frames_written n.cp0 n.tlb frames (write_after t)) (sym guest)
      ∙ flat.memory
      ∙ ap (λ (t : Step). frames_after frames leads (write_after t)) guest

  pub steps_alone : IsStepAlone w e c (machine_step n frames)
  steps_alone = record {
    registers = ap (λ (m : MachineStep). m.machine.cpu) whole ∙ ap (λ (r : Cpu). cpu_after r (step_alone s)) final.cpu_is;
    outcome = ap (λ (m : MachineStep). m.outcome) whole;
    memory = subst (ShowsSolo w.book e (stored_alone s)) (sym memory_is) (record { pages = size ∙ shows.pages; each = stored });
    rows = ap (λ (m : MachineStep). m.machine.tlb) whole ∙ final.rows ∙ course;
  }

module _ (granted : GrantedMay) (again : AgainAsks) (takable : TakingsAreTakable) (licensed : GivenIsLicensed) (maps : KeptAgree) (versions : VersionsAgree) (agree : LeadsAgree)
    (finds : FindsAreFlat) (misses : MissesRefill) (two : TwoRefillsSuffice) where
  pub machine_is_solo : MachineIsSolo
  machine_is_solo system t e m frames accepted has runs shows =
      let w = at_step system t in
      let k = before_turn system t + 1 in
      let s = w.solos e in
      let c = cache_served (once_happened system.schedule (world_after system t)) (cache_after system t) in
      let leads = mapping_for w.book e in
      let small : e < environment_numbers = most_fit system.image.version (length system.image.programs) e accepted.programs_most has in
      let course : IsOnCourse w c = early granted again takable licensed maps versions system accepted t (cache_after system t) (on_course granted again takable licensed maps versions system accepted t) in
      let vpns : vpns_over frames leads s.cpu ≡ step_vpns s = λ j. fetch_vpns s.cpu.pc ++ data_vpns s.cpu (view_of (answers_by (λ v. shows.each v j)) s.cpu).fetch in
      let sound_of : (b : Cache) → IsOnCourse w b → AreCoherent (mapping_for w.book) (length frames) b.rows =
      λ b on. subst (λ (p : ℕ). AreCoherent (mapping_for w.book) p b.rows) (sym shows.pages) on.sound in
      let keeps : (b : Cache) (x : Mapping) → IsOnCourse w b → next_refill leads e (vpns_over frames leads s.cpu) b.rows ≡ Some x → IsOnCourse w (refilled (is_kept w.book e x.vpn) e x b) =
      λ b x on next. refill_course granted again takable licensed maps versions system accepted t k e b x on (ap (λ (vs : List ℕ). next_refill leads e vs b.rows) (sym vpns) ∙ next) in
      let d = settled 2 (is_kept w.book e) leads e (vpns_over frames leads s.cpu) c in
      let n = with_rows 2 leads e frames m in
      let first : IsFor e s.cpu c m = record { cpu_is = runs.cpu; rows = runs.rows; random = runs.random; user = runs.user; pid = runs.pid } in
      let final = settled_for finds misses two w.book e frames s.cpu small (IsOnCourse w) sound_of keeps 2 c m course first in
      let on = settled_keeps (IsOnCourse w) (is_kept w.book e) leads e (vpns_over frames leads s.cpu) keeps 2 c course in
      let flat = mapped_step finds misses two w.book e frames s.cpu small d n (sound_of d on) final (none_left finds misses two w.book e frames s.cpu small c course.shaped) in
      let looked : d.rows ≡ (cache_looked w e c).rows =
      attempt_rows (λ (rows : List Row). d.rows ≡ rows) e (step_alone s) (settled 2 (is_kept w.book e) leads e (step_vpns s) c)
      (ap (λ (vs : List ℕ). (settled 2 (is_kept w.book e) leads e vs c).rows) vpns) in
      let there : (vpn : ℕ) (x : Mapping) → leads vpn ≡ Some x → x.page < length frames =
      λ vpn x is. subst (λ (p : ℕ). x.page < p) (sym shows.pages) (safe granted again takable licensed maps system accepted.room t k e vpn x is).there in
      let stored = stored_seen w e (fine granted again takable licensed maps system accepted.room t k) (maps system t k accepted.room) (λ vpn. agree system t k e vpn accepted.room) frames there shows.each (write_after (step_alone s)) in
      steps_alone w e frames c d n shows final flat looked stored (frames_size leads frames (write_after (step_alone s)))
