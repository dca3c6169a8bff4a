-- Plain ticks over the rows of the TLB.
use Rattle.std.proofs.Common.{rules, ◌≡◌, ◌<◌, ◌-◌, ℕ, ap, ◌∙◌, refl, sym, subst, true, arith, Option, None, Some}
use Rattle.std.specs.Prelude.{◌≤◌, nat_lt, if◌then◌else◌, IfSome, IsSome}
use Rattle.mips_exec.specs.Step.{outcome_of}
use Rattle.mips_step.specs.WordStep.{has_retired}
use Rattle.r3k_cp0.specs.Registers.{current_pid, is_user}
use Rattle.r3k_machine.specs.Memory.{row_step}
use Rattle.revocation_book.specs.RevocationBook.{next_deadline}
use Rattle.r3k_cp0.specs.declared.registers.Cp0.{Cp0}
use Rattle.r3k_cp0.specs.Random.{fallen_times}
use Rattle.r3k_machine.specs.declared.entry.Entry.{Entry}
use Rattle.r3k_machine.specs.declared.machine.Machine.{Machine}
use Rattle.r3k_machine.specs.declared.entry.Entry.TheVariants.{Break, Call}
use Rattle.r3k_machine.specs.Entry.{came_by, entry_in}
use Rattle.r3k_machine.specs.Machine.{end_of, user_step}
use Rattle.r3k_machine.specs.Steps.{Running, after_row_steps}
use Rattle.slot_vector.specs.Slices.{left_of}
use Rattle.tlb_laws.specs.Laws.{RunIsFlat}
use Rattle.board_model.specs.Shown.{Shown}
use Rattle.board_model.specs.Doing.{lookup_of}
use Rattle.board_model.specs.Stretch.{ArePlain, stretched}
use Rattle.aegis_limits.specs.Limits.{environment_numbers}
use Rattle.aegis_calls.specs.Cached.{FindRows, IsOfMiss, IsStuck}
use Rattle.aegis_calls.specs.Entering.{Tells}
use Rattle.aegis_calls.proofs.Attempts.{comes_behind, run_found, run_made, stands_behind, stuck_behind, wants_behind}
use Rattle.aegis_calls.proofs.Runner.{runner_live, seen}
use Rattle.aegis_calls.proofs.board.Board.run_found.Goals as goal

small : (c : goal.After-pass-2) → c.args.env < environment_numbers
small c = omega (arith, (runner_live c.self.view_is c.self.invariant c.requires.runs).0, c.self.invariant.few)

flat : (c : goal.After-pass-2) → RunIsFlat (lookup_of (seen c.self.view_is) c.args.env) c.set_user.new.self.cp0 c.self.inside.machine.tlb c.self.inside.frames c.self.inside.machine.cpu c.run-steps.result.made
flat c =
    run_made (seen c.self.view_is) c.args.env c.self.inside.machine c.set_user.new.self c.run-steps.result.made refl refl c.self.invariant (small c)
    c.set_user.ensures.machine c.set_user.ensures.user c.set_user.ensures.pid c.run-steps.ensures.retire

left : (c : goal.After-pass-2) → c.run-steps.result.made < left_of c.self.inside.slots.runner
left c =
    let same : left_of c.self.inside.slots.runner ≡ left_of c.args.self.now.slots.runner = ap (λ (s : Shown). left_of s.slots.runner) c.self.view_is in
    omega (arith, c.run-steps.ensures.most, c.requires.left, same)

-- registers and memory are those behind the ticks
ran : (c : goal.After-pass-2) → (let v = stretched (seen c.self.view_is) c.args.env c.run-steps.result.made in (c.run-steps.new.self.cpu ≡ v.cpu) × (c.run-steps.new.frames ≡ v.frames))
ran c =
    let b = seen c.self.view_is in
    let first : c.set_user.new.self.cpu ≡ b.cpu = ap (λ (m : Machine). m.cpu) c.set_user.ensures.machine in
    let rows : c.set_user.new.self.tlb ≡ b.tlb.rows = ap (λ (m : Machine). m.tlb) c.set_user.ensures.machine in
    let made = c.run-steps.ensures.machine
    ∙ ap (λ rs. after_row_steps c.set_user.new.self.cp0 rs (record { cpu = c.set_user.new.self.cpu; frames = b.frames }) c.run-steps.result.made) rows
    ∙ ap (λ x. after_row_steps c.set_user.new.self.cp0 b.tlb.rows (record { cpu = x; frames = b.frames }) c.run-steps.result.made) first in
    (ap (λ (r : Running). r.cpu) made ∙ (flat c).registers, ap (λ (r : Running). r.frames) made ∙ (flat c).memory)

abbrev board_after : (c : goal.After-pass-2) → Shown
board_after c = record (seen c.self.view_is) {
  frames = c.run-steps.new.frames;
  cpu = c.run-steps.new.self.cpu;
  slots = c.pass.new.self;
  time = c.pass-2.new.self;
  tlb = record (seen c.self.view_is).tlb { rows = c.run-steps.new.self.tlb; random = c.run-steps.new.self.cp0.random };
}

after : (c : goal.After-pass-2) → board_after c ≡ stretched (seen c.self.view_is) c.args.env c.run-steps.result.made
after c =
    let b = seen c.self.view_is in
    let made = ran c in
    let kept : c.run-steps.new.self.tlb ≡ b.tlb.rows = c.run-steps.ensures.rows ∙ ap (λ (m : Machine). m.tlb) c.set_user.ensures.machine in
    let random : c.run-steps.new.self.cp0.random ≡ fallen_times b.tlb.random c.run-steps.result.made =
    ap (λ (x : Cp0). x.random) c.run-steps.ensures.cp0 ∙ ap (λ (m : Machine). fallen_times m.cp0.random c.run-steps.result.made) c.set_user.ensures.machine in
    λ i. record b { frames = made.1 i; cpu = made.0 i; slots = c.pass.ensures i; time = c.pass-2.ensures i; tlb = record b.tlb { rows = kept i; random = random i } }

pub returns-clause-after : goal.returns-clause-after
returns-clause-after c = after c ∙ ap (λ (s : Shown). stretched s c.args.env c.run-steps.result.made) c.self.view_is

early : (c : goal.After-pass-2) → c.run-steps.result.made ≤ next_deadline c.self.inside.revocations - c.self.inside.time
early c =
    let same : next_deadline c.self.inside.revocations - c.self.inside.time ≡ next_deadline c.args.self.now.revocations - c.args.self.now.time =
    ap (λ (s : Shown). next_deadline s.revocations - s.time) c.self.view_is in
    omega (arith, c.run-steps.ensures.most, c.requires.early, same)

pub returns-clause-plain : goal.returns-clause-plain
returns-clause-plain c =
    subst (λ (s : Shown). ArePlain s c.args.env c.run-steps.result.made) c.self.view_is
    (record { retire = (flat c).retire; left = left c; early = early c })

pub returns-clause-found : goal.returns-clause-found
returns-clause-found c =
    subst (λ (s : Shown). FindRows s c.args.env c.run-steps.result.made) c.self.view_is
    (run_found (seen c.self.view_is) c.args.env c.self.inside.machine c.set_user.new.self c.run-steps.result.made refl refl c.self.invariant (small c)
    c.set_user.ensures.machine c.set_user.ensures.user c.set_user.ensures.pid c.run-steps.ensures.retire (left c))

-- where the machine stops, the next step is stuck
pub returns-clause-stop : goal.returns-clause-stop
returns-clause-stop c = λ less.
    let b = seen c.self.view_is in
    let k = c.run-steps.result.made in
    let made = ran c in
    let kept : c.run-steps.new.self.tlb ≡ b.tlb.rows = c.run-steps.ensures.rows ∙ ap (λ (m : Machine). m.tlb) c.set_user.ensures.machine in
    let stopped = sym (λ i. has_retired (row_step c.run-steps.new.self.cp0 (kept i) (made.1 i) (made.0 i))) ∙ c.run-steps.ensures.stop less in
    let pid = ap current_pid c.run-steps.ensures.cp0 ∙ c.set_user.ensures.pid in
    let user = ap is_user c.run-steps.ensures.cp0 ∙ c.set_user.ensures.user in
    let stuck = stuck_behind b c.args.env c.self.inside.machine c.set_user.new.self k refl refl c.self.invariant (small c)
    c.set_user.ensures.machine c.set_user.ensures.user c.set_user.ensures.pid c.run-steps.ensures.retire
    c.law_finds.ensures c.run-steps.new.self.cp0 pid user (left c) stopped in
    subst (λ (s : Shown). IsStuck s c.args.env) (sym (after c)) stuck

-- ---- what is told of the next step

abbrev behind : (c : goal.After-pass-2) → Shown
behind c = stretched (seen c.self.view_is) c.args.env c.run-steps.result.made

-- the machine's step there, over the board's rows
next_step : (c : goal.After-pass-2) → user_step c.run-steps.new.self c.run-steps.new.frames ≡ row_step c.run-steps.new.self.cp0 (seen c.self.view_is).tlb.rows (behind c).frames (behind c).cpu
next_step c =
    let made = ran c in
    let kept : c.run-steps.new.self.tlb ≡ (seen c.self.view_is).tlb.rows = c.run-steps.ensures.rows ∙ ap (λ (m : Machine). m.tlb) c.set_user.ensures.machine in
    λ i. row_step c.run-steps.new.self.cp0 (kept i) (made.1 i) (made.0 i)

pid_now : (c : goal.After-pass-2) → current_pid c.run-steps.new.self.cp0 ≡ c.args.env
pid_now c = ap current_pid c.run-steps.ensures.cp0 ∙ c.set_user.ensures.pid

user_now : (c : goal.After-pass-2) → is_user c.run-steps.new.self.cp0 ≡ true
user_now c = ap is_user c.run-steps.ensures.cp0 ∙ c.set_user.ensures.user

fewer : (made most : ℕ) (o p : Option Entry) → p ≡ (if nat_lt made most then o else None) → IsSome p → made < most
fewer made most o p is some = search (rules, arith)

came_in : (entry : Entry) → entry_in (came_by entry) ≡ Some entry
came_in Call = refl
came_in Break = refl

more_is : (made most : ℕ) (o : Option Entry) → made < most → (if nat_lt made most then o else None) ≡ o
more_is made most o less = search (rules, arith)

none_is_some : (o : Option Entry) (entry : Entry) → o ≡ None → o ≡ Some entry → ⊥
none_is_some o entry none some = let both : None ≡ Some entry = sym none ∙ some in cc

tells : (c : goal.After-pass-2) → c.run-steps.result.made < c.args.most → (o : Option Entry) → c.run-steps.result.entry ≡ o → Tells (behind c) c.args.env o
tells c less (Some entry) is =
    let came = subst (λ (o : Option Entry). IfSome o (λ entry. user_step c.run-steps.new.self c.run-steps.new.frames ≡ came_by entry)) is c.run-steps.ensures.came in
    stands_behind (seen c.self.view_is) c.args.env c.self.inside.machine c.set_user.new.self c.run-steps.result.made refl refl c.self.invariant (small c)
    c.set_user.ensures.machine c.set_user.ensures.user c.set_user.ensures.pid c.run-steps.ensures.retire
    c.run-steps.new.self.cp0 (pid_now c) (user_now c) (left c) entry (sym (next_step c) ∙ came)
tells c less None is = λ entry stands.
    let came = comes_behind (seen c.self.view_is) c.args.env c.self.inside.machine c.set_user.new.self c.run-steps.result.made refl refl c.self.invariant (small c)
    c.set_user.ensures.machine c.set_user.ensures.user c.set_user.ensures.pid c.run-steps.ensures.retire
    c.law_finds.ensures c.law_misses.ensures c.run-steps.new.self.cp0 (pid_now c) (user_now c) (left c) entry stands in
    none_is_some c.run-steps.result.entry entry is
    (c.run-steps.ensures.entry ∙ more_is c.run-steps.result.made c.args.most _ less ∙ ap entry_in (next_step c ∙ came) ∙ came_in entry)

some_more : (made most : ℕ) (o : Option ℕ) → IsSome (if nat_lt made most then o else None) → made < most
some_more made most o some = search (rules, arith)

pub returns-clause-tells : goal.returns-clause-tells
returns-clause-tells c = record {
  most = c.run-steps.ensures.most;
  wanted = λ some. some_more c.run-steps.result.made c.args.most _ (subst IsSome c.run-steps.ensures.wanted some);
  entry = λ some. fewer c.run-steps.result.made c.args.most _ c.run-steps.result.entry c.run-steps.ensures.entry some;
  told = λ less. subst (λ (s : Shown). Tells s c.args.env c.run-steps.result.entry) (sym (after c)) (tells c less c.run-steps.result.entry refl);
  apart = c.run-steps.ensures.apart;
}

pub returns-clause-missed : goal.returns-clause-missed
returns-clause-missed c = λ less.
    let kept : c.run-steps.new.self.tlb ≡ (seen c.self.view_is).tlb.rows = c.run-steps.ensures.rows ∙ ap (λ (m : Machine). m.tlb) c.set_user.ensures.machine in
    let its = wants_behind (seen c.self.view_is) c.args.env c.self.inside.machine c.set_user.new.self c.run-steps.result.made refl refl c.self.invariant (small c)
    c.set_user.ensures.machine c.set_user.ensures.user c.set_user.ensures.pid c.run-steps.ensures.retire
    c.law_misses.ensures c.run-steps.new.self.cp0 (pid_now c) (user_now c) (left c) c.run-steps.result.wanted
    (λ exc end. c.run-steps.ensures.missed exc less ((λ i. end_of c.run-steps.new.self.cp0 (kept i) (outcome_of (next_step c i))) ∙ end)) in
    subst (λ (s : Shown). IsOfMiss s c.args.env c.run-steps.result.wanted) (sym (after c)) its
