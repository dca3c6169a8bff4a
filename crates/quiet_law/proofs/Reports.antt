-- What is shown of an environment is told by what it is alone, if it doesn't run and owns no page, and by its excess.
use Rattle.std.proofs.Common.{◌≡◌, ◌<◌, ◌∙◌, ℕ, zero, suc, List, [], ◌++◌, Bool, false, Option, None, ap, refl, subst, sym}
use Rattle.std.specs.Prelude.{if◌then◌else◌}
use Rattle.std.specs.Option.{option_map_or}
use Rattle.mips_exec.specs.Cpu.{rested}
use Rattle.mips_exec.specs.declared.registers.Cpu.{Cpu}
use Rattle.world_model.specs.Book.{is_runner}
use Rattle.world_model.specs.Item.{absorb_all}
use Rattle.world_model.specs.Solo.{Seen, Solo, absent}
use Rattle.world_model.specs.View.{owned_bytes}
use Rattle.world_model.specs.World.{World}
use Rattle.run_model.specs.Run.{IsFoldOfFeed, world_after}
use Rattle.run_report.specs.Report.{bind_lines, cpu_line, env_line, env_text, excess_line, if_live, keep_lines, living_lines, out_line, page_line, page_lines, regs_line, sent_lines, shown_cpu}
use Rattle.quiet_law.specs.Quiet.{QuietHasOwnPagesAlone, QuietIsSame, QuietOwesSame}
use Rattle.run_model.specs.Slices.{SlicesEndStopped}
use Rattle.quiet_law.specs.Twin.{QuietIsShownAlike}

-- no page has a line, where none is seen
no_pages : (e : ℕ) (seen : ℕ → Option Seen) → ((page : ℕ) → seen page ≡ None) → (count : ℕ) → page_lines e seen count ≡ []
no_pages e seen none zero = refl
no_pages e seen none (suc page) =
    ap (λ (lines : List ℕ). lines ++ option_map_or (page_line e page) (owned_bytes (seen page)) []) (no_pages e seen none page)
    ∙ ap (λ (o : Option Seen). option_map_or (page_line e page) (owned_bytes o) []) (none page)

-- with these registers, this excess and these lines of pages
abbrev living_text : ℕ → Solo → Cpu → ℕ → List ℕ → List ℕ
living_text e s cpu excess pages = cpu_line e cpu ++ regs_line e cpu ++ excess_line e excess ++ keep_lines e s.kept ++ pages ++ bind_lines e s.binds

abbrev whole_text : ℕ → Solo → Cpu → ℕ → List ℕ → List ℕ
whole_text e s cpu excess pages = env_line e s ++ out_line e s ++ if_live s.life (living_text e s cpu excess pages) ++ sent_lines e s.sent

text_by_parts : (w : World) (e : ℕ) → env_text w e ≡ whole_text e (w.solos e) (shown_cpu w e) (w.book.excess e) (page_lines e (w.solos e).seen w.book.page_count)
unfolding env_text living_lines
text_by_parts w e = refl

at_rest : (w : World) (e : ℕ) → is_runner e w.book.runner ≡ false → shown_cpu w e ≡ rested (w.solos e).cpu
unfolding shown_cpu
at_rest w e out = ap (λ (runs : Bool). if runs then (w.solos e).cpu else rested (w.solos e).cpu) out

text_alone : (w : World) (e : ℕ) → is_runner e w.book.runner ≡ false → ((page : ℕ) → (w.solos e).seen page ≡ None) → env_text w e ≡ whole_text e (w.solos e) (rested (w.solos e).cpu) (w.book.excess e) []
text_alone w e out none =
    text_by_parts w e
    ∙ ap (λ (cpu : Cpu). whole_text e (w.solos e) cpu (w.book.excess e) (page_lines e (w.solos e).seen w.book.page_count)) (at_rest w e out)
    ∙ ap (λ (pages : List ℕ). whole_text e (w.solos e) (rested (w.solos e).cpu) (w.book.excess e) pages) (no_pages e (w.solos e).seen none w.book.page_count)

pub shown_alike : QuietHasOwnPagesAlone → QuietIsSame → QuietOwesSame → SlicesEndStopped → IsFoldOfFeed → QuietIsShownAlike
shown_alike pages feeds owes stops fold left right e n t u both left_end right_end =
    let v = world_after left t in
    let w = world_after right u in
    let same : v.solos e ≡ w.solos e = fold left t e ∙ ap (absorb_all (absent e)) (feeds left right e n t u both left_end right_end) ∙ sym (fold right u e) in
    let some : 0 < right.image.quantum = subst (λ q. 0 < q) both.quantum_same both.quantum_some in
    text_alone v e (stops left e n t left_end) (pages left e t both.quantum_some both.left_quiet).sees_none
    ∙ ap (λ (s : Solo). whole_text e s (rested s.cpu) (v.book.excess e) []) same
    ∙ ap (λ (excess : ℕ). whole_text e (w.solos e) (rested (w.solos e).cpu) excess []) (owes left right e n t u both left_end right_end)
    ∙ sym (text_alone w e (stops right e n u right_end) (pages right e u some both.right_quiet).sees_none)
