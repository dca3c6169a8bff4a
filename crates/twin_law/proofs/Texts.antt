-- What is shown of an environment depends on it alone, on whether it runs, on its excess, and on how many pages it owns.
use Rattle.std.proofs.Common.{◌≡◌, ◌≤◌, ◌+◌, ◌∙◌, ℕ, zero, suc, List, [], ◌++◌, Bool, true, false, Option, None, inl, inr, ap, arith, refl, subst, sym, ◌<◌}
use Rattle.std.specs.Prelude.{if◌then◌else◌}
use Rattle.std.specs.Option.{option_map_or}
use Rattle.std.proofs.lemmas.Bool.{cases_lt}
use Rattle.std.proofs.lemmas.List.{append-nil}
use Rattle.bind_book.specs.Stripe.{is_bound}
use Rattle.mips_exec.specs.Cpu.{rested}
use Rattle.mips_exec.specs.declared.registers.Cpu.{Cpu}
use Rattle.page_book.specs.Row.{is_owned_by}
use Rattle.page_book.specs.declared.row.PageRow.{PageRow}
use Rattle.page_laws.specs.Sight.{seen_if}
use Rattle.world_model.specs.Book.{is_runner}
use Rattle.world_model.specs.Item.{absorb_all}
use Rattle.world_model.specs.PageCalls.{page_bytes}
use Rattle.world_model.specs.Solo.{Seen, Solo, absent}
use Rattle.world_model.specs.View.{owned_bytes}
use Rattle.world_model.specs.World.{World}
use Rattle.run_model.specs.Run.{IsFoldOfFeed, System, feed, world_after}
use Rattle.run_model.specs.Slices.{slices}
use Rattle.run_report.specs.Report.{bind_lines, cpu_line, env_line, env_text, excess_line, if_live, keep_lines, living_lines, out_line, page_line, page_lines, regs_line, sent_lines, shown_cpu}
use Rattle.sharing_law.specs.Agreement.{BooksAgree, PagesEnd}
use Rattle.quiet_law.specs.EachTick.{QuietRests, feed_alone}
use Rattle.quiet_law.specs.Alone.{quiet_feed}
use Rattle.run_model.specs.Boot.{boot_items}
use Rattle.twin_law.specs.TwoRuns.{QuietIsLeftAlike, TwoRunsLeaveSame, TwoRunsShowSame, owing_none}

-- with these registers, this excess and these lines of pages
abbrev living_text : ℕ → Solo → Cpu → ℕ → List ℕ → List ℕ
living_text e s cpu excess pages = cpu_line e cpu ++ regs_line e cpu ++ excess_line e excess ++ keep_lines e s.kept ++ pages ++ bind_lines e s.binds

abbrev text_of : ℕ → Solo → Cpu → ℕ → List ℕ → List ℕ
text_of e s cpu excess pages = env_line e s ++ out_line e s ++ if_live s.life (living_text e s cpu excess pages) ++ sent_lines e s.sent

by_parts : (w : World) (e : ℕ) → env_text w e ≡ text_of e (w.solos e) (shown_cpu w e) (w.book.excess e) (page_lines e (w.solos e).seen w.book.page_count)
unfolding env_text living_lines
by_parts w e = refl

-- the registers, of an environment that runs or not
abbrev cpu_if : Bool → Cpu → Cpu
cpu_if runs cpu = if runs then cpu else rested cpu

shown_is : (w : World) (e : ℕ) → shown_cpu w e ≡ cpu_if (is_runner e w.book.runner) (w.solos e).cpu
unfolding shown_cpu
shown_is w e = refl

pub same_text : (w v : World) (e : ℕ) → w.solos e ≡ v.solos e → is_runner e w.book.runner ≡ is_runner e v.book.runner → w.book.excess e ≡ v.book.excess e
    → page_lines e (w.solos e).seen w.book.page_count ≡ page_lines e (w.solos e).seen v.book.page_count → env_text w e ≡ env_text v e
same_text w v e solos runs owes pages =
    let s = w.solos e in
    by_parts w e
    ∙ ap (λ (cpu : Cpu). text_of e s cpu (w.book.excess e) (page_lines e s.seen w.book.page_count)) (shown_is w e)
    ∙ ap (λ (b : Bool). text_of e s (cpu_if b s.cpu) (w.book.excess e) (page_lines e s.seen w.book.page_count)) runs
    ∙ ap (λ (excess : ℕ). text_of e s (cpu_if (is_runner e v.book.runner) s.cpu) excess (page_lines e s.seen w.book.page_count)) owes
    ∙ ap (text_of e s (cpu_if (is_runner e v.book.runner) s.cpu) (v.book.excess e)) pages
    ∙ ap (λ (t : Solo). text_of e t (cpu_if (is_runner e v.book.runner) t.cpu) (v.book.excess e) (page_lines e t.seen v.book.page_count)) solos
    ∙ ap (λ (cpu : Cpu). text_of e (v.solos e) cpu (v.book.excess e) (page_lines e (v.solos e).seen v.book.page_count)) (sym (shown_is v e))
    ∙ sym (by_parts v e)

-- No page from a count on is owned: there are as many lines as below it.
abbrev OwnsNone : (ℕ → Option Seen) → ℕ → Type 0
OwnsNone seen count = (page : ℕ) → count ≤ page → owned_bytes (seen page) ≡ None

lines_past : (e : ℕ) (seen : ℕ → Option Seen) (count most : ℕ) → OwnsNone seen count → count ≤ most → page_lines e seen most ≡ page_lines e seen count
lines_past e seen count zero none below = let first : 0 ≡ count = omega (arith, below) in ap (page_lines e seen) first
lines_past e seen count (suc page) none below = elim (cases_lt count (suc page)) as (λ x. page_lines e seen (suc page) ≡ page_lines e seen count) [
  | inl less ↦
      ap (λ (o : Option (List ℕ)). page_lines e seen page ++ option_map_or (page_line e page) o []) (none page (omega (arith, less)))
      ∙ append-nil (page_lines e seen page)
      ∙ lines_past e seen count page none (omega (arith, less))
  | inr past ↦ let last : suc page ≡ count = omega (arith, past, below) in ap (page_lines e seen) last
]

same_lines : (e : ℕ) (seen : ℕ → Option Seen) (left right : ℕ) → OwnsNone seen left → OwnsNone seen right → page_lines e seen left ≡ page_lines e seen right
same_lines e seen left right first next =
    sym (lines_past e seen left (left + right) first (omega arith)) ∙ lines_past e seen right (left + right) next (omega arith)

unowned : (bound : Bool) (bytes : List ℕ) → owned_bytes (seen_if false bound bytes) ≡ None
unowned true bytes = refl
unowned false bytes = refl

module _ (agree : BooksAgree) (end : PagesEnd) (fold : IsFoldOfFeed) where
  owns_none : (system : System) (e t : ℕ) → OwnsNone ((world_after system t).solos e).seen (world_after system t).book.page_count
  owns_none system e t page past =
      let w = world_after system t in
      let bound = is_bound page (w.book.binds e) in
      ap owned_bytes ((agree system t e).seen page)
      ∙ ap (λ (row : PageRow). owned_bytes (seen_if (is_owned_by e row) bound (page_bytes w page))) (end system t 0 page past)
      ∙ unowned bound (page_bytes w page)

  module _ (left right : System) (e t u : ℕ) (same : feed left e t ≡ feed right e u) where
    abbrev w : World
    w = world_after left t

    abbrev v : World
    v = world_after right u

    solos : w.solos e ≡ v.solos e
    solos = fold left t e ∙ ap (absorb_all (absent e)) same ∙ sym (fold right u e)

    pages : page_lines e (w.solos e).seen w.book.page_count ≡ page_lines e (w.solos e).seen v.book.page_count
    pages =
        same_lines e (w.solos e).seen w.book.page_count v.book.page_count (owns_none left e t)
        (λ page past. ap (λ (s : Solo). owned_bytes (s.seen page)) solos ∙ owns_none right e u page past)

  pub leave_same : TwoRunsLeaveSame
  leave_same left right e t u same runs =
      same_text (owing_none (world_after left t)) (owing_none (world_after right u)) e (solos left right e t u same) runs refl (pages left right e t u same)

  pub show_same : TwoRunsShowSame
  show_same left right e t u same runs owes = same_text (world_after left t) (world_after right u) e (solos left right e t u same) runs owes (pages left right e t u same)

-- A quiet environment that doesn't run was given what it makes alone of its slices.
pub left_alike : TwoRunsLeaveSame → QuietRests → QuietIsLeftAlike
left_alike leave rests left right e t u both left_off right_off same =
    leave left right e t u
    (rests left e t both.quantum_some both.left_quiet left_off
    ∙ ap (λ (n : ℕ). feed_alone left e n) same
    ∙ ap (λ boot. quiet_feed e boot left.image.quantum (slices right e u)) both.record_same
    ∙ ap (λ (q : ℕ). quiet_feed e (boot_items right.image e) q (slices right e u)) both.quantum_same
    ∙ sym (rests right e u (subst (λ (q : ℕ). 0 < q) both.quantum_same both.quantum_some) both.right_quiet right_off))
    (left_off ∙ sym right_off)
