-- The text of a run's TLB, line by line.
use Rattle.std.specs.Prelude.{ℕ, List, [], ◌∷◌, ◌++◌, codes}
use Rattle.line_text.specs.Text.{dec_text}
use Rattle.line_text.specs.WrittenLine.{line}
use Rattle.kernel_journal.specs.declared.row.RunEnd.{RunEnd}
use Rattle.machine_text.specs.RowLines.{tlb_row_lines}
use Rattle.machine_text.specs.Series.{for_each}
use Rattle.r3k_tlb.specs.Rows.{row_count}
use Rattle.world_model.specs.World.{World}
use Rattle.tlb_model.specs.declared.fills.Fills.{Fills}
use Rattle.tlb_model.specs.Cache.{Cache, fills_of}
use Rattle.run_report.specs.Report.{end_line}

-- an environment's refills from its guaranteed mappings and from its bindings, and its misses that were forwarded to it
unfoldable pub fill_line : ℕ → Fills → List ℕ
fill_line e f =
    line (codes "fill" ∷ dec_text e ∷ dec_text f.guaranteed ∷ dec_text f.stripe ∷ dec_text f.forwarded ∷ [])

-- the fills of the first environments, so many
abbrev pub fill_lines : List Fills → ℕ → List ℕ
fill_lines fills count = for_each (λ e. fill_line e (fills_of fills e)) count

-- the row that the next refill takes
unfoldable pub random_line : ℕ → List ℕ
random_line random = line (codes "random" ∷ dec_text random ∷ [])

-- the TLB behind a run that left this world and ended in this way
unfoldable pub tlb_text : World → Cache → RunEnd → List ℕ
tlb_text w c how =
    line (codes "aegis" ∷ codes "tlb" ∷ []) ++ end_line w how ++ fill_lines c.fills w.count ++ random_line c.random
    ++ tlb_row_lines c.rows row_count ++ line (codes "done" ∷ [])
