-- Interrupt lines stay those of environments that live.
use Rattle.std.proofs.Common.{◌≡◌, ℕ, zero, suc, List, [], ◌∷◌, length-set, map, Option, None, IfSome, refl, ◌∙◌, rules}
use Rattle.std.specs.Prelude.{slice_set}
use Rattle.std.proofs.lemmas.Bool.{eqb-false}
use Rattle.std.proofs.lemmas.List.{length-map, length-replicate}
use Rattle.world_model.specs.declared.life.Cause.{Cause}
use Rattle.world_model.specs.LineCalls.{line_without}
use Rattle.board_model.specs.declared.roster.Environment.{Environment}
use Rattle.board_model.specs.Lines.{free_lines, line_at}
use Rattle.board_model.specs.Shown.{with_record}
use Rattle.board_model.specs.Sound.{LinesAgree, IsLiving}
use Rattle.board_model.specs.Doing.{dead_frame}
use Rattle.board_model.proofs.Sound.{Keeps, if_both, kept_live, others_live, set_all}
use Rattle.board_model.proofs.Tables.{all_alike}

-- a change of an environment that leaves its life
pub keep_wired : (f : Environment → Environment) → Keeps f → (lines : List (Option ℕ)) (list : List Environment) (e : ℕ) → LinesAgree lines list → LinesAgree lines (with_record f list e)
keep_wired f keeps lines list e wired = search (rules, if_both, kept_live)

-- a line has another owner, who lives, or none
pub set_wired : (lines : List (Option ℕ)) (list : List Environment) (line : ℕ) (owner : Option ℕ) → IfSome owner (IsLiving list) → LinesAgree lines list → LinesAgree (slice_set lines line owner) list
set_wired lines list line owner lives wired = record {
  count = length-set lines line owner ∙ wired.count;
  owners = λ i. set_all (λ o. IfSome o (IsLiving list)) lines line i owner None lives (wired.owners i);
}

-- the lines once one is gone
pub line_freed : (e : ℕ) (lines : List (Option ℕ)) (line : ℕ) → line_at (map (line_without e) lines) line ≡ line_without e (line_at lines line)
line_freed e [] line = refl
line_freed e (owner ∷ lines) zero = refl
line_freed e (owner ∷ lines) (suc line) = line_freed e lines line

pub death_wired : (cause : Cause) (lines : List (Option ℕ)) (list : List Environment) (e : ℕ) → LinesAgree lines list → LinesAgree (map (line_without e) lines) (with_record (dead_frame cause) list e)
death_wired cause lines list e wired = search (rules, length-map, line_freed, others_live, eqb-false)

pub built_wired : LinesAgree free_lines []
built_wired = search (rules, length-replicate, all_alike)
