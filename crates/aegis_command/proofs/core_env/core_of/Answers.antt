-- The core of a living environment is due.
use Rattle.std.proofs.Common.{arith, ◌≡◌, ℕ, List, true, false, nat_lt, sym, ◌∙◌, ap, refl}
use Rattle.std.proofs.lemmas.Bool.{lt-ltb}
use Rattle.board_model.specs.Showing.{world_of}
use Rattle.commands.specs.Due.{Due, Whole, due_text, status_of}
use Rattle.commands.specs.Work.{Settles}
use Rattle.core_file.specs.Core.{core_text}
use Rattle.world_model.specs.World.{World}
use Rattle.world_model.specs.Solo.{is_dead}
use Rattle.aegis_command.specs.CoreEnv.{core_due}
use Rattle.aegis_command.proofs.core_env.core_of.Goals as goal

-- what is due of an environment that is there and lives
of_the_living : (image : List ℕ) (w : World) (e : ℕ) → nat_lt e w.count ≡ true → is_dead (w.solos e).life ≡ false
    → core_due image w e ≡ Whole (core_text w e)
of_the_living image w e there lives = rw (there, lives) refl

pub returns-in_ok-core-in-Live : goal.returns-in_ok-core-in-Live
returns-in_ok-core-in-Live c =
    let w : World = world_of c.args.board.now in
    let there : nat_lt c.args.env w.count ≡ true = lt-ltb c.args.env w.count (omega (arith, c.if-env-envs.false, c.envs.ensures)) in
    let lives : is_dead (w.solos c.args.env).life ≡ false = ap is_dead (sym c.life.ensures ∙ c.in-Live.is) in
    let due = of_the_living c.args.image.now w c.args.env there lives in
    record {
      text = c.in_ok-core-in-Live.ensures.file ∙ sym (ap due_text due);
      status = sym (ap status_of due);
    }
