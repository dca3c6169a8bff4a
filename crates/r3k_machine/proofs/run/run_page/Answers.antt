use Rattle.std.proofs.Common.{rules}
use Rattle.r3k_machine.proofs.MoreSteps.{after_one_more, all_and_one_more, still_code}
use Rattle.r3k_machine.proofs.Written.{cpu_stays, frames_stay}
use Rattle.r3k_machine.proofs.run.run_page.Goals as goal

pub loop-done-preserved : goal.loop-done-preserved
loop-done-preserved c = search (rules, after_one_more, all_and_one_more, still_code)

pub returns-then-not-retire_word-clause-machine : goal.returns-then-not-retire_word-clause-machine
returns-then-not-retire_word-clause-machine c = search (rules, cpu_stays, frames_stay)

pub returns-then-not-retire_word-clause-stop : goal.returns-then-not-retire_word-clause-stop
returns-then-not-retire_word-clause-stop c = search (rules, cpu_stays, frames_stay)

pub returns-then-not-retire_word-clause-word : goal.returns-then-not-retire_word-clause-word
returns-then-not-retire_word-clause-word c = search (rules, cpu_stays, frames_stay)
