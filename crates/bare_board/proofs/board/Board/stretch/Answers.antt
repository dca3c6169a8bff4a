use Rattle.std.proofs.Common.{arith, rules}
use Rattle.bare_board.proofs.Stretches.{fewer, leads, stops}
use Rattle.bare_board.proofs.board.Board.stretch.Goals as goal

pub returns-clause-lead : goal.returns-clause-lead
returns-clause-lead c =
    let calm = fewer c.args.period c.args.t c.calm_ticks-calm.result c.run.result.made c.args.self.now c.calm_ticks-calm.ensures.calm c.run.ensures.most in
    leads c.law_retired_steps.ensures c.args.period c.args.t c.args.self.now c.run.result.made calm c.run.ensures.retire
    c.run.new.self c.run.new.frames c.run.ensures.machine c.run.ensures.rows c.run.ensures.cp0

pub returns-clause-stop : goal.returns-clause-stop
returns-clause-stop c =
    stops c.args.period c.args.t c.args.most c.calm_ticks-calm.result c.run.result.made c.args.self.now c.run.new.self c.run.new.frames
    c.calm_ticks-calm.ensures.next (λ less retires. search (rules, retires, c.run.ensures.stop less)) c.run.ensures.most c.run.ensures.cp0

pub returns-clause-most : goal.returns-clause-most
returns-clause-most c = omega (arith, c.run.ensures.most, c.calm_ticks-calm.ensures.most)

pub returns-clause-size : goal.returns-clause-size
returns-clause-size c = c.run.ensures.size
