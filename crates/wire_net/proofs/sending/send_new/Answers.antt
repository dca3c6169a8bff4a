-- Each turn of the loop is one environment more.
use Rattle.std.proofs.Common.{◌∙◌, ◌≡◌, ap, ◌++◌, ℕ, arith, get_or, length, length-set, ◌<◌}
use Rattle.board_model.specs.Showing.{world_of}
use Rattle.wire_net.specs.Sending.{packets_sent, sent_after}
use Rattle.wire_net.proofs.Sends.{all_sent, env_sent, one_counted, others_left}
use Rattle.wire_net.proofs.sending.send_new.Goals as goal

pub loop-env-preserved : goal.loop-env-preserved
loop-env-preserved c =
    let route = c.args.route in
    let f = λ (e : ℕ). sent_after c.args.board.now e (get_or c.args.known.now e 0) in
    let n = c.loop-env.env in
    let at : c.from-place.result ≡ n = c.from-place.ensures in
    let within : n < length c.loop-env.known = omega (arith, c.loop-env-test.true, c.envs-env-end.ensures, c.requires.envs, c.loop-env.invariant.envs) in
    let known : get_or c.loop-env.known c.from-place.result 0 ≡ get_or c.args.known.now n 0 =
    ap (λ (k : ℕ). get_or c.loop-env.known k 0) at ∙ c.loop-env.invariant.left n (omega arith) in
    record {
      sent = env_sent route f n c.args.out.now.items c.loop-env.out.items c.send_behind.new.out.items c.loop-env.invariant.sent
          (c.in_ok-send_behind.ensures ∙ ap (λ (k : ℕ). c.loop-env.out.items ++ packets_sent route (sent_after c.args.board.now n k)) known);
      counted = one_counted c.loop-env.known n c.from-place.result c.sent_count.result (λ (e : ℕ). length ((world_of c.args.board.now).solos e).sent) at within c.loop-env.invariant.counted c.sent_count.ensures;
      left = others_left c.loop-env.known c.args.known.now n c.from-place.result c.sent_count.result at c.loop-env.invariant.left;
      envs = length-set c.loop-env.known c.from-place.result c.sent_count.result ∙ c.loop-env.invariant.envs;
    }

pub returns-clause-sent : goal.returns-clause-sent
returns-clause-sent c =
    all_sent c.args.route (λ (e : ℕ). sent_after c.args.board.now e (get_or c.args.known.now e 0))
    c.loop-env.env (length c.args.board.now.roster.list) c.args.out.now.items c.loop-env.out.items
    (omega (arith, c.loop-env-test.false, c.envs-env-end.ensures, c.loop-env.auto.env-end)) c.loop-env.invariant.sent
