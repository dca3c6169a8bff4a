use Rattle.std.proofs.Common.{◌≡◌, rules, tests}
use Rattle.revocation_book.proofs.Earliest.{due_by_earliest, has_come}
use Rattle.revocation_book.proofs.deadlines.Deadlines.is_due.Goals as goal

pub returns : goal.returns
returns c =
    let earliest : c.is_some_and.result ≡ has_come c.args.time c.self.inside.earliest = search (rules, tests) in
    let any = due_by_earliest c.args.time c.self.inside.pending in
    cc
