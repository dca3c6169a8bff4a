use Rattle.std.proofs.Common.{arith}
use Rattle.std.specs.Prelude.{vec_capacity}
use Rattle.filter_tree.specs.Keeping.{IsKept}
use Rattle.filter_tree.specs.ClaimBook.{ClaimBook}
use Rattle.filter_tree.specs.Claims.{new_row}
use Rattle.filter_tree.proofs.Planting.{has_length, has_planted}
use Rattle.filter_tree.proofs.Room.{has_fewer, has_room, room_with}
use Rattle.filter_tree.proofs.claims.Claims.claim.Goals as goal

pub plant-requires : goal.plant-requires
plant-requires c =
    let book : ClaimBook = record { rows = c.self.inside.rows.items; next = c.self.inside.next; envs = c.self.inside.envs } in
    let kept = c.self.invariant.kept in
    let in_tree : IsKept book c.self.inside.tree.room = record { few = kept.few; of_envs = kept.of_envs; numbered = kept.numbered; enough = c.self.invariant.enough } in
    let fewer = has_fewer book c.args.env c.args.filter (rw (← c.self.view_is) at c.in_default.ensures) in
    let below = rw (← c.self.view_is) at c.requires.env in
    omega (arith, has_length c.self.inside.tree.leaves c.self.inside.rows.items c.self.invariant.claims, has_room book c.self.inside.tree.room c.args.env in_tree below fewer)

pub unwrap-requires : goal.unwrap-requires
unwrap-requires c =
    let book : ClaimBook = record { rows = c.self.inside.rows.items; next = c.self.inside.next; envs = c.self.inside.envs } in
    let fewer = has_fewer book c.args.env c.args.filter (rw (← c.self.view_is) at c.in_default.ensures) in
    let below = rw (← c.self.view_is) at c.requires.env in
    c.push.ensures.succeeds (omega (arith, c.self.inside.rows.ok.0, has_room book (vec_capacity c.self.inside.rows) c.args.env c.self.invariant.kept below fewer))

pub invariant_of-self : goal.invariant_of-self
invariant_of-self c =
    let book : ClaimBook = record { rows = c.self.inside.rows.items; next = c.self.inside.next; envs = c.self.inside.envs } in
    let fewer = has_fewer book c.args.env c.args.filter (rw (← c.self.view_is) at c.in_default.ensures) in
    let below = rw (← c.self.view_is) at c.requires.env in
    let pushed = rw c.unwrap.ensures at c.push.ensures.items in
    let leaves = rw c.copy.ensures at c.plant.ensures.leaves in
    record {
      kept = rw pushed (room_with book (vec_capacity c.self.inside.rows) (vec_capacity c.push.new.self) c.args.env c.args.filter c.args.page c.self.invariant.kept c.push.ensures.capacity below fewer);
      claims = rw (pushed, leaves) (has_planted (new_row book c.args.env c.args.filter c.args.page) c.self.inside.tree.leaves c.self.inside.rows.items c.self.invariant.claims);
      enough = omega (arith, c.plant.ensures.room, c.self.invariant.enough);
    }
