use Rattle.std.proofs.Common.{arith, refl, sym, subst, ◌≡◌, ◌<◌, length, slice_set, Some}
use Rattle.std.proofs.lemmas.List.{length-set}
use Rattle.bind_book.specs.declared.binding.Binding.{Binding}
use Rattle.bind_book.specs.declared.mark.Mark.{Mark}
use Rattle.bind_book.specs.Marks.{mark_of, marked_too}
use Rattle.bind_book.specs.Stripe.{HasStripe, Stripes}
use Rattle.bind_book.proofs.Marks.{bound_marked}
use Rattle.bind_book.proofs.bindings.Bindings.bind.Goals as goal

pub invariant_of-self : goal.invariant_of-self
invariant_of-self c =
    let book = c.self.inside in
    let at = c.place-at.result in
    let b : Binding = record { vpn = c.args.vpn; page = c.args.page; writable = c.args.writable } in
    let mark : Mark = marked_too (mark_of book.marks c.args.page) at in
    let stripe : HasStripe (record { version = book.version; rows = book.rows.items }) c.args.env = subst (λ (s : Stripes). HasStripe s c.args.env) (sym c.self.view_is) c.requires.stripe in
    let there : at < length book.rows.items = omega (arith, stripe, c.row_of.ensures.within, c.place-at.ensures) in
    let count : length (slice_set book.rows.items at (Some b)) ≡ length book.rows.items = length-set book.rows.items at (Some b) in
    let has_mark : mark_of (slice_set book.marks c.args.page mark) c.args.page ≡ mark = rw (← c.mark.ensures.marks) c.mark.ensures.mark in
    (rw count c.self.invariant.0, rw c.mark.ensures.marks (bound_marked book.marks book.rows.items at b mark there refl has_mark c.self.invariant.1))
