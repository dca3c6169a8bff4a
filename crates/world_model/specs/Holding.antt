-- What becomes of the pages that an environment owns or has bound.
use Rattle.std.specs.Prelude.{ℕ, Bool, true, false, not, filter, ◌==◌, ◌||◌, if◌then◌else◌, List, Option, Some, None, is_some}
use Rattle.bind_book.specs.declared.binding.Binding.{Binding}
use Rattle.bind_book.specs.Stripe.{binding_at, is_bound, row_of, without}
use Rattle.world_model.specs.Table.{set_at}
use Rattle.world_model.specs.Solo.{Solo, Seen, Ring, bytes_seen}

abbrev pub is_owned : Option Seen → Bool
is_owned None = false
is_owned (Some x) = x.owned

-- what is seen of a page goes once it is neither owned nor bound
abbrev pub still_seen : Bool → Option Seen → Option Seen
still_seen bound None = None
still_seen bound (Some x) = if x.owned || bound then Some x else None

-- the environment with these bindings: it sees no page any more that it neither owns nor has bound
abbrev pub with_binds : (ℕ → Option Binding) → Solo → Solo
with_binds binds s = record s { binds = binds; seen = λ page. still_seen (is_bound page binds) (s.seen page) }

-- a binding takes the place of the one in its row
abbrev pub bound : Binding → Solo → Solo
bound b s = with_binds (set_at (row_of s.version b.vpn) (Some b) s.binds) s

-- the binding of a VPN goes, if there is one
abbrev pub after_unbind : ℕ → Solo → Solo
after_unbind vpn s =
    if is_some (binding_at s.version s.binds vpn) then with_binds (set_at (row_of s.version vpn) None s.binds) s else s

-- the environment owns a page, of whose bytes it learns next
abbrev pub owning : ℕ → Solo → Solo
owning page s = record s {
  seen = set_at page (Some (record { owned = true; bytes = bytes_seen (s.seen page) })) s.seen;
}

-- the environment sees these bytes of a page
abbrev pub gained : ℕ → List ℕ → Solo → Solo
gained page bytes s = record s {
  seen = set_at page (Some (record { owned = is_owned (s.seen page); bytes = bytes })) s.seen;
}

-- the environment neither owns a page any more, nor has it bound, nor has a claim whose ring it is
abbrev pub lost : ℕ → Solo → Solo
lost page s = record s {
  binds = λ row. without (λ b. b.page == page) (s.binds row);
  seen = set_at page None s.seen;
  rings = filter (λ (r : Ring). not (r.page == page)) s.rings;
}
