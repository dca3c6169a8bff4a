-- The rows of a sound board's TLB are of environments that live.
use Rattle.std.proofs.Common.{◌≡◌, ◌<◌, ◌∙◌, ap, refl, sym, ℕ, suc, ◌==◌, List, [], ◌∷◌, Bool, true, false, Option, Some, None, rules, length, slice_get}
use Rattle.std.specs.Prelude.{if◌then◌else◌}
use Rattle.std.specs.Option.{option_map, option_or}
use Rattle.bind_book.specs.declared.binding.Binding.{Binding}
use Rattle.bind_book.specs.Stripe.{binding_at, of_number, row_of, stripes}
use Rattle.env_frames.specs.declared.mapping.Mapping.{Mapping}
use Rattle.env_frames.specs.Frame.{mapping_at}
use Rattle.guest_memory.specs.Look.{bound_mapping}
use Rattle.guest_memory.specs.Space.{lookup}
use Rattle.page_book.specs.Row.{owner_of}
use Rattle.r3k_tlb.specs.declared.row.Row.{Row}
use Rattle.tlb_model.specs.Coherence.{IsCoherent}
use Rattle.tlb_model.specs.Coherence as coherence
use Rattle.world_model.specs.World.{is_living}
use Rattle.board_model.specs.Doing.{lookup_of}
use Rattle.board_model.specs.Shown.{Shown, mappings_of}
use Rattle.board_model.specs.Showing.{world_of}
use Rattle.board_model.specs.Sound.{IsAlive, IsLiving, IsSoundBoard, leads_in}
use Rattle.board_model.specs.declared.roster.Environment.{Environment}
use Rattle.aegis_calls.specs.Living.{AreOfLiving, Emptied, Held, IsOfLiving}
use Rattle.aegis_calls.proofs.Looking.{leads_by_book}

-- an environment of the board that lives is one of the world's
alive : (b : Shown) (e : ℕ) (o : Option Environment) → slice_get b.roster.list e ≡ o → e < length b.roster.list → IsAlive o → is_living (world_of b) e ≡ true
alive b e None is below lives = absurd lives
alive b e (Some x) is below lives = search (rules, is, lives)

living : (b : Shown) (e : ℕ) → IsLiving b.roster.list e → is_living (world_of b) e ≡ true
living b e lives = alive b e (slice_get b.roster.list e) refl lives.0 lives.1

-- whoever has a mapping lives: a guaranteed one
stands : (ms : List Mapping) (vpn : ℕ) (m : Mapping) → mapping_at ms vpn ≡ Some m → (k : ℕ) × (slice_get ms k ≡ Some m)
stands [] vpn m is = cc
stands (n ∷ ms) vpn m is = by_test (n.vpn == vpn) is (stands ms vpn m)
  where
    by_test : (test : Bool) → (if test then Some n else mapping_at ms vpn) ≡ Some m → (mapping_at ms vpn ≡ Some m → (k : ℕ) × (slice_get ms k ≡ Some m)) → (k : ℕ) × (slice_get (n ∷ ms) k ≡ Some m)
    by_test true found later = (0, found)
    by_test false found later = let there = later found in (suc there.0, there.1)

-- or one by a binding
in_row : (vpn : ℕ) (o : Option Binding) (y : Binding) → of_number vpn o ≡ Some y → o ≡ Some y
in_row vpn o y is = search (rules, is)

bound_living : (b : Shown) (e vpn : ℕ) (y : Binding) → IsSoundBoard b → binding_at b.binds.version (stripes b.binds e) vpn ≡ Some y → IsLiving b.roster.list e
bound_living b e vpn y sound bound =
    let row = row_of b.binds.version vpn in sound.books.binders e row y (in_row vpn (stripes b.binds e row) y bound)

in_living : (b : Shown) (e vpn : ℕ) (m : Mapping) (o : Option Mapping) → IsSoundBoard b → mapping_at (mappings_of b.roster.list e) vpn ≡ o → (p : Option Binding)
    → binding_at b.binds.version (stripes b.binds e) vpn ≡ p → option_or o (option_map bound_mapping p) ≡ Some m → IsLiving b.roster.list e
in_living b e vpn m (Some n) sound at p bound is =
    let place = stands (mappings_of b.roster.list e) vpn n at in
    let its = (sound.memory.mapped e).its place.0 n place.1 in
    sound.books.owners n.page e (ap owner_of its)
in_living b e vpn m None sound at None bound is = search rules
in_living b e vpn m None sound at (Some y) bound is = bound_living b e vpn y sound bound

mapped_living : (b : Shown) (e vpn : ℕ) (m : Mapping) → IsSoundBoard b → lookup_of b e vpn ≡ Some m → IsLiving b.roster.list e
unfolding lookup
mapped_living b e vpn m sound is =
    in_living b e vpn m (mapping_at (mappings_of b.roster.list e) vpn) sound refl (binding_at b.binds.version (stripes b.binds e) vpn) refl is

by_lookup : (b : Shown) (e vpn : ℕ) → leads_in b.roster.list b.binds e vpn ≡ lookup_of b e vpn
unfolding lookup
by_lookup b e vpn = refl

of_living : (b : Shown) (row : Row) → IsSoundBoard b → IsCoherent (leads_in b.roster.list b.binds) (length b.frames) row → IsOfLiving (world_of b) row
of_living b row sound (coherence.Emptied is) = Emptied is
of_living b row sound (coherence.Held h) =
    let at = sym (by_lookup b h.env h.mapping.vpn) ∙ h.mapped in
    Held (record {
      env = h.env;
      lives = living b h.env (mapped_living b h.env h.mapping.vpn h.mapping sound at);
      mapping = h.mapping;
      mapped = sym (ap (λ (f : ℕ → Option Mapping). f h.mapping.vpn) (leads_by_book b h.env)) ∙ at;
      words = h.words;
    })

pub rows_of_living : (b : Shown) → IsSoundBoard b → AreOfLiving (world_of b) b.tlb.rows
rows_of_living b sound = λ k d below. of_living b _ sound (sound.rows.coherent k d below)
