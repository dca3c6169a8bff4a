-- What is read of a board is what its world has.
use Rattle.std.proofs.Common.{◌≡◌, ℕ, Some, is_some, sym, ap, rules}
use Rattle.std.specs.Option.{option_map}
use Rattle.std.specs.Prelude.{slice_get}
use Rattle.env_frames.specs.Frame.{mapping_at}
use Rattle.world_model.specs.Book.{running}
use Rattle.world_model.specs.PageCalls.{is_guaranteed_vpn}
use Rattle.world_model.specs.Queries.{life_at}
use Rattle.world_model.specs.Solo.{Solo, sight}
use Rattle.board_model.specs.declared.roster.Environment.{Environment}
use Rattle.board_model.specs.Shown.{Shown, console_of, mappings_of, sent_of}
use Rattle.board_model.specs.Showing.{solo_of, world_of}
use Rattle.board_model.specs.Rings.{rings_of}
use Rattle.board_model.specs.Sound.{IsSoundBoard}
use Rattle.board_model.specs.Doing.{look_of}
use Rattle.board_model.proofs.Pages.{seen_kept}
use Rattle.board_model.proofs.Seen.{its_look, runner_runs, runner_seen, kept_seen}
use Rattle.board_model.proofs.Slots.{is_there}

-- where the VPNs of the runner lead
pub runner_look : (b : Shown) (e : ℕ) → IsSoundBoard b → running b.slots.runner ≡ Some e → look_of b e ≡ sight (solo_of b e)
runner_look b e sound runs = search (rules, runner_runs, its_look, runner_seen)

-- what an environment wrote
pub console_same : (b : Shown) (e : ℕ) → console_of b.roster.list e ≡ (solo_of b e).console
console_same b e = search rules

-- and what it sent
pub sent_same : (b : Shown) (e : ℕ) → sent_of b.roster.list e ≡ (solo_of b e).sent
sent_same b e = search rules

-- the runner's registers
pub runner_registers : (b : Shown) (e : ℕ) → IsSoundBoard b → running b.slots.runner ≡ Some e → b.cpu ≡ (solo_of b e).cpu
runner_registers b e sound runs = let x = runner_runs b e sound runs in ap (λ (s : Solo). s.cpu) (sym (runner_seen b e x.0 x.1))

-- the guaranteed VPNs of an environment
pub guaranteed_same : (b : Shown) (e v : ℕ) → is_some (mapping_at (mappings_of b.roster.list e) v) ≡ is_guaranteed_vpn (solo_of b e) v
guaranteed_same b e v = search (rules, seen_kept, kept_seen)

-- the life of an environment
pub life_same : (b : Shown) (e : ℕ) → option_map (λ (x : Environment). x.life) (slice_get b.roster.list e) ≡ life_at (world_of b) e
life_same b e = search (rules, is_there)

-- the claims of the runner's
pub runner_rings : (b : Shown) (e : ℕ) → IsSoundBoard b → running b.slots.runner ≡ Some e → (solo_of b e).rings ≡ rings_of b.claims e
runner_rings b e sound runs = let x = runner_runs b e sound runs in ap (λ (s : Solo). s.rings) (runner_seen b e x.0 x.1)
