-- The guaranteed mappings of the environments, once one of them is another, or there is one more.
use Rattle.std.proofs.Common.{◌≡◌, ◌≢◌, ℕ, zero, suc, List, [], ◌∷◌, ◌++◌, length, refl, ap, rules}
use Rattle.env_frames.specs.declared.mapping.Mapping.{Mapping}
use Rattle.world_model.specs.declared.life.Cause.{Cause}
use Rattle.world_model.specs.Table.{set_at}
use Rattle.board_model.specs.declared.roster.Environment.{Environment}
use Rattle.board_model.specs.Shown.{mappings_in, mappings_of, with_record}
use Rattle.board_model.specs.Doing.{dead_frame}
use Rattle.board_model.proofs.Lists.{changed_else, last_get, other_get}
use Rattle.board_model.proofs.Parts.{by_env, set_here, set_else}
use Rattle.board_model.proofs.Sound.{Keeps}

pub kept_mappings : (f : Environment → Environment) → Keeps f → (list : List Environment) (e i : ℕ) → mappings_of (with_record f list e) i ≡ mappings_of list i
kept_mappings f keeps [] e i = refl
kept_mappings f keeps (x ∷ list) zero zero = keeps.mappings x
kept_mappings f keeps (x ∷ list) zero (suc i) = refl
kept_mappings f keeps (x ∷ list) (suc e) zero = refl
kept_mappings f keeps (x ∷ list) (suc e) (suc i) = kept_mappings f keeps list e i

pub lost_mappings : (cause : Cause) (list : List Environment) (e : ℕ) → mappings_of (with_record (dead_frame cause) list e) e ≡ []
lost_mappings cause [] e = refl
lost_mappings cause (x ∷ list) zero = refl
lost_mappings cause (x ∷ list) (suc e) = lost_mappings cause list e

-- of all, once one is dead
pub dead_mappings : (cause : Cause) (list : List Environment) (e i : ℕ) → mappings_of (with_record (dead_frame cause) list e) i ≡ set_at e [] (mappings_of list) i
dead_mappings cause list e = search (rules, by_env, lost_mappings, set_here, changed_else, set_else)

-- the mappings of the last, and of the others
pub last_mappings : (list : List Environment) (x : Environment) → mappings_of (list ++ x ∷ []) (length list) ≡ x.env.mappings
last_mappings list x = ap mappings_in (last_get list x)

pub other_mappings : (list : List Environment) (x : Environment) (i : ℕ) → i ≢ length list → mappings_of (list ++ x ∷ []) i ≡ mappings_of list i
other_mappings list x i ne = ap mappings_in (other_get list x i ne)

-- of all, once there is one more
pub more_mappings : (list : List Environment) (x : Environment) (ms : List Mapping) → x.env.mappings ≡ ms → (i : ℕ) → mappings_of (list ++ x ∷ []) i ≡ set_at (length list) ms (mappings_of list) i
more_mappings list x ms is = search (rules, by_env, last_mappings, set_here, other_mappings, set_else)
