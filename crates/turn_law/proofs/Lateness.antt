-- When the next turn is at the latest, and how far a slot's turn is.
use Rattle.std.proofs.Common.{arith, refl, ap, ◌≡◌, ◌<◌, ◌≤◌, ◌+◌, ◌-◌, inl, inr, ℕ, List, [], ◌∷◌, true, false, Option, None, Some}
use Rattle.std.proofs.lemmas.Bool.{cases_lt}
use Rattle.aegis_limits.specs.Limits.{excess_limit}
use Rattle.kernel_journal.specs.declared.row.Row.{Row}
use Rattle.kernel_journal.specs.RowTable.{time_of}
use Rattle.world_model.specs.declared.slot.Phase.{Phase}
use Rattle.world_model.specs.declared.slot.Phase.TheVariants as phase
use Rattle.ledger_audit.specs.LedgerState.{LedgerState, excess_in, limit_by, limit_in}
use Rattle.turn_law.specs.TurnLaw.{longest_turn}
use Rattle.turn_law.proofs.Amounts.{longest_is, quanta, quanta_more, quanta_most, rounds, turns, turns_more, turns_most}
use Rattle.turn_law.proofs.Distance.{distance, far_within}
use Rattle.turn_law.proofs.Keeping.{IsSound}
use Rattle.turn_law.proofs.Rules.{dies_at}

-- The tick of the next turn, where nobody runs. In own time a longest turn after the slice began; in grace as many quanta
-- after the last one began as the excess may still rise.
abbrev pub latest_by : ℕ → Option ℕ → Phase → ℕ → ℕ → ℕ → (ℕ → ℕ) → ℕ
latest_by q None phase slice grace turn excess = turn
latest_by q (Some who) phase.Own slice grace turn excess = slice + longest_turn q
latest_by q (Some who) phase.Grace slice grace turn excess = grace + 1 + quanta q (excess_limit + 1 - excess who)

abbrev pub latest : ℕ → LedgerState → ℕ
latest q s = latest_by q s.runner s.phase s.slice_start s.grace_start s.turn (excess_in s)

-- how many turns are before that of an environment's slot
abbrev pub far : ℕ → ℕ → ℕ → LedgerState → ℕ
far count slot e s = distance slot count s.cursor + rounds count (excess_in s e)

-- The turn is before a bound.
abbrev pub IsSoon : ℕ → ℕ → ℕ → Type 0
IsSoon q bound late = late < bound + longest_turn q

pub soon_less : (q bound a b f g : ℕ) → b ≤ a → g ≤ f → IsSoon q bound (a + turns q f) → IsSoon q bound (b + turns q g)
soon_less q bound a b f g less near soon = let most = turns_most q g f near in omega (arith, less, most, soon)

pub soon_turn : (q bound a b f g : ℕ) → b ≤ a + longest_turn q → g + 1 ≤ f → IsSoon q bound (a + turns q f) → IsSoon q bound (b + turns q g)
soon_turn q bound a b f g less near soon =
    let most = turns_most q (g + 1) f near in
    let more = turns_more q g in
    omega (arith, less, most, more, soon)

pub soon_early : (q bound a f : ℕ) → 1 ≤ f → IsSoon q bound (a + turns q f) → a < bound
soon_early q bound a f some soon =
    let most = turns_most q 1 f some in
    let more = turns_more q 0 in
    omega (arith, most, more, soon)

pub some_far : (count slot e : ℕ) (s : LedgerState) → slot < count → 1 ≤ far count slot e s
some_far count slot e s there = let within = far_within slot count s.cursor there in omega (arith, within.0)

-- a tick within the quantum is before the next turn
stops_by : (q : ℕ) (o : Option ℕ) (p : Phase) (slice grace turn : ℕ) (excess : ℕ → ℕ) (who time : ℕ) → 1 ≤ q → o ≡ Some who → time ≤ limit_by q slice grace p
    → (excess_limit < excess who → time ≤ grace) → time + 1 ≤ latest_by q o p slice grace turn excess
stops_by q None p slice grace turn excess who time some is within above = cc
stops_by q (Some n) phase.Own slice grace turn excess who time some is within above = omega (arith, some, within)
stops_by q (Some n) phase.Grace slice grace turn excess who time some is within above =
    let same : n ≡ who = cc in
    let owed : excess n ≡ excess who = ap excess same in
    elim (cases_lt excess_limit (excess who)) [
      | inl many ↦ let early = above many in omega (arith, early)
      | inr few ↦
          let left = excess_limit - excess n in
          let more = quanta_more q left in
          let is : excess_limit + 1 - excess n ≡ left + 1 = omega (arith, few, owed) in
          let all : quanta q (excess_limit + 1 - excess n) ≡ quanta q (left + 1) = ap (quanta q) is in
          omega (arith, within, more, all)
    ]

pub row_in_slice : (q : ℕ) (s : LedgerState) (r : Row) (rows : List Row) (who : ℕ) → 1 ≤ q → IsSound s (r ∷ rows) → s.runner ≡ Some who → time_of r ≤ limit_in q s
    → time_of r + 1 ≤ latest q s
row_in_slice q s r rows who some sound runs within =
    stops_by q s.runner s.phase s.slice_start s.grace_start s.turn (excess_in s) who (time_of r) some runs within
    (λ above. let same = dies_at s.grace_start who r rows (sound.modest who above) in omega (arith, same))

pub end_in_slice : (q : ℕ) (s : LedgerState) (who time : ℕ) → 1 ≤ q → IsSound s [] → s.runner ≡ Some who → time ≤ limit_in q s → time + 1 ≤ latest q s
end_in_slice q s who time some sound runs within =
    stops_by q s.runner s.phase s.slice_start s.grace_start s.turn (excess_in s) who time some runs within
    (λ above. let never : false ≡ true = sound.modest who above in cc)

-- own time
pub own_latest : (q : ℕ) (o : Option ℕ) (p : Phase) (slice grace turn : ℕ) (excess : ℕ → ℕ) (who : ℕ) → o ≡ Some who → p ≡ phase.Own → latest_by q o p slice grace turn excess ≡ slice + longest_turn q
own_latest q None p slice grace turn excess who is own = cc
own_latest q (Some n) phase.Own slice grace turn excess who is own = refl
own_latest q (Some n) phase.Grace slice grace turn excess who is own = cc

pub own_limit : (q : ℕ) (p : Phase) (slice grace : ℕ) → p ≡ phase.Own → limit_by q slice grace p ≡ slice + q - 1
own_limit q phase.Own slice grace own = refl
own_limit q phase.Grace slice grace own = cc

-- grace begins at the end of a slice
pub grace_begins : (q slice time owed : ℕ) → 1 ≤ q → time ≡ slice + q - 1 → time + 1 + quanta q (excess_limit + 1 - owed) ≤ slice + longest_turn q
grace_begins q slice time owed some is =
    let most = quanta_most q (excess_limit + 1 - owed) 9 (omega arith) in
    let all = longest_is q in
    omega (arith, some, is, most, all)

-- and goes on with one quantum more that is owed
pub grace_latest : (q : ℕ) (o : Option ℕ) (p : Phase) (slice grace turn : ℕ) (excess : ℕ → ℕ) (who : ℕ) → o ≡ Some who → p ≡ phase.Grace
    → latest_by q o p slice grace turn excess ≡ grace + 1 + quanta q (excess_limit + 1 - excess who)
grace_latest q None p slice grace turn excess who is in_grace = cc
grace_latest q (Some n) phase.Own slice grace turn excess who is in_grace = cc
grace_latest q (Some n) phase.Grace slice grace turn excess who is in_grace = let same : n ≡ who = cc in ap (λ (m : ℕ). grace + 1 + quanta q (excess_limit + 1 - excess m)) same

pub grace_limit : (q : ℕ) (p : Phase) (slice grace : ℕ) → p ≡ phase.Grace → limit_by q slice grace p ≡ grace + q
grace_limit q phase.Own slice grace in_grace = cc
grace_limit q phase.Grace slice grace in_grace = refl

pub grace_goes_on : (q grace time owed more : ℕ) → time ≡ grace + q → owed ≤ excess_limit → more ≡ owed + 1
    → time + 1 + quanta q (excess_limit + 1 - more) ≤ grace + 1 + quanta q (excess_limit + 1 - owed)
grace_goes_on q grace time owed more is few next =
    let left = excess_limit - owed in
    let one = quanta_more q left in
    let before : excess_limit + 1 - owed ≡ left + 1 = omega (arith, few) in
    let after : excess_limit + 1 - more ≡ left = omega (arith, next) in
    let all : quanta q (excess_limit + 1 - owed) ≡ quanta q (left + 1) = ap (quanta q) before in
    let rest : quanta q (excess_limit + 1 - more) ≡ quanta q left = ap (quanta q) after in
    omega (arith, is, one, all, rest)
