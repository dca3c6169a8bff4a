-- What rows make of requests, and how the state of these covers what is pending in a world.
use Rattle.std.proofs.Common.{arith, refl, sym, ◌∙◌, ap, subst, ◌≡◌, ◌<◌, ◌≤◌, ◌-◌, ℕ, List, [], ◌∷◌, ◌++◌, Bool, true, false, ◌&&◌, Option, None, Some}
use Rattle.std.specs.Prelude.{◌==◌, if◌then◌else◌}
use Rattle.std.specs.List.{AllByRecursion, list_all}
use Rattle.std.proofs.lemmas.Bool.{and_from, and_parts, cond_both, eqb-false}
use Rattle.kernel_journal.specs.declared.row.Row.{Row}
use Rattle.kernel_journal.specs.declared.row.Row.TheVariants as row
use Rattle.revocation_book.specs.declared.revocation.Pending.{Pending}
use Rattle.revocation_book.specs.Pending.{lowered}
use Rattle.world_model.specs.Item.{Item, absorb, absorb_all, absorbed}
use Rattle.world_model.specs.Solo.{Solo, is_dead}
use Rattle.world_model.specs.World.{World, Reply, after, followed}
use Rattle.run_model.proofs.Phases.{after_followed}
use Rattle.ledger_audit.specs.StrictRules.{RequestState, are_strict, are_there, is_strict_by_kind, requests_after}

abbrev pub requests_from : RequestState → List Row → RequestState
requests_from q [] = q
requests_from q (r ∷ rows) = requests_from (requests_after r q) rows

-- whether rows keep the rules but for whom they name
abbrev pub are_kept : RequestState → List Row → Bool
are_kept q [] = true
are_kept q (r ∷ rows) = is_strict_by_kind q r && are_kept (requests_after r q) rows

pub requests_both : (q : RequestState) (xs ys : List Row) → requests_from q (xs ++ ys) ≡ requests_from (requests_from q xs) ys
requests_both q [] ys = refl
requests_both q (x ∷ xs) ys = requests_both (requests_after x q) xs ys

pub kept_both : (q : RequestState) (xs ys : List Row) → are_kept q xs ≡ true → are_kept (requests_from q xs) ys ≡ true → are_kept q (xs ++ ys) ≡ true
kept_both q [] ys first second = second
kept_both q (x ∷ xs) ys first second =
    let parts = and_parts (is_strict_by_kind q x) (are_kept (requests_after x q) xs) first in
    and_from (is_strict_by_kind q x) (are_kept (requests_after x q) (xs ++ ys)) parts.0 (kept_both (requests_after x q) xs ys parts.1 second)

-- with whom they name
pub strict_from : (n : ℕ) (q : RequestState) (rows : List Row) → AllByRecursion (λ (r : Row). are_there n r ≡ true) rows → are_kept q rows ≡ true → are_strict n q rows ≡ true
strict_from n q [] there kept = refl
strict_from n q (r ∷ rows) (here, there) kept =
    let parts = and_parts (is_strict_by_kind q r) (are_kept (requests_after r q) rows) kept in
    and_from (are_there n r && is_strict_by_kind q r) (are_strict n (requests_after r q) rows) (and_from (are_there n r) (is_strict_by_kind q r) here parts.0)
    (strict_from n (requests_after r q) rows there parts.1)

-- Rows that say nothing of requests, of packets, or of a death.
abbrev pub is_quiet : Row → Bool
is_quiet (row.Dead t slot e) = false
is_quiet (row.Asked t e pages deadline) = false
is_quiet (row.Take t e page backup) = false
is_quiet (row.Unclaimed t size) = false
is_quiet r = true

abbrev pub AreQuiet : List Row → Type 0
AreQuiet rows = list_all is_quiet rows ≡ true

quiet_row : (q : RequestState) (r : Row) → is_quiet r ≡ true → (requests_after r q ≡ q) × (is_strict_by_kind q r ≡ true)
quiet_row q (row.Dead t slot e) quiet = cc
quiet_row q (row.Asked t e pages deadline) quiet = cc
quiet_row q (row.Take t e page backup) quiet = cc
quiet_row q (row.Unclaimed t size) quiet = cc
quiet_row q r quiet = (refl, refl)

pub quiet_rows : (q : RequestState) (rows : List Row) → AreQuiet rows → (requests_from q rows ≡ q) × (are_kept q rows ≡ true)
quiet_rows q [] quiet = (refl, refl)
quiet_rows q (r ∷ rows) quiet =
    let parts = and_parts (is_quiet r) (list_all is_quiet rows) quiet in
    let here = quiet_row q r parts.0 in
    let rest = quiet_rows q rows parts.1 in (
      ap (λ (s : RequestState). requests_from s rows) here.0 ∙ rest.0,
      and_from (is_strict_by_kind q r) (are_kept (requests_after r q) rows) here.1 (subst (λ (s : RequestState). are_kept s rows ≡ true) (sym here.0) rest.1),
    )

pub quiet_both : (xs ys : List Row) → AreQuiet xs → AreQuiet ys → AreQuiet (xs ++ ys)
quiet_both [] ys first second = second
quiet_both (x ∷ xs) ys first second =
    let parts = and_parts (is_quiet x) (list_all is_quiet xs) first in
    and_from (is_quiet x) (list_all is_quiet (xs ++ ys)) parts.0 (quiet_both xs ys parts.1 second)

-- What is pending, if anything is, was asked for, with no fewer pages and this deadline, which is from this tick on.
pub record IsCovered (time : ℕ) (p : Pending) (pages deadline : ℕ) : Type 0 where
  pub some : 0 < p.outstanding
  pub most : p.outstanding ≤ pages
  pub until : p.deadline ≡ deadline
  pub ahead : time ≤ p.deadline

abbrev pub Covers : ℕ → Option Pending → ℕ → ℕ → Type 0
Covers time None pages deadline = Unit {0}
Covers time (Some p) pages deadline = IsCovered time p pages deadline

-- what is pending stays, is a page fewer, or is over
pub data Eased (before becomes : Option Pending) : Type 0 where
  Same : becomes ≡ before → Eased before becomes
  Fewer : becomes ≡ lowered before → Eased before becomes
  Over : becomes ≡ None → Eased before becomes

covers_lowered : (time : ℕ) (before : Option Pending) (pages deadline : ℕ) → Covers time before pages deadline → Covers time (lowered before) pages deadline
covers_lowered time None pages deadline covers = tt
covers_lowered time (Some p) pages deadline covers =
    let left = p.outstanding - 1 in
    cond_both (left == 0) None (Some (record { outstanding = left; deadline = p.deadline })) (λ (o : Option Pending). Covers time o pages deadline) (λ none. tt)
    (λ more. record { some = omega (arith, eqb-false left 0 more); most = omega (arith, covers.most); until = covers.until; ahead = covers.ahead })

pub covers_eased : (time : ℕ) (before becomes : Option Pending) (pages deadline : ℕ) → Eased before becomes → Covers time before pages deadline → Covers time becomes pages deadline
covers_eased time before becomes pages deadline (Same is) covers = subst (λ (o : Option Pending). Covers time o pages deadline) (sym is) covers
covers_eased time before becomes pages deadline (Fewer is) covers = subst (λ (o : Option Pending). Covers time o pages deadline) (sym is) (covers_lowered time before pages deadline covers)
covers_eased time before becomes pages deadline (Over is) covers = subst (λ (o : Option Pending). Covers time o pages deadline) (sym is) tt

-- Who is dead by the rows is dead in the world, and whoever is dead stays so.
abbrev pub KnowsDead : World → RequestState → Type 0
KnowsDead w s = (e : ℕ) → s.dead e ≡ true → is_dead (w.solos e).life ≡ true

absorb_dead : (s : Solo) (item : Item) → is_dead s.life ≡ true → absorb s item ≡ s
absorb_dead s item gone = ap (λ (b : Bool). if b then s else absorbed s item) gone

dead_stays : (items : List Item) (s : Solo) → is_dead s.life ≡ true → is_dead (absorb_all s items).life ≡ true
dead_stays [] s gone = gone
dead_stays (item ∷ items) s gone = dead_stays items (absorb s item) (ap (λ (t : Solo). is_dead t.life) (absorb_dead s item gone) ∙ gone)

pub stays_dead : (w : World) (r : Reply) (e : ℕ) → is_dead (w.solos e).life ≡ true → is_dead ((after w r).solos e).life ≡ true
stays_dead w r e gone = dead_stays (r.items e) (w.solos e) gone

-- The requests that rows tell cover what is pending.
pub record IsKept (time : ℕ) (w : World) (s : RequestState) : Type 0 where
  pub covers : (e : ℕ) → Covers time (w.book.pending e) (s.pages e) (s.deadline e)
  pub dead : KnowsDead w s

-- a reply keeps the rules, and the requests cover what is pending after it
pub record Goes (time : ℕ) (w : World) (r : Reply) (s : RequestState) : Type 0 where
  pub kept : are_kept s r.rows ≡ true
  pub now : IsKept time (after w r) (requests_from s r.rows)

pub goes_followed : (time : ℕ) (w : World) (first second : Reply) (s : RequestState) → Goes time w first s → Goes time (after w first) second (requests_from s first.rows)
    → Goes time w (followed first second) s
goes_followed time w first second s before behind = record {
  kept = kept_both s first.rows second.rows before.kept behind.kept;
  now =
      subst (λ (v : World). IsKept time v (requests_from s (first.rows ++ second.rows))) (sym (after_followed w first second))
      (subst (IsKept time (after (after w first) second)) (sym (requests_both s first.rows second.rows)) behind.now);
}

-- a reply whose rows are quiet
pub quiet_goes : (time : ℕ) (w : World) (r : Reply) (s : RequestState) → AreQuiet r.rows → ((e : ℕ) → Eased (w.book.pending e) (r.book.pending e)) → IsKept time w s → Goes time w r s
quiet_goes time w r s quiet eased is =
    let rows = quiet_rows s r.rows quiet in
    record {
      kept = rows.1;
      now = subst (IsKept time (after w r)) (sym rows.0) (record {
        covers = λ e. covers_eased time (w.book.pending e) (r.book.pending e) (s.pages e) (s.deadline e) (eased e) (is.covers e);
        dead = λ e gone. stays_dead w r e (is.dead e gone);
      });
    }
