-- What is taken at deadlines that have come.
use Rattle.std.proofs.Common.{arith, refl, sym, ◌∙◌, subst, ◌≡◌, ◌<◌, ◌≤◌, ◌+◌, ◌-◌, ℕ, suc, List, [], ◌∷◌, Bool, true, false, true≢false, ◌&&◌, Option, None, Some}
use Rattle.std.specs.Prelude.{◌==◌, if◌then◌else◌, nat_lt}
use Rattle.std.proofs.lemmas.Bool.{and_from, cond_both, eq-eqb, leb-false, leb-true, lt-ltb}
use Rattle.revocation_book.specs.declared.revocation.Pending.{Pending}
use Rattle.revocation_book.specs.declared.revocation.Taking.{Taking}
use Rattle.revocation_book.specs.Pending.{is_due, unless_due}
use Rattle.world_model.specs.Deadlines.{settles, takes, takings}
use Rattle.world_model.specs.PageCalls.{revocations}
use Rattle.world_model.specs.World.{World, after}
use Rattle.revocation_law.proofs.Serving.{allowed, few_taken, one_if, taken_from}
use Rattle.ledger_audit.specs.StrictRules.{RequestState}
use Rattle.strict_law.proofs.Requests.{Covers, Goes, IsKept, KnowsDead, are_kept, requests_from, stays_dead}

-- So many pages are left to take from an environment: they were asked for, with a deadline in this tick. If its deadline
-- hasn't come, none is left, and what is pending is covered.
pub record Serves (tick : ℕ) (pending : Option Pending) (pages deadline left : ℕ) : Type 0 where
  pub due : 0 < left → is_due tick pending ≡ true
  pub gives : 0 < left → left ≤ pages
  pub now : 0 < left → deadline ≡ tick
  pub rest : is_due tick pending ≡ false → Covers tick pending pages deadline

serves : (tick : ℕ) (pending : Option Pending) (pages deadline left : ℕ) → left ≤ allowed tick pending → Covers tick pending pages deadline → Serves tick pending pages deadline left
serves tick None pages deadline left few covers =
    record { due = λ some. absurd (omega (arith, few, some)); gives = λ some. absurd (omega (arith, few, some)); now = λ some. absurd (omega (arith, few, some)); rest = λ not. tt }
serves tick (Some p) pages deadline left few covers = by_test (is_due tick (Some p)) refl few
  where
    by_test : (due : Bool) → is_due tick (Some p) ≡ due → left ≤ (if due then p.outstanding else 0) → Serves tick (Some p) pages deadline left
    by_test true is few = record {
      due = λ some. is;
      gives = λ some. omega (arith, few, covers.most);
      now = λ some. omega (arith, leb-true p.deadline tick is, covers.ahead, covers.until);
      rest = λ not. covers;
    }
    by_test false is few =
        record { due = λ some. absurd (omega (arith, few, some)); gives = λ some. absurd (omega (arith, few, some)); now = λ some. absurd (omega (arith, few, some)); rest = λ not. covers }

-- one of them is taken
one_taken : (tick : ℕ) (pending : Option Pending) (pages deadline left : ℕ) → Serves tick pending pages deadline (1 + left) → Serves tick pending (pages - 1) deadline left
one_taken tick pending pages deadline left is = record {
  due = λ some. is.due (omega arith);
  gives = λ some. let most = is.gives (omega arith) in omega (arith, most);
  now = λ some. is.now (omega arith);
  rest = λ not. absurd (true≢false (sym (is.due (omega arith)) ∙ not));
}

-- what is over then leaves later deadlines alone
settled : (tick : ℕ) (pending : Option Pending) (pages deadline : ℕ) → Serves tick pending pages deadline 0 → Covers (suc tick) (unless_due tick pending) pages deadline
settled tick pending pages deadline is =
    cond_both (is_due tick pending) None pending (λ (o : Option Pending). Covers (suc tick) o pages deadline) (λ due. tt) (λ not. ahead pending not (is.rest not))
  where
    ahead : (o : Option Pending) → is_due tick o ≡ false → Covers tick o pages deadline → Covers (suc tick) o pages deadline
    ahead None not covers = tt
    ahead (Some p) not covers = record { some = covers.some; most = covers.most; until = covers.until; ahead = omega (arith, leb-false p.deadline tick not) }

-- while these are taken
pub record IsServing (tick : ℕ) (xs : List Taking) (w : World) (s : RequestState) : Type 0 where
  pub serves : (e : ℕ) → Serves tick (w.book.pending e) (s.pages e) (s.deadline e) (taken_from e xs)
  pub dead : KnowsDead w s

pub begins_serving : (tick : ℕ) (w : World) (s : RequestState) → w.book.time ≡ tick → IsKept tick w s → IsServing tick (takings w) w s
begins_serving tick w s time is = record {
  serves = λ e.
      serves tick (w.book.pending e) (s.pages e) (s.deadline e) (taken_from e (takings w))
      (subst (λ (n : ℕ). taken_from e (takings w) ≤ allowed n (w.book.pending e)) time (few_taken (revocations w.book) w.book.time e w.count)) (is.covers e);
  dead = is.dead;
}

-- a page is taken
pub record Takes (tick : ℕ) (x : Taking) (xs : List Taking) (w : World) (s : RequestState) : Type 0 where
  pub kept : are_kept s (takes x w).rows ≡ true
  pub now : IsServing tick xs (after w (takes x w)) (requests_from s (takes x w).rows)

pub taking_goes : (tick : ℕ) (x : Taking) (xs : List Taking) (w : World) (s : RequestState) → w.book.time ≡ tick → IsServing tick (x ∷ xs) w s → Takes tick x xs w s
taking_goes tick x xs w s time is = record {
  kept =
      let some = here.gives (omega arith) in
      let last = here.now (omega arith) in
      and_from (nat_lt 0 (s.pages x.env) && (w.book.time == s.deadline x.env)) true
      (and_from (nat_lt 0 (s.pages x.env)) (w.book.time == s.deadline x.env) (lt-ltb 0 (s.pages x.env) (omega (arith, some))) (eq-eqb w.book.time (s.deadline x.env) (time ∙ sym last))) refl;
  now = record {
    serves = λ e. by_whom e (e == x.env) (is.serves e);
    dead = λ e gone. stays_dead w (takes x w) e (is.dead e gone);
  };
}
  where
    here : Serves tick (w.book.pending x.env) (s.pages x.env) (s.deadline x.env) (1 + taken_from x.env xs)
    here = subst (λ (b : Bool). Serves tick (w.book.pending x.env) (s.pages x.env) (s.deadline x.env) (one_if b + taken_from x.env xs)) (eq-eqb x.env x.env refl) (is.serves x.env)

    by_whom : (e : ℕ) (b : Bool) → Serves tick (w.book.pending e) (s.pages e) (s.deadline e) (one_if b + taken_from e xs)
        → Serves tick (w.book.pending e) (if b then s.pages e - 1 else s.pages e) (s.deadline e) (taken_from e xs)
    by_whom e true now = one_taken tick (w.book.pending e) (s.pages e) (s.deadline e) (taken_from e xs) now
    by_whom e false now = subst (Serves tick (w.book.pending e) (s.pages e) (s.deadline e)) (omega arith) now

pub settles_goes : (tick : ℕ) (w : World) (s : RequestState) → w.book.time ≡ tick → IsServing tick [] w s → Goes (suc tick) w (settles w) s
settles_goes tick w s time is = record {
  kept = refl;
  now = record {
    covers = λ e.
        subst (λ (n : ℕ). Covers (suc tick) (unless_due n (w.book.pending e)) (s.pages e) (s.deadline e)) (sym time) (settled tick (w.book.pending e) (s.pages e) (s.deadline e) (is.serves e));
    dead = λ e gone. stays_dead w (settles w) e (is.dead e gone);
  };
}
