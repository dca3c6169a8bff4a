-- A deadline has come exactly if the earliest one has.
use Rattle.std.proofs.Common.{◌≡◌, ℕ, min, Bool, false, ◌||◌, List, [], ◌∷◌, Option, None, Some, refl, sym, ◌∙◌, ap, arith}
use Rattle.std.specs.Prelude.{nat_le}
use Rattle.std.specs.List.{filter_map, fold, list_any, reduce}
use Rattle.revocation_book.specs.declared.revocation.Pending.{Pending}
use Rattle.revocation_book.specs.Pending.{deadline_in, earliest_in, is_due}

-- whether a deadline, if there is one, has come
abbrev pub has_come : ℕ → Option ℕ → Bool
has_come time None = false
has_come time (Some deadline) = nat_le deadline time

-- the lower of two has come if one of them has
lower_comes : (time x y : ℕ) → nat_le (min x y) time ≡ (nat_le x time || nat_le y time)
lower_comes time x y = grind arith

-- and so the lowest of all
lowest_comes : (time x : ℕ) (xs : List ℕ) → nat_le (fold min x xs) time ≡ (nat_le x time || list_any (λ d. nat_le d time) xs)
lowest_comes time x [] = grind arith
lowest_comes time x (y ∷ ys) = rw (lowest_comes time (min x y) ys, lower_comes time x y) (grind arith)

-- of no deadline none has come
first_comes : (time : ℕ) (xs : List ℕ) → has_come time (reduce min xs) ≡ list_any (λ d. nat_le d time) xs
first_comes time [] = refl
first_comes time (x ∷ xs) = lowest_comes time x xs

-- what is due is what has come of the deadlines
due_is_come : (time : ℕ) (pending : List (Option Pending)) → list_any (is_due time) pending ≡ list_any (λ d. nat_le d time) (filter_map deadline_in pending)
due_is_come time [] = refl
due_is_come time (None ∷ pending) = due_is_come time pending
due_is_come time (Some p ∷ pending) = ap (λ b. nat_le p.deadline time || b) (due_is_come time pending)

-- so whether any is due is whether the earliest has come
pub due_by_earliest : (time : ℕ) (pending : List (Option Pending)) → list_any (is_due time) pending ≡ has_come time (earliest_in pending)
due_by_earliest time pending = due_is_come time pending ∙ sym (first_comes time (filter_map deadline_in pending))
