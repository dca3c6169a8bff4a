-- Which claims are withdrawn.
use Rattle.std.specs.Prelude.{ℕ, Bool, ◌==◌, ◌&&◌}
use Rattle.filter_tree.specs.declared.withdrawal.Withdrawal.{Withdrawal}
use Rattle.filter_tree.specs.declared.withdrawal.Withdrawal.TheVariants.{IntoPage, Numbered, OfEnv}
use Rattle.filter_tree.specs.ClaimBook.{ClaimValue}

-- whether a claim is withdrawn, by its number, its environment and its page
abbrev pub withdraws : Withdrawal → ℕ → ℕ → ℕ → Bool
withdraws (Numbered own number) id env page = id == number && env == own
withdraws (IntoPage own) id env page = page == own
withdraws (OfEnv own) id env page = env == own

abbrev pub is_withdrawn : Withdrawal → ClaimValue → Bool
is_withdrawn withdrawal c = withdraws withdrawal c.id c.env c.page
