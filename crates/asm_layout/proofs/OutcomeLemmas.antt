-- What holds of the value that a chain of steps ends with.
use Rattle.std.proofs.Common.{◌≡◌, ℕ, Bool, true, false, Result, Ok, Err, IfOk, refl, cond}
use Rattle.line_text.specs.Failing.{in_line}
use Rattle.line_text.specs.Outcome.{◌>>=◌}

-- a step, and one that goes on from its value
pub if_then : {A B E : Type 0} (P : A → Type 0) (Q : B → Type 0) (r : Result A E) (f : A → Result B E) → IfOk r P → ((x : A) → P x → IfOk (f x) Q) → IfOk (r >>= f) Q
if_then P Q (Ok x) f first next = next x first
if_then P Q (Err e) f first next = tt

-- the same, whatever the step gives
pub any_then : {A B E : Type 0} (Q : B → Type 0) (r : Result A E) (f : A → Result B E) → ((x : A) → IfOk (f x) Q) → IfOk (r >>= f) Q
any_then Q (Ok x) f next = next x
any_then Q (Err e) f next = tt

-- a test before a step
pub if_chosen : {A E : Type 0} (P : A → Type 0) (b : Bool) (r : Result A E) (e : E) → (b ≡ true → IfOk r P) → IfOk (cond b r (Err e)) P
if_chosen P true r e next = next refl
if_chosen P false r e next = tt

-- and one before a fault
pub if_other : {A E : Type 0} (P : A → Type 0) (b : Bool) (r : Result A E) (e : E) → (b ≡ false → IfOk r P) → IfOk (cond b (Err e) r) P
if_other P true r e next = tt
if_other P false r e next = next refl

pub if_in_line : {A W : Type 0} (P : A → Type 0) (line : ℕ) (r : Result A W) → IfOk r P → IfOk (in_line line r) P
if_in_line P line (Ok x) known = known
if_in_line P line (Err e) known = tt
