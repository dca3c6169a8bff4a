-- What an environment sent, with a handler's replies.
use Rattle.std.proofs.Common.{◌≡◌, ◌<◌, ◌≤◌, ℕ, zero, suc, List, [], ◌∷◌, ◌++◌, length, refl, sym, ◌∙◌, ap, append_assoc, arith}
use Rattle.std.specs.Prelude.{take}
use Rattle.std.proofs.lemmas.List.{append-nil, length-append}
use Rattle.std.proofs.Math.Seq.{take_all, take-append-le}
use Rattle.std.proofs.lemmas.Grind.{common_steps}
use Rattle.external_event.specs.Limits.{most_sent}
use Rattle.world_model.specs.Rings.{sent_with_replies}
use Rattle.board_model.specs.declared.roster.Environment.{Environment}
use Rattle.board_model.specs.Shown.{with_record, sent_of}
use Rattle.board_model.specs.Doing.{with_replies_sent}

-- the first of what begins with the first
taken_twice : {A : Type 0} (n : ℕ) (xs ys : List A) → take n (take n xs ++ ys) ≡ take n (xs ++ ys)
taken_twice n xs ys = grind (arith, common_steps)

-- replies one after another are all of them
replied_twice : (sent some more : List (List ℕ)) → sent_with_replies (sent_with_replies sent some) more ≡ sent_with_replies sent (some ++ more)
replied_twice sent some more = taken_twice most_sent (sent ++ some) more ∙ ap (take most_sent) (append_assoc sent some more)

pub replying_twice : (some more : List (List ℕ)) (list : List Environment) (e : ℕ) → with_record (with_replies_sent more) (with_record (with_replies_sent some) list e) e ≡ with_record (with_replies_sent (some ++ more)) list e
replying_twice some more [] e = refl
replying_twice some more (x ∷ list) zero = λ k. record x { output = record x.output { sent = replied_twice x.output.sent some more k } } ∷ list
replying_twice some more (x ∷ list) (suc e) = ap (λ xs. x ∷ xs) (replying_twice some more list e)

-- no replies change nothing, where no more is held than may be
replied_none : (sent : List (List ℕ)) → length sent ≤ most_sent → sent_with_replies sent [] ≡ sent
replied_none sent few = ap (take most_sent) (append-nil sent) ∙ take_all most_sent sent few

pub replying_none : (list : List Environment) (e : ℕ) → length (sent_of list e) ≤ most_sent → with_record (with_replies_sent []) list e ≡ list
replying_none [] e few = refl
replying_none (x ∷ list) zero few = λ k. record x { output = record x.output { sent = replied_none x.output.sent few k } } ∷ list
replying_none (x ∷ list) (suc e) few = ap (λ xs. x ∷ xs) (replying_none list e few)

-- one reply is sent where there is room for it, and else dropped
pub replied_one : (sent : List (List ℕ)) (bytes : List ℕ) → length sent < most_sent → sent ++ bytes ∷ [] ≡ sent_with_replies sent (bytes ∷ [])
replied_one sent bytes room = sym (take_all most_sent (sent ++ bytes ∷ []) (omega (arith, room, length-append sent (bytes ∷ []))))

pub replied_full : (sent : List (List ℕ)) (bytes : List ℕ) → length sent ≤ most_sent → most_sent ≤ length sent → sent ≡ sent_with_replies sent (bytes ∷ [])
replied_full sent bytes few full = sym (take-append-le most_sent sent (bytes ∷ []) full ∙ take_all most_sent sent few)
