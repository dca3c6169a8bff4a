-- Files by pairs, one pair behind another.
use Rattle.std.proofs.Common.{◌≡◌, ℕ, zero, suc, ◌+◌, ◌*◌, ◌%◌, ◌<◌, ◌≤◌, List, [], ◌∷◌, ◌++◌, Option, drop, length, get_or, refl, sym, ◌∙◌, ap, subst, arith, inl, inr, true}
use Rattle.std.specs.Prelude.{Vec, nat_le, ◌==◌, ◌&&◌}
use Rattle.std.specs.Global.{Global}
use Rattle.std.proofs.lemmas.Bool.{and_parts, cases_lt, leb-true}
use Rattle.std.proofs.lemmas.List.{drop_more, get_or_append_left, get_or_at}
use Rattle.boot_image.specs.ImageFaults.{image_fault}
use Rattle.boot_schedule.specs.Schedule.{schedule_fault}
use Rattle.external_event.specs.EventValue.{EventValue}
use Rattle.board_model.specs.Shown.{Shown}
use Rattle.wire_model.specs.Limits.{most_machines}
use Rattle.wire_model.specs.Wire.{joined}
use Rattle.commands.specs.Command.{content}
use Rattle.commands.specs.Due.{Due, unless_refused}
use Rattle.aegis_command.specs.Pairs.{IsMachine}
use Rattle.aegis_command.specs.SystemFiles.{AreSound}
use Rattle.aegis_command.specs.SystemDue.{image_refused, schedule_refused}
use Rattle.aegis_command.specs.WireMachines.{are_pairs, refusals}

two_more : (xs : List (List ℕ)) (n : ℕ) → n + 1 < length xs → drop n xs ≡ get_or xs n [] ∷ get_or xs (n + 1) [] ∷ drop (n + 2) xs
two_more xs n within =
    let next : n + 1 + 1 ≡ n + 2 = omega arith in
    drop_more xs n [] (omega arith)
    ∙ ap (λ (ys : List (List ℕ)). get_or xs n [] ∷ ys)
    (drop_more xs (n + 1) [] within ∙ ap (λ (m : ℕ). get_or xs (n + 1) [] ∷ drop m xs) next)

module _ (names contents : List (List ℕ)) (pair : ℕ) (within : 2 * pair + 1 < length names) (same : length contents ≡ length names) where
  abbrev behind : List (Option Due)
  behind = refusals (drop (2 * (pair + 1)) names) (drop (2 * (pair + 1)) contents)

  abbrev now : List (Option Due)
  now =
      image_refused (get_or names (2 * pair) []) (image_fault (content contents (2 * pair)))
      ∷ schedule_refused (get_or names (2 * pair + 1) []) (schedule_fault (content contents (2 * pair + 1))) ∷ behind

  pub refusals_more : refusals (drop (2 * pair) names) (drop (2 * pair) contents) ≡ now
  refusals_more =
      let n = 2 * pair in
      let next : n + 2 ≡ 2 * (pair + 1) = omega arith in
      ap (λ (xs : List (List ℕ)). refusals xs (drop n contents)) (two_more names n within)
      ∙ ap (λ (ys : List (List ℕ)). refusals (get_or names n [] ∷ get_or names (n + 1) [] ∷ drop (n + 2) names) ys) (two_more contents n (omega arith))
      ∙ ap (λ (m : ℕ). image_refused (get_or names n []) (image_fault (content contents n)) ∷ schedule_refused (get_or names (n + 1) []) (schedule_fault (content contents (n + 1)))
      ∷ refusals (drop m names) (drop m contents)) next

  -- where neither has a fault, the first that has one is behind them
  pub sound_more : AreSound (content contents (2 * pair)) (content contents (2 * pair + 1)) → (due : Due) → unless_refused (refusals (drop (2 * pair) names) (drop (2 * pair) contents)) due ≡ unless_refused behind due
  sound_more sound due =
      ap (λ (xs : List (Option Due)). unless_refused xs due) refusals_more ∙ rw (sound.image, sound.schedule) refl

-- one machine more
pub each_more : (contents : List (List ℕ)) (boards : List Shown) (schedules : List (Vec EventValue Global)) (n : ℕ) (board : Shown) (events : Vec EventValue Global)
    → length boards ≡ n → length schedules ≡ n
    → ((i : ℕ) (b : Shown) (v : Vec EventValue Global) → i < n → IsMachine (content contents (2 * i)) (content contents (2 * i + 1)) (get_or boards i b) (get_or schedules i v).items)
    → IsMachine (content contents (2 * n)) (content contents (2 * n + 1)) board events.items
    → (i : ℕ) (b : Shown) (v : Vec EventValue Global) → i < n + 1 → IsMachine (content contents (2 * i)) (content contents (2 * i + 1)) (get_or (boards ++ board ∷ []) i b) (get_or (schedules ++ events ∷ []) i v).items
each_more contents boards schedules n board events count also each one i b v less =
    elim (cases_lt i n) [
      | inl below ↦
          subst (λ (x : Shown). IsMachine (content contents (2 * i)) (content contents (2 * i + 1)) x (get_or (schedules ++ events ∷ []) i v).items) (sym (get_or_append_left boards (board ∷ []) b i (omega arith)))
          (subst (λ (x : Vec EventValue Global). IsMachine (content contents (2 * i)) (content contents (2 * i + 1)) (get_or boards i b) x.items) (sym (get_or_append_left schedules (events ∷ []) v i (omega arith))) (each i b v below))
      | inr past ↦
          let here : n ≡ i = omega arith in
          subst (λ (k : ℕ). IsMachine (content contents (2 * k)) (content contents (2 * k + 1)) (get_or (boards ++ board ∷ []) k b) (get_or (schedules ++ events ∷ []) k v).items) here
          (subst (λ (x : Shown). IsMachine (content contents (2 * n)) (content contents (2 * n + 1)) x (get_or (schedules ++ events ∷ []) n v).items) (sym (get_or_at boards board [] b n count))
          (subst (λ (x : Vec EventValue Global). IsMachine (content contents (2 * n)) (content contents (2 * n + 1)) board x.items) (sym (get_or_at schedules events [] v n also)) one))
    ]

-- of a list that has an element there is one
pub with_one : {A P : Type 0} (xs : List A) (i : ℕ) → i < length xs → (A → P) → P
with_one [] i less f = grind (arith, less)
with_one (x ∷ xs) i less f = f x

-- lists that are the same, place by place, are so one behind another
pub joined_same : (f g : ℕ → List ℕ) (n : ℕ) → ((i : ℕ) → i < n → f i ≡ g i) → joined f n ≡ joined g n
joined_same f g zero same = refl
joined_same f g (suc n) same =
    ap (λ (xs : List ℕ). xs ++ f n) (joined_same f g n (λ i less. same i (omega (arith, less))))
    ∙ ap (λ (xs : List ℕ). joined g n ++ xs) (same n (omega arith))

-- pairs of files are two files at least
pub enough : (names : List (List ℕ)) → are_pairs names ≡ true → 2 ≤ length names
enough names pairs =
    let even = length names % 2 == 0 in
    let few = nat_le (length names) (2 * most_machines) in
    let some = nat_le 2 (length names) in
    leb-true 2 (length names) (and_parts even some (and_parts (even && some) few pairs).0).1
