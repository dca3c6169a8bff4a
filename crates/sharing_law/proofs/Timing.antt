-- The timer: a runner is told of its end, has grace, or dies of its excess.
use Rattle.std.proofs.lemmas.Grind.{common_steps}
use Rattle.std.proofs.Common.{◌≡◌, ◌≢◌, ℕ, zero, suc, ◌+◌, List, [], ◌∷◌, ◌++◌, Bool, true, Option, Some, None, refl, sym, ◌∙◌, ap, subst, arith}
use Rattle.std.proofs.lemmas.Bool.{eq-eqb}
use Rattle.std.proofs.lemmas.List.{append-nil}
use Rattle.std.specs.Prelude.{◌==◌, ◌-◌, if◌then◌else◌}
use Rattle.kernel_journal.specs.declared.row.Row.{Row}
use Rattle.kernel_journal.specs.declared.row.Row.TheVariants as row
use Rattle.page_book.specs.Row.{belongs_to, is_owned_by}
use Rattle.page_book.proofs.Owners.{released_owned}
use Rattle.bind_book.specs.declared.binding.Binding.{Binding}
use Rattle.world_model.specs.declared.life.Life.TheVariants.{Live}
use Rattle.world_model.specs.declared.life.Cause.TheVariants as cause
use Rattle.world_model.specs.declared.slot.Runner.{Runner}
use Rattle.world_model.specs.Table.{set_at}
use Rattle.world_model.specs.Book.{Book}
use Rattle.world_model.specs.Death.{death, death_items, lost_with}
use Rattle.world_model.specs.Solo.{Solo, dead}
use Rattle.world_model.specs.Item.{Item, End, Killed, absorb, absorb_all}
use Rattle.world_model.specs.PageCalls.{lost_bindings, page_bytes}
use Rattle.world_model.specs.SlotCalls.{stop_row}
use Rattle.world_model.specs.Step.{Dies}
use Rattle.world_model.specs.Tick.{act_reply, clock, count_when, grace_of, kill, owes_more, timer, timer_reply, timer_now}
use Rattle.world_model.specs.declared.timer.Timer.{Timer}
use Rattle.world_model.specs.declared.timer.Timer.TheVariants as answer
use Rattle.world_model.specs.World.{World, Reply, after, in_turn, no_items, only, tells}
use Rattle.run_model.specs.Excess.{IsRunnerLive}
use Rattle.run_model.proofs.Phases.{in_turn_is_each}
use Rattle.run_model.proofs.Telling.{told_other, told_own}
use Rattle.sharing_law.specs.Agreement.{AreBoundAllocated, IsAllocated}
use Rattle.sharing_law.proofs.Given.{IsRested, Tells, absorbs, dead_absorbs, given_rests, rests_same, told_death}
use Rattle.sharing_law.proofs.Sound.{Sound, owner_bytes}
use Rattle.sharing_law.proofs.Brings.{Brings, death_keeps}
use Rattle.sharing_law.proofs.Replies.{Remains}
use Rattle.sharing_law.proofs.Claimed.{Claimed, claimed_alike, good_same}
use Rattle.sharing_law.proofs.Claiming.{Claiming, death_claims}
use Rattle.sharing_law.proofs.Stepping.{Follows, all_see, claimed_following, sound_following}
use Rattle.sharing_law.proofs.Turning.{IsAlike, bytes_alike, sound_alike}

-- The runner is killed: it is dead, the others lose what they had bound of its pages, and the book is that after its death, at some time.
pub record IsKilled (w : World) (e : ℕ) (r : Reply) : Type 0 where
  pub excess : ℕ → ℕ
  pub time : ℕ
  pub book : r.book ≡ record (death w e).book { excess = excess; time = time }
  pub own : (after w r).solos e ≡ absorb (w.solos e) Killed
  pub others : (i : ℕ) → i ≢ e → (after w r).solos i ≡ absorb_all (w.solos i) (death_items w.book e i)

-- What comes of the timer: all goes on, or the runner dies of its excess.
pub data Comes (w : World) (r : Reply) : Type 0 where
  Passed : IsAlike w (after w r) → Comes w r
  Died : (x : Runner) → w.book.runner ≡ Some x → IsKilled w x.env r → Comes w r

-- what the others lose with an environment is the same whatever is owed
lost_owing : (b : Book) (excess : ℕ → ℕ) (gone i n : ℕ) → lost_with (record b { excess = excess }) gone i n ≡ lost_with b gone i n
lost_owing b excess gone i zero = refl
lost_owing b excess gone i (suc n) = ap (λ items. items ++ (if belongs_to gone (b.pages n) then lost_bindings b n i else [])) (lost_owing b excess gone i n)

death_owing : (b : Book) (excess : ℕ → ℕ) (gone i : ℕ) → death_items (record b { excess = excess }) gone i ≡ death_items b gone i
death_owing b excess gone i = ap (λ items. if i == gone then [] else items) (lost_owing b excess gone i b.page_count)

module _ (w : World) where
  passes : (runner : Option Runner) (items : ℕ → List Item) (rows : List Row) → ((i : ℕ) → IsRested (w.solos i) (absorb_all (w.solos i) (items i)))
      → Comes w (record { book = record w.book { runner = runner }; items = items; rows = rows })
  passes runner items rows rests = Passed (record { solos = rests; lists = record { version = refl; pages = refl; binds = refl; claims = refl; next = refl; backups = refl; kept = refl; lines = refl; count = refl } })

  module _ (r : Runner) (runs : w.book.runner ≡ Some r) where
    -- the world once its excess has risen, and once it is told that it is killed
    abbrev owing : World
    owing = after w (owes_more r.env w)

    abbrev doomed : World
    doomed = after owing (tells r.env Killed owing)

    killed : after w (timer_reply r answer.Kill w) ≡ after doomed (death doomed r.env)
    killed = in_turn_is_each w (owes_more r.env ∷ kill r.env ∷ []) ∙ in_turn_is_each owing (tells r.env Killed ∷ act_reply r.env (Dies cause.Excess) ∷ [])

    answer_comes : (what : Timer) → Comes w (timer_reply r what w)
    answer_comes answer.Nothing = passes (Some (record r { left = r.left - 1 })) no_items [] (λ i. rests_same (w.solos i))
    answer_comes answer.End =
        passes (Some (grace_of w r.env)) (only r.env (End ∷ [])) (row.End w.book.time w.book.cursor r.env ∷ [])
        (λ i. given_rests (w.solos i) End (record { binds = refl; seen = refl; rings = refl; life = refl }) (i == r.env))
    answer_comes answer.Stop = passes None no_items (stop_row w.book r.env ∷ []) (λ i. rests_same (w.solos i))
    answer_comes (answer.Over excess) = Passed (record { solos = λ i. rests_same (w.solos i); lists = record { version = refl; pages = refl; binds = refl; claims = refl; next = refl; backups = refl; kept = refl; lines = refl; count = refl } })
    answer_comes answer.Kill = Died r runs (record {
      excess = set_at r.env 0 owing.book.excess;
      time = w.book.time;
      book = refl;
      own = ap (λ (v : World). v.solos r.env) killed
          ∙ ap (λ (own : Bool). absorb_all (doomed.solos r.env) (if own then [] else lost_with doomed.book r.env r.env doomed.book.page_count)) (eq-eqb r.env r.env refl)
          ∙ told_own owing r.env Killed;
      others = λ i ne.
          ap (λ (v : World). v.solos i) killed
          ∙ ap (λ (s : Solo). absorb_all s (death_items doomed.book r.env i)) (told_other owing r.env Killed i ne)
          ∙ ap (absorb_all (w.solos i)) (death_owing w.book owing.book.excess r.env i);
    })

  comes_by : (o : Option Runner) → w.book.runner ≡ o → Comes w (count_when o w)
  comes_by None is = passes w.book.runner no_items [] (λ i. rests_same (w.solos i))
  comes_by (Some r) is = answer_comes r is (timer_now w r)

  -- and then time rises
  clocked : (count : World → Reply) → Comes w (count w) → Comes w (in_turn (count ∷ clock ∷ []) w)
  clocked count (Passed alike) = grind (arith, common_steps, append-nil)
  clocked count (Died x runs killed) = Died x runs (record {
    excess = killed.excess;
    time = killed.time + 1;
    book = ap (λ (b : Book). record b { time = b.time + 1 }) killed.book;
    own = ap (absorb_all (w.solos x.env)) (append-nil ((count w).items x.env)) ∙ killed.own;
    others = λ i ne. ap (absorb_all (w.solos i)) (append-nil ((count w).items i)) ∙ killed.others i ne;
  })

  pub timer_comes : Comes w (timer w)
  timer_comes = clocked (count_when w.book.runner) (comes_by w.book.runner refl)

  -- each binding that is listed after it was before, and its page has the row that it had
  remains_by : (r : Reply) → Comes w r → (i n : ℕ) (b : Binding) → r.book.binds i n ≡ Some b → Remains w.book r.book i n b
  remains_by r comes i n b is = grind (arith, common_steps)

  pub timer_remains : (i n : ℕ) (b : Binding) → (timer w).book.binds i n ≡ Some b → Remains w.book (timer w).book i n b
  timer_remains = remains_by (timer w) timer_comes

  pub allocated_timed : AreBoundAllocated w → AreBoundAllocated (after w (timer w))
  allocated_timed allocated i n b is = let left = timer_remains i n b is in subst IsAllocated (sym left.page) (allocated i n b left.listed)

-- The death of a runner by its excess.
module _ (w : World) (sound : Sound w) (claimed : Claimed w) (e : ℕ) (lives : (w.solos e).life ≡ Live) (r : Reply) (killed : IsKilled w e r) where
  abbrev corpse : Solo
  corpse = dead cause.Excess (w.solos e)

  pub death_now : (brings : Brings w e corpse r.book (death_items w.book e)) × (brings.bytes ≡ page_bytes w)
  death_now =
      subst (λ (b : Book). (brings : Brings w e corpse b (death_items w.book e)) × (brings.bytes ≡ page_bytes w)) (sym killed.book)
      (death_keeps w e sound lives (w.solos e).cpu cause.Excess killed.excess killed.time)

  pub claims_now : Claiming w e corpse r.book (death_items w.book e)
  claims_now =
      let claims = death_claims w e claimed (w.solos e).cpu cause.Excess in
      subst (λ (b : Book). Claiming w e corpse b (death_items w.book e)) (sym killed.book)
      (record { own = claims.own; others = claims.others; good = good_same (death w e).book (record (death w e).book { excess = killed.excess; time = killed.time }) refl refl (λ c owned. owned) claims.good })

  abbrev pub death_follows : Follows w e corpse (after w r) (death_items w.book e)
  death_follows = record {
    brings = death_now.0;
    claims = claims_now;
    own = killed.own ∙ absorbs (w.solos e) Killed [] lives ∙ sym (dead_absorbs corpse cause.Excess (death_items w.book e e) refl);
    others = killed.others;
    gives = λ i. Tells (told_death w.book e i);
  }

  pub death_bytes : (o page : ℕ) → is_owned_by o (r.book.pages page) ≡ true → page_bytes (after w r) page ≡ page_bytes w page
  death_bytes o page owns =
      owner_bytes (after w r) death_now.0.bytes (all_see w e corpse (after w r) (death_items w.book e) sound death_follows) o page owns ∙ ap (λ (bytes : ℕ → List ℕ). bytes page) death_now.1

-- What the timer leaves, where who runs lives.
module _ (w : World) (sound : Sound w) (claimed : Claimed w) (lives : IsRunnerLive w w.book.runner) where
  sound_by : (r : Reply) → Comes w r → AreBoundAllocated (after w r) → Sound (after w r)
  sound_by r (Passed alike) allocated = sound_alike w (after w r) alike sound
  sound_by r (Died x runs killed) allocated =
      sound_following w x.env (dead cause.Excess (w.solos x.env)) (after w r) (death_items w.book x.env) sound (death_follows w sound claimed x.env (lives x runs) r killed) allocated

  pub sound_timed : AreBoundAllocated w → Sound (after w (timer w))
  sound_timed allocated = sound_by (timer w) (timer_comes w) (allocated_timed w allocated)

  claimed_by : (r : Reply) → Comes w r → Claimed (after w r)
  claimed_by r (Passed alike) = claimed_alike w (after w r) alike claimed
  claimed_by r (Died x runs killed) = claimed_following w x.env (dead cause.Excess (w.solos x.env)) (after w r) (death_items w.book x.env) sound (death_follows w sound claimed x.env (lives x runs) r killed)

  pub claimed_timed : Claimed (after w (timer w))
  claimed_timed = claimed_by (timer w) (timer_comes w)

  -- an allocated page was its owner's before, with the same bytes
  abbrev WasSo : ℕ → ℕ → World → Type 0
  WasSo owner page v = (is_owned_by owner (w.book.pages page) ≡ true) × (page_bytes v page ≡ page_bytes w page)

  owned_by : (r : Reply) → Comes w r → (owner page : ℕ) → is_owned_by owner (r.book.pages page) ≡ true → WasSo owner page (after w r)
  owned_by r comes owner page owns = grind (arith, common_steps, bytes_alike, released_owned, death_bytes)

  pub timer_owned : (owner page : ℕ) → is_owned_by owner ((timer w).book.pages page) ≡ true → WasSo owner page (after w (timer w))
  timer_owned = owned_by (timer w) (timer_comes w)
