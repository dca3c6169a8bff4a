-- Backups: each is a page of its environment's own, none is loaded twice, and there are few.
use Rattle.std.proofs.lemmas.Grind.{common_steps}
use Rattle.std.proofs.Common.{◌≡◌, ◌≢◌, ◌≤◌, ◌<◌, ℕ, zero, suc, List, [], ◌∷◌, length, drop, true, false, Option, Some, None, ◌⊎◌, inl, inr, refl, sym, ◌∙◌, ap, subst, arith, length-append}
use Rattle.std.specs.Prelude.{◌==◌, slice_get}
use Rattle.std.proofs.lemmas.Bool.{eq-eqb, eqb-true, eqb-false, false_from_ne_true, leb-false, or_cases, or_left, or_right, or_parts}
use Rattle.std.proofs.lemmas.List.Folds.{list_any-append}
use Rattle.revocation_book.specs.Backups.{is_loaded, load_refusal, loaded, most_backups, unloaded}
use Rattle.page_book.specs.declared.row.PageRow.TheVariants.{Free}
use Rattle.page_book.specs.Row.{is_owned_by}
use Rattle.page_book.proofs.Owners.{same_owner}
use Rattle.world_model.specs.declared.call.Call.{Call}
use Rattle.world_model.specs.declared.call.Deed.{Deed}
use Rattle.world_model.specs.declared.slot.Runner.{Runner}
use Rattle.filter_tree.specs.ClaimBook.{ClaimValue}
use Rattle.revocation_book.specs.declared.revocation.Taking.{Taking}
use Rattle.revocation_book.proofs.Takable.{rest_loaded}
use Rattle.world_model.specs.Table.{set_at}
use Rattle.world_model.specs.Book.{Book}
use Rattle.world_model.specs.Call.{called}
use Rattle.world_model.specs.Deadlines.{takes}
use Rattle.world_model.specs.Death.{death}
use Rattle.world_model.specs.Event.{arrives}
use Rattle.world_model.specs.Item.{Step}
use Rattle.world_model.specs.May.{May}
use Rattle.world_model.specs.Step.{Act, Calls, Dies}
use Rattle.world_model.specs.Tick.{act_now, act_reply, step, step_when, timer}
use Rattle.world_model.specs.Verdict.{done, reply_to}
use Rattle.world_model.specs.World.{World, Reply, after, tells}
use Rattle.call_verdicts.specs.Granted.{GrantedMay}
use Rattle.run_model.specs.Licensed.{MayTaking}
use Rattle.run_model.proofs.Telling.{call_stands, deed_may, call_named}
use Rattle.page_laws.proofs.Mourning.{owned_still}
use Rattle.page_laws.proofs.Tables.{set_here, set_else}
use Rattle.sharing_law.specs.Agreement.{AreBackupsOwned}
use Rattle.sharing_law.proofs.Choices.{for_each}
use Rattle.sharing_law.proofs.Owning.{free_else, own_else}
use Rattle.sharing_law.proofs.Timing.{Comes, Died, Passed, timer_comes}

-- no page is there twice
abbrev pub AreOnce : List ℕ → Type 0
AreOnce [] = Unit {0}
AreOnce (page ∷ pages) = (is_loaded pages page ≡ false) × AreOnce pages

-- a page that is there is loaded
pub loaded_at : (pages : List ℕ) (k page : ℕ) → slice_get pages k ≡ Some page → is_loaded pages page ≡ true
loaded_at [] k page is = cc
loaded_at (p ∷ pages) zero page is = let same : p ≡ page = cc in or_left (p == page) (is_loaded pages page) (eq-eqb p page same)
loaded_at (p ∷ pages) (suc k) page is = or_right (p == page) (is_loaded pages page) (loaded_at pages k page is)

once_at : (pages : List ℕ) → AreOnce pages → (j k page : ℕ) → slice_get pages j ≡ Some page → slice_get pages k ≡ Some page → j ≡ k
once_at [] once j k page at there = cc
once_at (p ∷ pages) (alone, once) zero zero page at there = refl
once_at (p ∷ pages) (alone, once) zero (suc k) page at there = grind (arith, common_steps, loaded_at)
once_at (p ∷ pages) (alone, once) (suc j) zero page at there = grind (arith, common_steps, loaded_at)
once_at (p ∷ pages) (alone, once) (suc j) (suc k) page at there = ap suc (once_at pages once j k page at there)

-- One more, which is the last.
loaded_more : (pages : List ℕ) (last page : ℕ) → is_loaded (loaded last pages) page ≡ true → (is_loaded pages page ≡ true) ⊎ (last ≡ page)
loaded_more pages last page is = elim (or_cases (is_loaded pages page) (is_loaded (last ∷ []) page) (sym (list_any-append (λ b. b == page) pages (last ∷ [])) ∙ is)) [
  | inl before ↦ inl before
  | inr now ↦ elim (or_cases (last == page) false now) [ inl same ↦ inr (eqb-true last page same) | inr never ↦ cc ]
]

once_more : (pages : List ℕ) (last : ℕ) → AreOnce pages → is_loaded pages last ≡ false → AreOnce (loaded last pages)
once_more [] last once other = (refl, tt)
once_more (p ∷ pages) last (alone, once) other =
    let apart = or_parts (p == last) (is_loaded pages last) other in (
      false_from_ne_true (is_loaded (loaded last pages) p) (λ is. elim (loaded_more pages last p is) [
        | inl before ↦ let clash : false ≡ true = sym alone ∙ before in cc
        | inr same ↦ let clash : false ≡ true = sym apart.0 ∙ eq-eqb p last (sym same) in cc
      ]),
      once_more pages last once apart.1,
    )

-- One less.
unloaded_was : (gone : ℕ) (pages : List ℕ) (page : ℕ) → is_loaded (unloaded gone pages) page ≡ true → (is_loaded pages page ≡ true) × (page ≢ gone)
unloaded_was gone [] page is = cc
unloaded_was gone (p ∷ pages) page is = grind (arith, common_steps, or_right, or_cases, or_left, eqb-false, eqb-true, (unloaded_was gone pages page))

once_less : (gone : ℕ) (pages : List ℕ) → AreOnce pages → AreOnce (unloaded gone pages)
once_less gone [] once = tt
once_less gone (p ∷ pages) (alone, once) = grind (arith, common_steps, false_from_ne_true, unloaded_was, (once_less gone pages once))

few_less : (gone : ℕ) (pages : List ℕ) → length (unloaded gone pages) ≤ length pages
few_less gone [] = omega arith
few_less gone (p ∷ pages) = grind (arith, few_less gone pages)

once_rest : (pages : List ℕ) → AreOnce pages → AreOnce (drop 1 pages)
once_rest [] once = once
once_rest (p ∷ pages) (alone, once) = once

few_rest : (pages : List ℕ) → length (drop 1 pages) ≤ length pages
few_rest [] = omega arith
few_rest (p ∷ pages) = omega arith

-- What each phase keeps of a book.
pub record AreBacked (b : Book) : Type 0 where
  pub owned : (e page : ℕ) → is_loaded (b.backups e) page ≡ true → is_owned_by e (b.pages page) ≡ true
  pub once : (e : ℕ) → AreOnce (b.backups e)
  pub few : (e : ℕ) → length (b.backups e) ≤ most_backups

pub backups_owned : (b : Book) → AreBacked b → AreBackupsOwned b
backups_owned b backed = record { owned = backed.owned; apart = λ e. once_at (b.backups e) (backed.once e); few = backed.few }

-- a book with the same backups, in which who owned a page owns it
pub backed_owned : (old new : Book) → new.backups ≡ old.backups → ((i p : ℕ) → is_owned_by i (old.pages p) ≡ true → is_owned_by i (new.pages p) ≡ true) → AreBacked old → AreBacked new
backed_owned old new same still backed = record {
  owned = λ e page is. still e page (backed.owned e page ((λ k. is_loaded (sym same k e) page) ∙ is));
  once = λ e. subst AreOnce (λ k. sym same k e) (backed.once e);
  few = λ e. subst (λ (pages : List ℕ). length pages ≤ most_backups) (λ k. sym same k e) (backed.few e);
}

-- one in which one environment has other backups
record Backs (e : ℕ) (its : List ℕ) (new : Book) : Type 0 where
  owned : (page : ℕ) → is_loaded its page ≡ true → is_owned_by e (new.pages page) ≡ true
  once : AreOnce its
  few : length its ≤ most_backups

backed_but : (old new : Book) (e : ℕ) (its : List ℕ) → new.backups ≡ set_at e its old.backups → Backs e its new
    → ((i p : ℕ) → i ≢ e → is_owned_by i (old.pages p) ≡ true → is_owned_by i (new.pages p) ≡ true) → AreBacked old → AreBacked new
backed_but old new e its same backs still backed = record {
  owned = λ i page is. (by_env i).owned page ((λ k. is_loaded (sym same k i) page) ∙ is);
  once = λ i. subst AreOnce (λ k. sym same k i) (by_env i).once;
  few = λ i. subst (λ (pages : List ℕ). length pages ≤ most_backups) (λ k. sym same k i) (by_env i).few;
}
  where
    by_env : (i : ℕ) → Backs i (set_at e its old.backups i) new
    by_env =
        for_each (λ i. Backs i (set_at e its old.backups i) new) e (subst (λ (pages : List ℕ). Backs e pages new) (sym (set_here e its old.backups)) backs)
        (λ i ne. subst (λ (pages : List ℕ). Backs i pages new) (sym (set_else e i its old.backups ne)) (record { owned = λ page is. still i page ne (backed.owned i page is); once = backed.once i; few = backed.few i }))

-- others' pages stay where an environment's page is free
others_still : (b : Book) (e page : ℕ) → is_owned_by e (b.pages page) ≡ true → (i p : ℕ) → i ≢ e → is_owned_by i (b.pages p) ≡ true → is_owned_by i (set_at page Free b.pages p) ≡ true
others_still b e page its i p other owned = grind (arith, same_owner e i (b.pages page))

own_still : (b : Book) (e page p : ℕ) → p ≢ page → is_owned_by e (b.pages p) ≡ true → is_owned_by e (set_at page Free b.pages p) ≡ true
own_still b e page p other owned = ap (is_owned_by e) (set_else page p Free b.pages other) ∙ owned

-- A page that is taken isn't a backup, and the backup that gets a copy isn't one any more.
pub taking_backed : (x : Taking) (w : World) → MayTaking w x → AreBacked w.book → AreBacked (takes x w).book
taking_backed x w may backed =
    let e = x.env in
    let its = w.book.backups e in
    backed_but w.book (takes x w).book e (drop 1 its) refl
    (record {
      owned = λ page is. let was = rest_loaded its page is in own_still w.book e x.page page (λ same. spared (ap (is_loaded its) (sym same) ∙ was)) (backed.owned e page was);
      once = once_rest its (backed.once e);
      few = omega (arith, few_rest its, backed.few e);
    })
    (others_still w.book e x.page may.owned) backed
  where
    spared : is_loaded (w.book.backups x.env) x.page ≡ true → ⊥
    spared is = let clash : false ≡ true = sym may.spared ∙ is in cc

-- A death.
death_backed : (w : World) (e : ℕ) → AreBacked w.book → AreBacked (death w e).book
death_backed w e backed =
    backed_but w.book (death w e).book e [] refl (record { owned = λ page is. cc; once = tt; few = omega arith })
    (λ i p other owned. owned_still e i (w.book.pages p) other ∙ owned) backed

-- Deed by deed
module _ (w : World) (e : ℕ) (backed : AreBacked w.book) where
  room : (pages : List ℕ) (page : ℕ) → load_refusal pages page ≡ None → (is_loaded pages page ≡ false) × (length pages < most_backups)
  room pages page is = grind (arith, common_steps, leb-false)

  -- the same pages and backups
  same_backed : (new : Book) → new.pages ≡ w.book.pages → new.backups ≡ w.book.backups → AreBacked new
  same_backed new pages backups = backed_owned w.book new backups (λ i p owned. (λ k. is_owned_by i (pages k p)) ∙ owned) backed

  deed_backed : (d : Deed) → May w e d → AreBacked (done w e d).book
  deed_backed d may = grind (arith, common_steps, backed_owned, free_else, backed_but, unloaded_was, own_still, once_less, few_less, others_still, own_else, loaded_more, once_more, length-append, same_backed)

  module _ (granted : GrantedMay) where
    call_backed : (c : Option Call) → called (w.solos e).cpu ≡ c → AreBacked (reply_to w e c).book
    call_backed c named = grind (arith, deed_backed, deed_may)

    -- what an act brings once the step is made
    act_backed : (act : Act) → act_now w e ≡ act → AreBacked (act_reply e act (after w (tells e Step w))).book
    act_backed (Calls c) is = subst (λ (v : World). AreBacked (act_reply e (Calls c) v).book) (sym (call_stands w e c is)) (call_backed c (call_named w e c is))
    act_backed (Dies cause) is = death_backed w e backed
    act_backed act is = backed

step_backed_by : GrantedMay → (w : World) (runner : Option Runner) → AreBacked w.book → AreBacked (step_when w runner).book
step_backed_by granted w None backed = backed
step_backed_by granted w (Some r) backed = act_backed w r.env backed granted (act_now w r.env) refl

pub step_backed : GrantedMay → (w : World) → AreBacked w.book → AreBacked (step w).book
step_backed granted w = step_backed_by granted w w.book.runner

-- The timer.
timed_by : (w : World) (r : Reply) → Comes w r → AreBacked w.book → AreBacked r.book
timed_by w r (Passed alike) backed = backed_owned w.book r.book alike.lists.backups (λ i p owned. (λ k. is_owned_by i (alike.lists.pages k p)) ∙ owned) backed
timed_by w r (Died x runs killed) backed =
    subst AreBacked (sym killed.book) (backed_owned (death w x.env).book (record (death w x.env).book { excess = killed.excess; time = killed.time }) refl (λ i p owned. owned) (death_backed w x.env backed))

pub timer_backed : (w : World) → AreBacked w.book → AreBacked (timer w).book
timer_backed w = timed_by w (timer w) (timer_comes w)

-- A packet that comes.
pub arrival_backed : (packet : List ℕ) (claim : Option ClaimValue) (w : World) → AreBacked w.book → AreBacked (arrives packet claim w).book
arrival_backed packet None w backed = backed
arrival_backed packet (Some c) w backed = backed
