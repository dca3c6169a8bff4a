-- Who sees a page, by the book.
use Rattle.std.proofs.Common.{◌≡◌, ◌≢◌, ◌+◌, ℕ, suc, List, Bool, true, false, not, Option, Some, None, inl, inr, refl, sym, ◌∙◌, ap, subst}
use Rattle.std.specs.Prelude.{◌⊎◌, ◌==◌, ◌&&◌, if◌then◌else◌}
use Rattle.std.proofs.lemmas.Bool.{eq-eqb, eqb-true, ne_eqb}
use Rattle.page_book.specs.declared.row.Capabilities.{Capabilities}
use Rattle.page_book.specs.declared.row.PageRow.TheVariants.{Free, Owned}
use Rattle.page_book.specs.Row.{is_owned_by}
use Rattle.page_book.proofs.Owners.{released_none}
use Rattle.bind_book.specs.declared.binding.Binding.{Binding}
use Rattle.bind_book.specs.Stripe.{goes_with, is_but, is_bound, is_of_page, leads_to_page, without}
use Rattle.page_laws.specs.Sight.{seen_if}
use Rattle.page_laws.proofs.Stripes.{bound_nowhere, bound_row}
use Rattle.world_model.specs.declared.call.Deed.{Deed}
use Rattle.world_model.specs.declared.call.Deed.TheVariants.{Frees, Recaps}
use Rattle.world_model.specs.declared.slot.Runner.{Runner}
use Rattle.world_model.specs.declared.timer.Timer.{Timer}
use Rattle.world_model.specs.declared.timer.Timer.TheVariants as answer
use Rattle.world_model.specs.Book.{Book, is_idle_book}
use Rattle.world_model.specs.PageCalls.{page_bytes}
use Rattle.world_model.specs.Solo.{Seen}
use Rattle.world_model.specs.Tick.{count_when, timer, timer_now, timer_reply}
use Rattle.world_model.specs.Verdict.{done}
use Rattle.world_model.specs.World.{World, after}
use Rattle.run_model.specs.Acting.{Does}
use Rattle.run_model.specs.Live.{row_after}
use Rattle.run_model.specs.Run.{MomentsAreInOrder, System, at_step, at_timer, world_after}
use Rattle.sharing_law.specs.Agreement.{BooksAgree, BoundIsAllocated, IsAllocated}
use Rattle.sharing_law.specs.Right.{EachIsLive}
use Rattle.giving_law.proofs.Calls.{deed_book}
use Rattle.secrecy_law.specs.Secrecy.{FreeIsUnseen, FreedIsUnseen, HasBound, RecappedIsUnseen, SeenByRight, sight_of}

-- an environment neither owns a page nor has a binding of it
pub record IsStranger (b : Book) (f page : ℕ) : Type 0 where
  pub owns : is_owned_by f (b.pages page) ≡ false
  pub binds : (row : ℕ) → is_of_page page (b.binds f row) ≡ false

unseen : BooksAgree → (system : System) (t f page : ℕ) → IsStranger (world_after system t).book f page → sight_of system t f page ≡ None
unseen agree system t f page stranger =
    let w = world_after system t in
    (agree system t f).seen page
    ∙ (λ k. seen_if (stranger.owns k) (bound_nowhere page (w.book.binds f) stranger.binds k) (page_bytes w page))

-- no page is bound that is free
free_unbound : BoundIsAllocated → (system : System) (t f page row : ℕ) → row_after system t page ≡ Free → is_of_page page ((world_after system t).book.binds f row) ≡ false
free_unbound allocated system t f page row free = by_binding (b.binds f row) refl
  where
    b : Book
    b = (world_after system t).book

    by_page : (x : Binding) → b.binds f row ≡ Some x → (its : Bool) → (x.page == page) ≡ its → its ≡ false
    by_page x is false other = refl
    by_page x is true same =
        let none : b.pages x.page ≡ Free = ap b.pages (eqb-true x.page page same) ∙ free in
        absurd (subst IsAllocated none (allocated system t f row x is))

    by_binding : (o : Option Binding) → b.binds f row ≡ o → is_of_page page o ≡ false
    by_binding None is = refl
    by_binding (Some x) is = by_page x is (x.page == page) refl

pub free_is_unseen : BooksAgree → BoundIsAllocated → FreeIsUnseen
free_is_unseen agree allocated system t e page free =
    unseen agree system t e page (record { owns = ap (is_owned_by e) free; binds = λ row. free_unbound allocated system t e page row free })

-- Who sees it has it.
bound_live : EachIsLive → (system : System) (t e page row : ℕ) → is_of_page page ((world_after system t).book.binds e row) ≡ true → HasBound system t e page
bound_live live system t e page row is = by_binding ((world_after system t).book.binds e row) refl is
  where
    by_binding : (o : Option Binding) → (world_after system t).book.binds e row ≡ o → is_of_page page o ≡ true → HasBound system t e page
    by_binding None there its = cc
    by_binding (Some b) there its = record { binding = b; its = eqb-true b.page page its; live = live system t e row b there }

seen_has : (owned bound : Bool) (bytes : List ℕ) (x : Seen) → seen_if owned bound bytes ≡ Some x → (owned ≡ true) ⊎ (bound ≡ true)
seen_has true bound bytes x is = inl refl
seen_has false true bytes x is = inr refl
seen_has false false bytes x is = cc

pub seen_by_right : BooksAgree → EachIsLive → SeenByRight
seen_by_right agree live system t e page x is =
    let b = (world_after system t).book in
    elim (seen_has (is_owned_by e (b.pages page)) (is_bound page (b.binds e)) (page_bytes (world_after system t) page) x (sym ((agree system t e).seen page) ∙ is)) [
      | inl owned ↦ inl owned
      | inr bound ↦ let its = bound_row page (b.binds e) bound in inr (bound_live live system t e page its.0 its.1)
    ]

-- ---- the timer makes nobody an owner, and binds nothing
without_none : (page : ℕ) (broken : Binding → Bool) (o : Option Binding) → is_of_page page o ≡ false → is_of_page page (without broken o) ≡ false
without_none page broken None none = refl
without_none page broken (Some b) none = by_test (broken b)
  where
    by_test : (t : Bool) → is_of_page page (if t then None else Some b) ≡ false
    by_test true = refl
    by_test false = none

module _ (f page : ℕ) where
  abbrev Stays : Book → Book → Type 0
  Stays b c = IsStranger b f page → IsStranger c f page

  answer_strange : (r : Runner) (a : Timer) (w : World) → Stays w.book (timer_reply r a w).book
  answer_strange r answer.Nothing w was = record { owns = was.owns; binds = was.binds }
  answer_strange r answer.End w was = record { owns = was.owns; binds = was.binds }
  answer_strange r answer.Stop w was = record { owns = was.owns; binds = was.binds }
  answer_strange r (answer.Over excess) w was = record { owns = was.owns; binds = was.binds }
  answer_strange r answer.Kill w was = record {
    owns = released_none r.env f (w.book.pages page) was.owns;
    binds = λ row. without_none page (goes_with w.book.pages r.env f) (w.book.binds f row) (was.binds row);
  }

  timer_strange : (w : World) → Stays w.book (timer w).book
  timer_strange w was = by_runner w.book.runner
    where
      clocked : (b : Book) → IsStranger b f page → IsStranger (record b { time = b.time + 1 }) f page
      clocked b its = record { owns = its.owns; binds = its.binds }

      by_runner : (o : Option Runner) → IsStranger (record (after w (count_when o w)).book { time = (after w (count_when o w)).book.time + 1 }) f page
      by_runner None = clocked w.book was
      by_runner (Some r) = clocked (timer_reply r (timer_now w r) w).book (answer_strange r (timer_now w r) w was)

-- ---- a recap and a free
gone_none : (page : ℕ) (but : Option ℕ) (f : ℕ) (o : Option Binding) → is_but but f ≡ false → is_of_page page (without (leads_to_page page but f) o) ≡ false
gone_none page but f None other = refl
gone_none page but f (Some b) other = by_page (b.page == page) refl
  where
    by_page : (its : Bool) → (b.page == page) ≡ its → is_of_page page (if its && not (is_but but f) then None else Some b) ≡ false
    by_page true is = ap (λ (t : Bool). is_of_page page (if not t then None else Some b)) other
    by_page false is = is

recapped : (w : World) (e f page : ℕ) (words : Capabilities) → f ≢ e → IsStranger (done w e (Recaps page words)).book f page
recapped w e f page words other = record {
  owns = ap (λ (t : Bool). is_owned_by f (if t then Owned e words else w.book.pages page)) (eq-eqb page page refl) ∙ ne_eqb e f (λ same. other (sym same));
  binds = λ row. gone_none page (Some e) f (w.book.binds f row) (ne_eqb e f (λ same. other (sym same)));
}

freed_stranger : (w : World) (e f page : ℕ) → IsStranger (done w e (Frees page)).book f page
freed_stranger w e f page = record {
  owns = ap (λ (t : Bool). is_owned_by f (if t then Free else w.book.pages page)) (eq-eqb page page refl);
  binds = λ row. gone_none page None f (w.book.binds f row) refl;
}

module _ (agree : BooksAgree) (order : MomentsAreInOrder) (system : System) (t e f page : ℕ) (busy : is_idle_book (world_after system t).book ≡ false) where
  after_deed : (d : Deed) → Does (at_step system t) e d → IsStranger (done (at_step system t) e d).book f page → sight_of system (suc t) f page ≡ None
  after_deed d does stranger =
      let w = at_step system t in
      let v = at_timer system t in
      let book : v.book ≡ (done w e d).book = ap (λ (u : World). u.book) (order system t).stepped ∙ deed_book w e d does in
      let its : IsStranger v.book f page = subst (λ (b : Book). IsStranger b f page) (sym book) stranger in
      let next : IsStranger (world_after system (suc t)).book f page =
      subst (λ (u : World). IsStranger u.book f page) (sym ((order system t).timed busy)) (timer_strange f page v its) in
      unseen agree system (suc t) f page next

pub recapped_is_unseen : BooksAgree → MomentsAreInOrder → RecappedIsUnseen
recapped_is_unseen agree order system t e f page words busy does other =
    after_deed agree order system t e f page busy (Recaps page words) does (recapped (at_step system t) e f page words other)

pub freed_is_unseen : BooksAgree → MomentsAreInOrder → FreedIsUnseen
freed_is_unseen agree order system t e f page busy does =
    after_deed agree order system t e f page busy (Frees page) does (freed_stranger (at_step system t) e f page)
