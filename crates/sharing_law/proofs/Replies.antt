-- What the runner's step does to a binding that is listed, and to its page.
use Rattle.std.proofs.lemmas.Grind.{common_steps}
use Rattle.std.proofs.Common.{arith, ◌≡◌, ℕ, Bool, true, false, ◌&&◌, Option, Some, None, is_some, refl, sym, ◌∙◌, ap, subst, inl, inr}
use Rattle.std.specs.Prelude.{◌==◌, ◌⊎◌, not, if◌then◌else◌}
use Rattle.std.proofs.lemmas.Bool.{and_cases, eq-eqb, eqb-true, not-false, or_parts}
use Rattle.page_book.specs.declared.row.Capabilities.{Capabilities}
use Rattle.page_book.specs.declared.row.PageRow.{PageRow}
use Rattle.page_book.specs.declared.row.PageRow.TheVariants.{Free, Guaranteed, Owned}
use Rattle.page_book.specs.Row.{belongs_to, is_owned_by}
use Rattle.aegis_limits.specs.declared.version.Version.{Version}
use Rattle.bind_book.specs.declared.binding.Binding.{Binding}
use Rattle.bind_book.specs.Stripe.{binding_at, leads_to_page, goes_with, row_of, without}
use Rattle.bind_book.proofs.Swept.{left_in_row}
use Rattle.world_model.specs.declared.call.Call.{Call}
use Rattle.world_model.specs.declared.call.Deed.{Deed}
use Rattle.world_model.specs.declared.call.Deed.TheVariants.{Allocates, Frees, Recaps, Binds, Unbinds}
use Rattle.world_model.specs.declared.verdict.Verdict.{Verdict}
use Rattle.world_model.specs.declared.verdict.Verdict.TheVariants.{Refuse, Again, Grant}
use Rattle.world_model.specs.Table.{set_at}
use Rattle.world_model.specs.Book.{Book}
use Rattle.world_model.specs.Death.{death}
use Rattle.world_model.specs.Item.{Step, deed_at}
use Rattle.world_model.specs.May.{HasRight, May}
use Rattle.world_model.specs.PageCalls.{freed, with_binding, without_number}
use Rattle.world_model.specs.Step.{Act, Calls, Dies}
use Rattle.world_model.specs.Tick.{act_reply}
use Rattle.world_model.specs.Verdict.{done, reply_by_verdict, reply_to, verdict}
use Rattle.world_model.specs.World.{World, Reply, after, tells}
use Rattle.call_verdicts.specs.Granted.{GrantedMay}
use Rattle.run_model.specs.Acting.{Acts, Does}
use Rattle.run_model.proofs.Telling.{call_does, call_named, call_stands, deed_may}
use Rattle.sharing_law.specs.Agreement.{IsAllocated, AreBoundAllocated}
use Rattle.sharing_law.proofs.Asking.{asking_or}

-- the row of a page is as it was, or the environment owned the page before and after
abbrev pub IsCarried : ℕ → PageRow → PageRow → Type 0
IsCarried e old new = (new ≡ old) ⊎ ((is_owned_by e old ≡ true) × (is_owned_by e new ≡ true))

-- the environment bound it in the step of this world, and has the right to the page by its row here
pub record IsPut (w : World) (pages : ℕ → PageRow) (i row : ℕ) (b : Binding) : Type 0 where
  pub word : ℕ
  pub bound : Does w i (Binds b word)
  pub stands : row ≡ row_of (w.solos i).version b.vpn
  pub right : HasRight i b.writable word (pages b.page)

-- a page that is owned is allocated, and one that is carried over stays so
pub owned_allocated : (owner : ℕ) (row : PageRow) → is_owned_by owner row ≡ true → IsAllocated row
owned_allocated owner Free is = cc
owned_allocated owner (Guaranteed one) is = cc
owned_allocated owner (Owned one words) is = tt

pub carried_allocated : (e : ℕ) (old new : PageRow) → IsCarried e old new → IsAllocated old → IsAllocated new
carried_allocated e old new (inl same) had = subst IsAllocated (sym same) had
carried_allocated e old new (inr (before, now)) had = owned_allocated e new now

-- the binding was listed before, and its page is carried over
pub record WasListed (w : World) (pages : ℕ → PageRow) (i row : ℕ) (b : Binding) : Type 0 where
  pub listed : w.book.binds i row ≡ Some b
  pub carried : IsCarried i (w.book.pages b.page) (pages b.page)

-- the binding was listed in this book before, and its page has the row that it had
pub record Remains (old new : Book) (i row : ℕ) (b : Binding) : Type 0 where
  pub listed : old.binds i row ≡ Some b
  pub page : new.pages b.page ≡ old.pages b.page

-- with these pages and bindings after the step of this world, each binding was put by it or listed before
pub record Carries (w : World) (pages : ℕ → PageRow) (binds : ℕ → ℕ → Option Binding) : Type 0 where
  pub each : (i row : ℕ) (b : Binding) → binds i row ≡ Some b → IsPut w pages i row b ⊎ WasListed w pages i row b

abbrev pub CarriesInto : World → Reply → Type 0
CarriesInto w reply = Carries w reply.book.pages reply.book.binds

-- the books stay
stays : (w : World) → Carries w w.book.pages w.book.binds
stays w = record { each = λ i row b is. inr (record { listed = is; carried = inl refl }) }

-- another number of a table keeps what it has
set_other : {A : Type 0} (n : ℕ) (x : A) (f : ℕ → A) (i : ℕ) → (i == n) ≡ false → set_at n x f i ≡ f i
set_other n x f i other = rw other

-- a page is freed: its bindings are gone, and all others remain
pub freed_remains : (b : Book) (page i row : ℕ) (x : Binding) → (freed page b).binds i row ≡ Some x → Remains b (freed page b) i row x
freed_remains b page i row x is =
    let before = left_in_row (leads_to_page page None i) (b.binds i row) x is in
    record {
      listed = before.0;
      page = elim (and_cases (x.page == page) true before.1) [ inl other ↦ set_other page Free b.pages x.page other | inr never ↦ cc ];
    }

frees : (w : World) (page : ℕ) → Carries w (freed page w.book).pages (freed page w.book).binds
frees w page = record { each = λ i row b is. let left = freed_remains w.book page i row b is in inr (record { listed = left.listed; carried = inl left.page }) }

-- its owner gives a page other words: only its own bindings of the page are left
recaps : (w : World) (e page : ℕ) (words : Capabilities) → is_owned_by e (w.book.pages page) ≡ true
    → Carries w (set_at page (Owned e words) w.book.pages) (λ i row. without (leads_to_page page (Some e) i) (w.book.binds i row))
recaps w e page words owned = record {
  each = λ i row b is.
      let before = left_in_row (leads_to_page page (Some e) i) (w.book.binds i row) b is in
      inr (record { listed = before.0; carried = by_test i b (b.page == page) refl before.1 });
}
  where
    by_test : (i : ℕ) (b : Binding) (t : Bool) → (b.page == page) ≡ t → (t && not (e == i)) ≡ false → IsCarried i (w.book.pages b.page) (if t then Owned e words else w.book.pages b.page)
    by_test i b true is spared =
        let own : e ≡ i = eqb-true e i (not-false (e == i) spared) in
        inr (
          subst (λ (n : ℕ). is_owned_by n (w.book.pages b.page) ≡ true) own (ap (λ (p : ℕ). is_owned_by e (w.book.pages p)) (eqb-true b.page page is) ∙ owned),
          eq-eqb e i own,
        )
    by_test i b false is spared = inl refl

-- a free page is allocated: no binding is of it
allocates : (w : World) (e page : ℕ) (words : Capabilities) → AreBoundAllocated w → w.book.pages page ≡ Free → Carries w (set_at page (Owned e words) w.book.pages) w.book.binds
allocates w e page words allocated free = record {
  each = λ i row b is. inr (record { listed = is; carried = inl (set_other page (Owned e words) w.book.pages b.page (by_test b (allocated i row b is) (b.page == page) refl)) });
}
  where
    by_test : (b : Binding) → IsAllocated (w.book.pages b.page) → (t : Bool) → (b.page == page) ≡ t → (b.page == page) ≡ false
    by_test b had true is =
        absurd (subst IsAllocated free (subst (λ (p : ℕ). IsAllocated (w.book.pages p)) (eqb-true b.page page is) had))
    by_test b had false is = is

-- the environment is gone, with its bindings, its pages and theirs
pub mourned : (w : World) (e i row : ℕ) (b : Binding) → (death w e).book.binds i row ≡ Some b → Remains w.book (death w e).book i row b
mourned w e i row b is =
    let before = left_in_row (goes_with w.book.pages e i) (w.book.binds i row) b is in
    record { listed = before.0; page = rw (or_parts (i == e) (belongs_to e (w.book.pages b.page)) before.1).1 }

mourns : (w : World) (e : ℕ) → Carries w (death w e).book.pages (death w e).book.binds
mourns w e = record { each = λ i row b is. let before = mourned w e i row b is in inr (record { listed = before.listed; carried = inl before.page }) }

-- a binding is put over that in its row
binds_over : (w : World) (e : ℕ) (b : Binding) (word : ℕ) → Does w e (Binds b word) → HasRight e b.writable word (w.book.pages b.page) → Carries w w.book.pages (with_binding (w.solos e).version e b w.book.binds)
binds_over w e b word does right = grind (arith, common_steps, eqb-true)

-- what stands in a row once the binding of a VPN is gone stood there before
left_of_number : (v : Version) (vpn : ℕ) (stripe : ℕ → Option Binding) (row : ℕ) (b : Binding) (there : Bool) → (if there then set_at (row_of v vpn) None stripe else stripe) row ≡ Some b → stripe row ≡ Some b
left_of_number v vpn stripe row b true is = grind arith
left_of_number v vpn stripe row b false is = is

-- a VPN is unbound
unbinds : (w : World) (e vpn : ℕ) → Carries w w.book.pages (set_at e (without_number (w.solos e).version vpn (w.book.binds e)) w.book.binds)
unbinds w e vpn = record { each = λ i row b is. inr (record { listed = by_env i row b (i == e) refl is; carried = inl refl }) }
  where
    by_env : (i row : ℕ) (b : Binding) (t : Bool) → (i == e) ≡ t → (if t then without_number (w.solos e).version vpn (w.book.binds e) else w.book.binds i) row ≡ Some b → w.book.binds i row ≡ Some b
    by_env i row b true own is =
        ap (λ (n : ℕ). w.book.binds n row) (eqb-true i e own) ∙ let v = (w.solos e).version in left_of_number v vpn (w.book.binds e) row b (is_some (binding_at v (w.book.binds e) vpn)) is
    by_env i row b false own is = is

-- deed by deed
deed_carries : (w : World) (e : ℕ) → AreBoundAllocated w → (d : Deed) → Does w e d → May w e d → CarriesInto w (done w e d)
deed_carries w e allocated (Allocates page words) does may = allocates w e page words allocated may.free
deed_carries w e allocated (Frees page) does may = frees w page
deed_carries w e allocated (Recaps page words) does may = recaps w e page words may.owned
deed_carries w e allocated (Binds b word) does may = binds_over w e b word does may.right
deed_carries w e allocated (Unbinds vpn) does may = unbinds w e vpn
deed_carries w e allocated d does may = stays w

call_carries : GrantedMay → (w : World) (e : ℕ) → AreBoundAllocated w → (c : Option Call) → Acts w e (Calls c) → CarriesInto w (reply_to w e c)
call_carries granted w e allocated c acts = by_verdict (verdict w e c) refl
  where
    by_verdict : (v : Verdict) → verdict w e c ≡ v → CarriesInto w (reply_by_verdict w e v)
    by_verdict (Refuse code value) is = stays w
    by_verdict (Again who) is = asking_or (CarriesInto w) w who (stays w) (λ p. stays w)
    by_verdict (Grant value) is = deed_carries w e allocated (deed_at (w.solos e) value) (call_does w e c acts value is) (deed_may granted w e c (call_named w e c acts.comes) value is)

-- what an act of the runner brings, once its step is made, which a call isn't changed by
pub told_carries : GrantedMay → (w : World) (e : ℕ) → AreBoundAllocated w → (act : Act) → Acts w e act → CarriesInto w (act_reply e act (after w (tells e Step w)))
told_carries granted w e allocated (Calls c) acts = subst (λ (v : World). CarriesInto w (act_reply e (Calls c) v)) (sym (call_stands w e c acts.comes)) (call_carries granted w e allocated c acts)
told_carries granted w e allocated (Dies cause) acts = mourns w e
told_carries granted w e allocated act acts = stays w
