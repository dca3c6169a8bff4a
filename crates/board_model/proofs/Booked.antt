-- The books stay sound: pages and bindings are those of environments that live, and what is bound is owned.
use Rattle.std.proofs.Common.{◌≡◌, ◌≢◌, ℕ, ◌+◌, ◌*◌, ◌<◌, ◌≤◌, List, length, map, Bool, true, false, Option, Some, None, refl, sym, ◌∙◌, ap, subst, get_or-set_same, arith, rules}
use Rattle.std.specs.Prelude.{◌==◌, ◌&&◌, IfSome, if◌then◌else◌, is_some, slice_set}
use Rattle.std.proofs.lemmas.List.{length-set}
use Rattle.std.proofs.lemmas.Bool.{and_parts, cases_eq, eq-eqb, eqb-false, eqb-true, or_parts}
use Rattle.page_book.specs.declared.row.Capabilities.{Capabilities}
use Rattle.page_book.specs.declared.row.PageRow.{PageRow}
use Rattle.page_book.specs.declared.row.PageRow.TheVariants.{Free, Owned}
use Rattle.page_book.specs.Row.{belongs_to, owner_of, released}
use Rattle.page_book.specs.Rows.{row_in}
use Rattle.bind_book.specs.declared.binding.Binding.{Binding}
use Rattle.bind_book.specs.Stripe.{HasStripe, Stripes, binding_at, leads_to_page, goes_with, row_of, stripe_place, stripes, swept, unbound, with_stripe_row}
use Rattle.aegis_limits.specs.declared.version.Version.{Version}
use Rattle.aegis_limits.specs.declared.version.Version.TheVariants.{One, Two}
use Rattle.aegis_limits.specs.VersionLimits.{stripe_rows}
use Rattle.bind_book.proofs.Rows.{row_set, row_within}
use Rattle.bind_book.proofs.Swept.{length-swept, swept_row, left_in_row}
use Rattle.world_model.specs.declared.life.Cause.{Cause}
use Rattle.board_model.specs.declared.roster.Environment.{Environment}
use Rattle.board_model.specs.Shown.{Environments, with_record, with_list}
use Rattle.board_model.specs.Sound.{AreStripesOf, BooksAgree, IsLiving, IsOwned}
use Rattle.board_model.specs.Doing.{dead_frame}
use Rattle.board_model.proofs.Lists.{length-changed}
use Rattle.board_model.proofs.Parted.{other_row}
use Rattle.board_model.proofs.Sound.{Keeps, kept_live, others_live}
use Rattle.board_model.proofs.Tables.{row_released}

-- stripes with as many rows are as many
pub same_striped : (v : Version) (old new : List (Option Binding)) (envs : ℕ) → length new ≡ length old → AreStripesOf (record { version = v; rows = old }) envs → AreStripesOf (record { version = v; rows = new }) envs
unfolding AreStripesOf
same_striped v old new envs same striped = same ∙ striped

swept_striped : (broken : ℕ → Binding → Bool) (binds : Stripes) (envs : ℕ) → AreStripesOf binds envs → AreStripesOf (swept broken binds) envs
unfolding AreStripesOf
swept_striped broken binds envs striped = length-swept binds.version broken binds.rows ∙ striped

-- an environment of those that have one has its stripe
room_of : (v : Version) (size envs e : ℕ) → size ≡ envs * stripe_rows v → e < envs → e * stripe_rows v + stripe_rows v ≤ size
unfolding stripe_rows
room_of One size envs e is there = omega (arith, is, there)
room_of Two size envs e is there = omega (arith, is, there)

pub has_stripe : (binds : Stripes) (envs e : ℕ) → AreStripesOf binds envs → e < envs → HasStripe binds e
unfolding AreStripesOf
has_stripe binds envs e striped there = room_of binds.version (length binds.rows) envs e striped there

-- a change of an environment that leaves its life
pub keep_booked : (f : Environment → Environment) → Keeps f → (pages : List PageRow) (binds : Stripes) (r : Environments) (e : ℕ) → BooksAgree pages binds r → BooksAgree pages binds (with_list r (with_record f r.list e))
keep_booked f keeps pages binds r e are = record {
  striped = subst (λ (n : ℕ). AreStripesOf binds (n + r.spare)) (sym (length-changed f r.list e)) are.striped;
  owners = λ page i is. kept_live f keeps r.list e i (are.owners page i is);
  binders = λ i row x is. kept_live f keeps r.list e i (are.binders i row x is);
  bound = are.bound;
}

-- what holds of the row that a page got, and of those of the others
pub by_page : (P : PageRow → Type 0) (pages : List PageRow) (page p : ℕ) (row : PageRow) → page < length pages → (p ≡ page → P row) → (p ≢ page → P (row_in pages p)) → P (row_in (slice_set pages page row) p)
by_page P pages page p row within here others = search (rules, cases_eq, get_or-set_same, other_row)

-- a page becomes an environment's that lives, or stays so with other words
pub owned_booked : (pages : List PageRow) (binds : Stripes) (r : Environments) (page e : ℕ) (words : Capabilities) → page < length pages → IsLiving r.list e → BooksAgree pages binds r → BooksAgree (slice_set pages page (Owned e words)) binds r
owned_booked pages binds r page e words within lives are = record {
  striped = are.striped;
  owners = λ p i. by_page (λ row. owner_of row ≡ Some i → IsLiving r.list i) pages page p (Owned e words) within (λ same is. let its : e ≡ i = cc in subst (IsLiving r.list) its lives) (λ other. are.owners p i);
  binders = are.binders;
  bound = λ i row x is. by_page IsOwned pages page x.page (Owned e words) within (λ same. tt) (λ other. are.bound i row x is);
}

left_binding : (broken : ℕ → Binding → Bool) (binds : Stripes) (e row : ℕ) (x : Binding) → stripes (swept broken binds) e row ≡ Some x → (stripes binds e row ≡ Some x) × (broken e x ≡ false)
left_binding broken binds e row x is = left_in_row (broken e) (stripes binds e row) x (sym (swept_row broken binds e row) ∙ is)

-- bindings are broken
pub sweep_booked : (broken : ℕ → Binding → Bool) (pages : List PageRow) (binds : Stripes) (r : Environments) → BooksAgree pages binds r → BooksAgree pages (swept broken binds) r
sweep_booked broken pages binds r are = record {
  striped = swept_striped broken binds (length r.list + r.spare) are.striped;
  owners = are.owners;
  binders = λ i row x is. are.binders i row x (left_binding broken binds i row x is).0;
  bound = λ i row x is. are.bound i row x (left_binding broken binds i row x is).0;
}

-- a row of an environment that lives has another binding, of a page that is owned, or none
pub set_booked : (pages : List PageRow) (binds : Stripes) (r : Environments) (e row : ℕ) (x : Option Binding) → HasStripe binds e → row < stripe_rows binds.version → IsLiving r.list e → IfSome x (λ y. IsOwned (row_in pages y.page))
    → BooksAgree pages binds r → BooksAgree pages (with_stripe_row binds e row x) r
set_booked pages binds r e row x has below lives owned are = record {
  striped = same_striped binds.version binds.rows (slice_set binds.rows (stripe_place binds.version e row) x) (length r.list + r.spare) (length-set binds.rows (stripe_place binds.version e row) x) are.striped;
  owners = are.owners;
  binders = λ i n y is. binds_by i n y (i == e && n == row) refl (sym (row_set binds e row x has below i n) ∙ is);
  bound = λ i n y is. bound_by i n y (i == e && n == row) (sym (row_set binds e row x has below i n) ∙ is);
}
  where
    binds_by : (i n : ℕ) (y : Binding) (t : Bool) → (i == e && n == row) ≡ t → (if t then x else stripes binds i n) ≡ Some y → IsLiving r.list i
    binds_by i n y true here is = subst (IsLiving r.list) (sym (eqb-true i e (and_parts (i == e) (n == row) here).0)) lives
    binds_by i n y false other is = are.binders i n y is

    bound_by : (i n : ℕ) (y : Binding) (t : Bool) → (if t then x else stripes binds i n) ≡ Some y → IsOwned (row_in pages y.page)
    bound_by i n y true is = subst (λ (o : Option Binding). IfSome o (λ z. IsOwned (row_in pages z.page))) is owned
    bound_by i n y false is = are.bound i n y is

pub unbound_booked : (pages : List PageRow) (binds : Stripes) (r : Environments) (e vpn : ℕ) → HasStripe binds e → IsLiving r.list e → BooksAgree pages binds r → BooksAgree pages (unbound binds e vpn) r
unbound_booked pages binds r e vpn has lives are = by_test (is_some (binding_at binds.version (stripes binds e) vpn))
  where
    row : ℕ
    row = row_of binds.version vpn

    by_test : (t : Bool) → BooksAgree pages (record binds { rows = if t then slice_set binds.rows (stripe_place binds.version e row) None else binds.rows }) r
    by_test true = set_booked pages binds r e row None has (row_within binds.version vpn) lives tt are
    by_test false = are

-- a page is freed, and all bindings of it are broken
pub free_booked : (pages : List PageRow) (binds : Stripes) (r : Environments) (page : ℕ) → page < length pages → BooksAgree pages binds r → BooksAgree (slice_set pages page Free) (swept (leads_to_page page None) binds) r
free_booked pages binds r page within are = record {
  striped = swept_striped (leads_to_page page None) binds (length r.list + r.spare) are.striped;
  owners = λ p i. by_page (λ row. owner_of row ≡ Some i → IsLiving r.list i) pages page p Free within (λ same is. cc) (λ other. are.owners p i);
  binders = λ i row x is. are.binders i row x (left_binding (leads_to_page page None) binds i row x is).0;
  bound = λ i row x is.
      let before = left_binding (leads_to_page page None) binds i row x is in
      by_page IsOwned pages page x.page Free within (λ same. of_page i x same before.1) (λ other. are.bound i row x before.0);
}
  where
    of_page : (i : ℕ) (x : Binding) → x.page ≡ page → leads_to_page page None i x ≡ false → ⊥
    of_page i x same spared = let broken : leads_to_page page None i x ≡ true = rw (eq-eqb x.page page same) refl in cc

-- an environment dies
module _ (cause : Cause) (pages : List PageRow) (binds : Stripes) (r : Environments) (e : ℕ) (are : BooksAgree pages binds r) where
  -- what is left has an owner that isn't gone
  owner_left : (row : PageRow) (i : ℕ) → owner_of (released e row) ≡ Some i → (owner_of row ≡ Some i) × (i ≢ e)
  owner_left row i is = search (rules, eqb-false)

  -- what is still bound was neither the dead one's binding, nor of its page
  still_bound : (i row : ℕ) (x : Binding) → stripes (swept (goes_with (row_in pages) e) binds) i row ≡ Some x → (stripes binds i row ≡ Some x) × ((i ≢ e) × (belongs_to e (row_in pages x.page) ≡ false))
  still_bound i row x is = search (rules, left_binding, or_parts, eqb-false)

  still_owned : (row : PageRow) → belongs_to e row ≡ false → IsOwned row → IsOwned (released e row)
  still_owned row stays owned = rw stays owned

  pub death_booked : BooksAgree (map (released e) pages) (swept (goes_with (row_in pages) e) binds) (with_list r (with_record (dead_frame cause) r.list e))
  death_booked = record {
    striped =
        subst (λ (n : ℕ). AreStripesOf (swept (goes_with (row_in pages) e) binds) (n + r.spare)) (sym (length-changed (dead_frame cause) r.list e))
        (swept_striped (goes_with (row_in pages) e) binds (length r.list + r.spare) are.striped);
    owners = λ p i is.
        let left = owner_left (row_in pages p) i (ap owner_of (sym (row_released e pages p)) ∙ is) in
        others_live r.list cause e i left.1 (are.owners p i left.0);
    binders = λ i row x is. let was = still_bound i row x is in others_live r.list cause e i was.1.0 (are.binders i row x was.0);
    bound = λ i row x is.
        let was = still_bound i row x is in
        subst IsOwned (sym (row_released e pages x.page)) (still_owned (row_in pages x.page) was.1.1 (are.bound i row x was.0));
  }
