-- Every binding that the book lists is live.
use Rattle.std.proofs.Common.{◌≡◌, ◌<◌, ◌+◌, length, ℕ, zero, suc, true, Some, refl, sym, ◌∙◌, ap, subst, inl, inr, arith}
use Rattle.std.specs.Prelude.{◌⊎◌}
use Rattle.std.proofs.lemmas.Bool.{cases_eq, cases_lt, eq-eqb}
use Rattle.page_book.specs.declared.row.PageRow.{PageRow}
use Rattle.page_book.specs.declared.row.PageRow.TheVariants.{Owned}
use Rattle.page_book.specs.Row.{gives_right, is_owned_by}
use Rattle.page_book.proofs.Owners.{same_owner}
use Rattle.aegis_limits.specs.declared.version.Version.{Version}
use Rattle.bind_book.specs.declared.binding.Binding.{Binding}
use Rattle.bind_book.specs.Stripe.{row_of}
use Rattle.run_model.specs.Licensed.{GivenIsLicensed}
use Rattle.run_model.specs.Run.{System, at_step, before_turn, world_after}
use Rattle.revocation_book.specs.Takings.{TakingsAreTakable}
use Rattle.call_verdicts.specs.Granted.{AgainAsks, GrantedMay}
use Rattle.run_model.specs.Live.{row_after, Since, HasWord, IsLive}
use Rattle.sharing_law.specs.Right.{EachIsLive}
use Rattle.sharing_law.specs.Versions.{BindingsInRows}
use Rattle.sharing_law.proofs.Absent.{absent_calls}
use Rattle.sharing_law.proofs.Replies.{IsCarried, IsPut}
use Rattle.sharing_law.proofs.Agreeing.{all_fine, none_bound}
use Rattle.sharing_law.proofs.Books.{next_carries}
use Rattle.sharing_law.proofs.SameVersion.{versions_agree}

-- what holds since then holds after one tick more, if it holds there
pub since_more : (first last : ℕ) (P : ℕ → Type 0) → Since first last P → P (suc last) → Since first (suc last) P
since_more first last P before now s above below =
    elim (cases_eq s (suc last)) [ inl same ↦ subst P (sym same) now | inr other ↦ before s above (omega (arith, other)) ]

pub since_first : (first : ℕ) (P : ℕ → Type 0) → P (suc first) → Since first (suc first) P
since_first first P now s above below = let same : suc first ≡ s = omega arith in subst P same now

still_owned : (owner e : ℕ) (old new : PageRow) → IsCarried e old new → is_owned_by owner old ≡ true → is_owned_by owner new ≡ true
still_owned owner e old new (inl same) is = ap (is_owned_by owner) same ∙ is
still_owned owner e old new (inr (before, now)) is = ap (λ (n : ℕ). is_owned_by n new) (same_owner owner e old is before) ∙ now

-- the right that an environment had it has after one tick more
right_more : (system : System) (since t e owner : ℕ) (b : Binding) (word : ℕ) → since < t → is_owned_by owner (row_after system t b.page) ≡ true → IsCarried e (row_after system t b.page) (row_after system (suc t) b.page)
    → (owner ≡ e) ⊎ HasWord system since t owner b word → (owner ≡ e) ⊎ HasWord system since (suc t) owner b word
right_more system since t e owner b word earlier owned carried (inl own) = inl own
right_more system since t e owner b word earlier owned (inl same) (inr has) = inr (record {
  words = has.words;
  gives = has.gives;
  kept = since_more since t (λ s. row_after system s b.page ≡ Owned owner has.words) has.kept (same ∙ has.kept t earlier (omega arith));
})
right_more system since t e owner b word earlier owned (inr (before, now)) (inr has) = inl (same_owner owner e (row_after system t b.page) owned before)

-- a binding that is listed in this row is live, has been listed there ever since, and stands in the row of its VPN by its environment's version
record Stands (system : System) (t e row : ℕ) (b : Binding) : Type 0 where
  live : IsLive system t e b
  stands : live.row ≡ row
  its_row : row ≡ row_of ((at_step system live.since).solos e).version b.vpn

-- so it is where it is still listed
still_stands : (system : System) (t e row : ℕ) (b : Binding) → Stands system t e row b → (world_after system (suc t)).book.binds e row ≡ Some b
    → IsCarried e (row_after system t b.page) (row_after system (suc t) b.page) → Stands system (suc t) e row b
still_stands system t e row b before listed carried =
    let live = before.live in
    let owned : is_owned_by live.owner (row_after system t b.page) ≡ true = live.owned t live.earlier (omega arith) in
    let its = subst (λ (r : ℕ). (world_after system (suc t)).book.binds e r ≡ Some b) (sym before.stands) listed in
    record {
      live = record {
        since = live.since;
        earlier = omega (arith, live.earlier);
        word = live.word;
        bound = live.bound;
        row = live.row;
        listed = since_more live.since t (λ s. (world_after system s).book.binds e live.row ≡ Some b) live.listed its;
        owner = live.owner;
        owned = since_more live.since t (λ s. is_owned_by live.owner (row_after system s b.page) ≡ true) live.owned (still_owned live.owner e (row_after system t b.page) (row_after system (suc t) b.page) carried owned);
        right = right_more system live.since t e live.owner b live.word live.earlier owned carried live.right;
      };
      stands = before.stands;
      its_row = before.its_row;
    }

-- and where it is put
put_stands : (system : System) (t e row : ℕ) (b : Binding) → IsPut (at_step system t) (world_after system (suc t)).book.pages e row b
    → (world_after system (suc t)).book.binds e row ≡ Some b → Stands system (suc t) e row b
put_stands system t e row b put listed = record {
  live = record {
    since = t;
    earlier = omega arith;
    word = put.word;
    bound = put.bound;
    row = row;
    listed = since_first t (λ s. (world_after system s).book.binds e row ≡ Some b) listed;
    owner = put.right.owner;
    owned = since_first t (λ s. is_owned_by put.right.owner (row_after system s b.page) ≡ true) (ap (is_owned_by put.right.owner) put.right.owned ∙ eq-eqb put.right.owner put.right.owner refl);
    right = by_right put.right.right;
  };
  stands = refl;
  its_row = put.stands;
}
  where
    by_right : (put.right.owner ≡ e) ⊎ (gives_right put.right.words b.writable put.word ≡ true) → (put.right.owner ≡ e) ⊎ HasWord system t (suc t) put.right.owner b put.word
    by_right (inl own) = inl own
    by_right (inr gives) = inr (record {
      words = put.right.words;
      gives = gives;
      kept = since_first t (λ s. row_after system s b.page ≡ Owned put.right.owner put.right.words) put.right.owned;
    })

abbrev EachStands : System → ℕ → Type 0
EachStands system t = (e row : ℕ) (b : Binding) → (world_after system t).book.binds e row ≡ Some b → Stands system t e row b

each_stands : GrantedMay → AgainAsks → TakingsAreTakable → (system : System) (t : ℕ) → EachStands system t
each_stands granted again takable system zero e row b listed = absurd (none_bound system.image e row b listed)
each_stands granted again takable system (suc t) e row b listed =
    elim (next_carries granted system t (all_fine granted again takable system t).allocated e row b listed) [
      | inl put ↦ put_stands system t e row b put listed
      | inr was ↦ still_stands system t e row b (each_stands granted again takable system t e row b was.listed) listed was.carried
    ]

pub each_is_live : GrantedMay → AgainAsks → TakingsAreTakable → EachIsLive
each_is_live granted again takable system t e row b listed = (each_stands granted again takable system t e row b listed).live

-- this is the image's version
pub bindings_in_rows : GrantedMay → AgainAsks → TakingsAreTakable → GivenIsLicensed → BindingsInRows
bindings_in_rows granted again takable licensed system t e row b listed =
    let its = each_stands granted again takable system t e row b listed in
    let since = its.live.since in
    let k = before_turn system since + 1 in
    elim (cases_lt e (length system.image.programs)) [
      | inl has ↦ its.its_row ∙ ap (λ (v : Version). row_of v b.vpn) ((versions_agree licensed system since k).solos e has)
      | inr lacks ↦ let bound = its.live.bound in absurd (absent_calls licensed system e lacks since k bound.call bound.acts)
    ]
