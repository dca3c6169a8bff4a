-- A page that is taken: what each environment sees once the backup has a copy and the page is nobody's.
use Rattle.std.proofs.lemmas.Grind.{common_steps}
use Rattle.std.proofs.Common.{◌≡◌, ◌≢◌, ℕ, suc, List, [], ◌∷◌, ◌++◌, map, Bool, true, false, not, Option, Some, None, ◌⊎◌, inl, inr, refl, sym, ◌∙◌, ap, subst, arith}
use Rattle.std.specs.Prelude.{◌==◌, filter, nat_lt}
use Rattle.std.proofs.lemmas.Bool.{cases_eq, eqb-false, ne_eqb, not-true}
use Rattle.std.proofs.lemmas.List.Sums.{fold-append}
use Rattle.frame_store.specs.Pages.{with_bytes}
use Rattle.env_frames.specs.Post.{most_records, record_bytes, record_offset}
use Rattle.env_frames.specs.declared.post.PostWord.TheVariants as post
use Rattle.page_book.specs.declared.row.PageRow.TheVariants.{Free}
use Rattle.page_book.specs.Row.{is_owned_by}
use Rattle.page_book.proofs.Owners.{anothers, same_owner}
use Rattle.bind_book.specs.Stripe.{leads_to_page, is_bound, without}
use Rattle.filter_tree.specs.ClaimBook.{ClaimValue}
use Rattle.filter_tree.specs.Claims.{is_into}
use Rattle.revocation_book.specs.declared.revocation.Taking.{Taking}
use Rattle.world_model.specs.declared.life.Life.{Life}
use Rattle.world_model.specs.declared.life.Life.TheVariants.{Live, Dead}
use Rattle.world_model.specs.Table.{set_at}
use Rattle.world_model.specs.Deadlines.{copy_left, takes}
use Rattle.world_model.specs.Item.{Item, Taken, absorb, absorb_all}
use Rattle.world_model.specs.PageCalls.{lost_bindings, page_bytes}
use Rattle.world_model.specs.Post.{post_word}
use Rattle.world_model.specs.Repossession.{copied, counted_taking, recorded, with_page_taken}
use Rattle.world_model.specs.Solo.{Solo}
use Rattle.world_model.specs.Upcalls.{with_context}
use Rattle.world_model.specs.World.{World, Reply, after}
use Rattle.run_model.specs.Licensed.{MayTaking}
use Rattle.run_model.specs.Run.{System, given_at, moment}
use Rattle.run_model.proofs.Lives.{copied_life}
use Rattle.page_laws.specs.Sight.{Sees}
use Rattle.page_laws.proofs.Sights.{freer_loses, others_lose, readers_see, writer_sees, HasNone}
use Rattle.page_laws.proofs.Stripes.{without_ends}
use Rattle.page_laws.proofs.Tables.{set_here, set_else, set_owns}
use Rattle.sharing_law.specs.Agreement.{AreBoundAllocated, ClaimPage, ring_page}
use Rattle.sharing_law.specs.Delivery.{IsCopied}
use Rattle.sharing_law.proofs.Backups.{AreBacked, loaded_at}
use Rattle.sharing_law.proofs.Brings.{as_before}
use Rattle.sharing_law.proofs.Choices.{either, for_each}
use Rattle.sharing_law.proofs.Claimed.{AreRings, Claimed, good_less, rings_less, rings_spared}
use Rattle.sharing_law.proofs.Claiming.{beside, copy_spares, loses_beside}
use Rattle.sharing_law.proofs.Delivering.{owner_sees}
use Rattle.sharing_law.proofs.Given.{IsRested, absorbs, dead_absorbs, rests_same, told_leaves}
use Rattle.sharing_law.proofs.Giving.{copy_told, taking_told}
use Rattle.sharing_law.proofs.Sound.{Sound, agreed, owner_bytes, still_nothing}

-- A page is taken from an environment, and these are the bytes of another page of its own then: a copy stands in it.
pub record IsCopyIn (w : World) (items : ℕ → List Item) (o page : ℕ) (bytes : List ℕ) : Type 0 where
  pub taken : ℕ
  pub given : items o ≡ Taken taken (Some page) ∷ []
  pub from : is_owned_by o (w.book.pages taken) ≡ true
  pub into : is_owned_by o (w.book.pages page) ≡ true
  pub has : bytes ≡ with_bytes (page_bytes w page) 0 (page_bytes w taken)

-- so it is copied in a phase
abbrev pub copied_in : (system : System) (t k page owner : ℕ) (r : Reply) → moment system t (suc k) ≡ after (moment system t k) r → given_at system t k owner ≡ r.items owner
    → IsCopyIn (moment system t k) r.items owner page (page_bytes (after (moment system t k) r) page) → IsCopied system t k page owner
copied_in system t k page owner r next given comes = record {
  taken = comes.taken;
  given = given ∙ comes.given;
  from = comes.from;
  into = comes.into;
  has = ap (λ (v : World). page_bytes v page) next ∙ comes.has;
}

-- The record of a page that is taken changes the context page alone.
recorded_rests : (n page : ℕ) (backup : Option ℕ) (s : Solo) → IsRested s (recorded n page backup s)
recorded_rests n page backup s =
    either (IsRested s) (nat_lt n most_records) (with_context (record_offset n) (record_bytes page backup) s) s (record { binds = refl; seen = refl; rings = refl; life = refl }) (rests_same s)

counted_rests : (page : ℕ) (backup : Option ℕ) (s : Solo) → IsRested s (counted_taking page backup s)
counted_rests page backup s = let rests = recorded_rests (post_word post.Takings s) page backup s in record { binds = rests.binds; seen = rests.seen; rings = rests.rings; life = rests.life }

copied_rings : (page : ℕ) (backup : Option ℕ) (s : Solo) → (copied page backup s).rings ≡ s.rings
copied_rings page None s = refl
copied_rings page (Some backup) s = refl

module _ (w : World) (x : Taking) (sound : Sound w) (claimed : Claimed w) (backed : AreBacked w.book) (may : MayTaking w x) where
  abbrev e : ℕ
  e = x.env

  abbrev s : Solo
  s = w.solos e

  -- the owner of the page lives
  lives : s.life ≡ Live
  lives = by_life s.life refl
    where
      by_life : (life : Life) → s.life ≡ life → life ≡ Live
      by_life Live is = refl
      by_life (Dead cause) is = let never : false ≡ true = sym ((sound.none e cause is).owns x.page) ∙ may.owned in cc

  -- the backup is another page of its own
  record IsBackup (backup : ℕ) : Type 0 where
    owned : is_owned_by e (w.book.pages backup) ≡ true
    other : backup ≢ x.page

  is_backup : (backup : ℕ) → x.backup ≡ Some backup → IsBackup backup
  is_backup backup is = grind (arith, common_steps, loaded_at)

  -- the world once it is taken
  abbrev now : World
  now = after w (takes x w)

  abbrev others_get : ℕ → List Item
  others_get i = copy_left w x x.backup i ++ lost_bindings w.book x.page i

  -- the bytes of pages once the copy is there
  abbrev bytes_with : Option ℕ → ℕ → List ℕ
  bytes_with None = page_bytes w
  bytes_with (Some backup) = set_at backup (with_bytes (page_bytes w backup) 0 (page_bytes w x.page)) (page_bytes w)

  abbrev bytes_now : ℕ → List ℕ
  bytes_now = bytes_with x.backup

  -- Its owner has the copy in the backup, and then the record, and loses the page.
  own_copied : (backup : Option ℕ) → Sees e w.book.pages (w.book.binds e) (bytes_with backup) (copied x.page backup s)
  own_copied backup = grind (arith, common_steps, owner_sees, writer_sees)

  abbrev holder : Solo
  holder = with_page_taken x.page x.backup s

  own_sees : Sees e now.book.pages (now.book.binds e) bytes_now holder
  own_sees =
      let copy = copied x.page x.backup s in
      let told = counted_taking x.page x.backup copy in
      let rests = counted_rests x.page x.backup copy in
      freer_loses e x.page Free w.book.pages (w.book.binds e) bytes_now told (as_before e w.book.pages (w.book.binds e) bytes_now copy told rests.binds rests.seen (own_copied x.backup)) refl

  is_holder : now.solos e ≡ holder
  is_holder = ap (absorb_all s) (set_here e (Taken x.page x.backup ∷ []) others_get) ∙ absorbs s (Taken x.page x.backup) [] lives

  -- Whoever else has bound the backup has the copy in it.
  other_copied : (i : ℕ) → i ≢ e → (w.solos i).life ≡ Live → (backup : Option ℕ) → Sees i w.book.pages (w.book.binds i) (bytes_with backup) (absorb_all (w.solos i) (copy_left w x backup i))
  other_copied i ne live backup = grind (arith, common_steps, ne_eqb, readers_see)

  -- and who has bound the page loses it
  is_other : (i : ℕ) → i ≢ e → now.solos i ≡ absorb_all (absorb_all (w.solos i) (copy_left w x x.backup i)) (lost_bindings w.book x.page i)
  is_other i ne = ap (absorb_all (w.solos i)) (set_else e i (Taken x.page x.backup ∷ []) others_get ne) ∙ fold-append absorb (w.solos i) (copy_left w x x.backup i) (lost_bindings w.book x.page i)

  still_none : (i : ℕ) → HasNone i w.book.pages (w.book.binds i) → HasNone i now.book.pages (now.book.binds i)
  still_none i none = record { binds = λ row. ap (without (leads_to_page x.page None i)) (none.binds row); owns = set_owns i x.page Free w.book.pages refl none.owns }

  other_sees : (i : ℕ) → i ≢ e → (life : Life) → (w.solos i).life ≡ life → Sees i now.book.pages (now.book.binds i) bytes_now (now.solos i)
  other_sees i ne Live is =
      let copy = absorb_all (w.solos i) (copy_left w x x.backup i) in
      let live : copy.life ≡ Live = (told_leaves (copy_left w x x.backup i) (copy_told w x x.backup i) (w.solos i)).life ∙ is in
      subst (λ (t : Solo). Sees i now.book.pages (now.book.binds i) bytes_now t) (sym (is_other i ne))
      (others_lose i x.page None Free w.book.pages (w.book.binds i) bytes_now copy (other_copied i ne is x.backup) live (λ same. none_some same) (anothers e i (w.book.pages x.page) ne may.owned) refl (sound.stripes i))
    where
      none_some : None ≡ Some i → ⊥
      none_some same = cc
  other_sees i ne (Dead cause) is =
      let none = sound.none i cause is in
      subst (λ (t : Solo). Sees i now.book.pages (now.book.binds i) bytes_now t) (sym (dead_absorbs (w.solos i) cause ((takes x w).items i) is))
      (still_nothing i w.book.pages now.book.pages (w.book.binds i) (now.book.binds i) (page_bytes w) bytes_now (w.solos i) none (still_none i none) (sound.agreed i))

  all_see : (i : ℕ) → Sees i now.book.pages (now.book.binds i) bytes_now (now.solos i)
  all_see = grind (arith, common_steps, for_each, is_holder, own_sees, other_sees)

  -- all live as before
  all_live : (i : ℕ) → (now.solos i).life ≡ (w.solos i).life
  all_live = grind (arith, common_steps, for_each, is_holder, counted_rests, copied_life, set_else, told_leaves, taking_told)

  free_behind : (page : ℕ) → w.book.pages page ≡ Free → now.book.pages page ≡ Free
  free_behind page free = either (λ row. row ≡ Free) (page == x.page) Free (w.book.pages page) refl free

  pub taking_sound : AreBoundAllocated now → Sound now
  taking_sound allocated = record {
    agreed = agreed now bytes_now all_see allocated;
    none = λ i cause died. still_none i (sound.none i cause (sym (all_live i) ∙ died));
    stripes = λ i. without_ends (leads_to_page x.page None i) (w.book.binds i) (sound.stripes i);
    behind = λ page more. free_behind page (sound.behind page more);
  }

  -- The claims into the page are withdrawn.
  abbrev not_into : ClaimValue → Bool
  not_into c = not (is_into x.page c)

  own_rings : AreRings e (filter not_into w.book.claims) holder.rings
  own_rings =
      let copy = copied x.page x.backup s in
      let same = (counted_rests x.page x.backup copy).rings ∙ copied_rings x.page x.backup s in
      rings_less e w.book.claims (counted_taking x.page x.backup copy).rings (λ (p : ClaimPage). not (p.page == x.page)) not_into (λ c own. refl) (ap (map ring_page) same ∙ claimed.rings e)

  other_rings : (i : ℕ) → i ≢ e → AreRings i (filter not_into w.book.claims) (now.solos i).rings
  other_rings i ne =
      let copy = absorb_all (w.solos i) (copy_left w x x.backup i) in
      let apart = beside w.book claimed.good i x.page (anothers e i (w.book.pages x.page) ne may.owned) in
      subst (λ (t : Solo). AreRings i (filter not_into w.book.claims) t.rings) (sym (is_other i ne))
      (rings_spared i w.book.claims (absorb_all copy (lost_bindings w.book x.page i)).rings not_into (λ c its own. ap not (apart c its own))
      (loses_beside i x.page w.book.claims apart (is_bound x.page (w.book.binds i)) copy (ap (map ring_page) (copy_spares w x x.backup i (w.solos i)) ∙ claimed.rings i)))

  pub taking_claimed : Claimed now
  taking_claimed = grind (arith, common_steps, for_each, is_holder, own_rings, other_rings, good_less, set_else, eqb-false, not-true)

  -- Pages that are owned then were so, and have the bytes that they had, but for the backup.
  had_owned : (o page : ℕ) → is_owned_by o (now.book.pages page) ≡ true → is_owned_by o (w.book.pages page) ≡ true
  had_owned o page owns = either (λ row. is_owned_by o row ≡ true → is_owned_by o (w.book.pages page) ≡ true) (page == x.page) Free (w.book.pages page) (λ is. cc) (λ is. is) owns

  pub backup_owned : (backup : ℕ) → x.backup ≡ Some backup → is_owned_by e (w.book.pages backup) ≡ true
  backup_owned backup is = (is_backup backup is).owned

  pub backup_given : (backup : ℕ) → x.backup ≡ Some backup → (takes x w).items e ≡ Taken x.page (Some backup) ∷ []
  backup_given backup is = set_here e (Taken x.page x.backup ∷ []) others_get ∙ ap (λ (o : Option ℕ). Taken x.page o ∷ []) is

  pub backup_has : (backup : ℕ) → x.backup ≡ Some backup → page_bytes now backup ≡ with_bytes (page_bytes w backup) 0 (page_bytes w x.page)
  backup_has backup is =
      let its = is_backup backup is in
      owner_bytes now bytes_now all_see e backup (ap (is_owned_by e) (set_else x.page backup Free w.book.pages its.other) ∙ its.owned)
      ∙ ap (λ (o : Option ℕ). bytes_with o backup) is
      ∙ set_here backup (with_bytes (page_bytes w backup) 0 (page_bytes w x.page)) (page_bytes w)

  abbrev pub copy_in : (backup : ℕ) → x.backup ≡ Some backup → IsCopyIn w (takes x w).items e backup (page_bytes now backup)
  copy_in backup is = record { taken = x.page; given = backup_given backup is; from = may.owned; into = backup_owned backup is; has = backup_has backup is }

  becomes : (backup : Option ℕ) → x.backup ≡ backup → (o page : ℕ) → is_owned_by o (now.book.pages page) ≡ true
      → (page_bytes now page ≡ page_bytes w page) ⊎ IsCopyIn w (takes x w).items o page (page_bytes now page)
  becomes None is o page owns = inl (owner_bytes now bytes_now all_see o page owns ∙ ap (λ (b : Option ℕ). bytes_with b page) is)
  becomes (Some backup) is o page owns = elim (cases_eq page backup) [
    | inl same ↦
        let own : e ≡ o = same_owner e o (w.book.pages backup) (backup_owned backup is) (ap (λ (p : ℕ). is_owned_by o (w.book.pages p)) (sym same) ∙ had_owned o page owns) in
        inr (subst (λ (p : ℕ). IsCopyIn w (takes x w).items o p (page_bytes now p)) (sym same) (subst (λ (n : ℕ). IsCopyIn w (takes x w).items n backup (page_bytes now backup)) own (copy_in backup is)))
    | inr ne ↦ inl (owner_bytes now bytes_now all_see o page owns ∙ ap (λ (b : Option ℕ). bytes_with b page) is ∙ set_else backup page (with_bytes (page_bytes w backup) 0 (page_bytes w x.page)) (page_bytes w) ne)
  ]

  pub taking_owned : (o page : ℕ) → is_owned_by o (now.book.pages page) ≡ true
      → (is_owned_by o (w.book.pages page) ≡ true) × ((page_bytes now page ≡ page_bytes w page) ⊎ IsCopyIn w (takes x w).items o page (page_bytes now page))
  taking_owned o page owns = (had_owned o page owns, becomes x.backup refl o page owns)
