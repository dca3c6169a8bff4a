-- A page that is given to an environment.
use Rattle.std.proofs.Common.{◌≡◌, ◌≢◌, ℕ, zero, suc, ◌+◌, ◌<◌, List, [], ◌∷◌, ◌++◌, length, map, Bool, Some, ◌⊎◌, refl, append_assoc, add-one, ◌∙◌, ap, arith, get_or-set_same, get_or-set_other, rules}
use Rattle.std.specs.Prelude.{slice_get, slice_index, slice_index_or, slice_set, Option}
use Rattle.std.specs.Option.{option_map}
use Rattle.std.proofs.Math.ListN.{get_or-append}
use Rattle.std.proofs.Math.Seq.{get_or-append_seam}
use Rattle.std.proofs.lemmas.Bool.{eqb-true, eqb-false}
use Rattle.std.proofs.lemmas.List.{length-append, map-append}
use Rattle.std.proofs.lemmas.Option.{slice_get-get_or}
use Rattle.std.proofs.lemmas.Grind.{common_steps}
use Rattle.frame_store.specs.Pages.{with_page}
use Rattle.page_book.specs.declared.row.PageRow.{PageRow}
use Rattle.page_book.specs.declared.row.PageRow.TheVariants.{Free, Guaranteed}
use Rattle.page_book.specs.Rows.{row_in}
use Rattle.env_frames.specs.declared.mapping.Mapping.{Mapping}
use Rattle.env_frames.specs.Frame.{IsAbove, IsRising}
use Rattle.kernel_journal.specs.Ledger.{Ledger}
use Rattle.world_model.specs.Page.{KeptPage}
use Rattle.world_model.specs.Book.{own_hold}
use Rattle.world_model.specs.Table.{listed}
use Rattle.run_model.specs.Boot.{own_row, own_rows}
use Rattle.board_model.specs.Doing.{with_rows}
use Rattle.board_model.specs.Loading.{HasPages}
use Rattle.board_model.specs.Showing.{page_seen, pages_seen}
use Rattle.board_model.specs.Sound.{AreGuaranteed}
use Rattle.board_model.proofs.Lists.{last_get, other_get}
use Rattle.board_model.proofs.Masks.{both_rows}

-- other pages stay
pub other_pages : (frames : List (List ℕ)) (n : ℕ) (bytes : List ℕ) (ms : List Mapping) → ((a : ℕ) (m : Mapping) → slice_get ms a ≡ Some m → m.page ≢ n) → pages_seen (with_page frames n bytes) ms ≡ pages_seen frames ms
other_pages frames n bytes [] other = refl
other_pages frames n bytes (m ∷ ms) other =
    let head : page_seen (with_page frames n bytes) m ≡ page_seen frames m =
    ap (λ (page : List ℕ). record { vpn = m.vpn; writable = m.writable; bytes = page })
    (get_or-set_other frames n m.page bytes [] (other 0 m refl)) in
    let tail = other_pages frames n bytes ms (λ a k. other (suc a) k) in
    cc

-- what stands in a longer list stands in the list, or is the last
at_end : (ms : List Mapping) (m : Mapping) (a : ℕ) (x : Mapping) → slice_get (ms ++ m ∷ []) a ≡ Some x → ((a ≡ length ms) × (x ≡ m)) ⊎ (slice_get ms a ≡ Some x)
at_end ms m a x at = search (rules, eqb-true, last_get, other_get, eqb-false)

-- one more number, above all
rising_more : (xs : List ℕ) (v : ℕ) → IsRising xs → ((k : ℕ) → k < length xs → slice_index xs k < v) → IsRising (xs ++ v ∷ [])
rising_more xs v rising above i j before within = grind (arith, common_steps, length-append, eqb-true, get_or-append_seam, get_or-append, eqb-false)

-- A page that was free is guaranteed to an environment, got these bytes, and is mapped behind the others.
module _ (frames : List (List ℕ)) (pages : List PageRow) (e vpn page : ℕ) (writable : Bool) (bytes : List ℕ) (ms : List Mapping) (guaranteed : AreGuaranteed pages e ms) (there : page < length pages) (free : row_in pages page ≡ Free) where
  abbrev its_mapping : Mapping
  its_mapping = record { vpn = vpn; page = page; writable = writable }

  abbrev its_pages : List PageRow
  its_pages = slice_set pages page (Guaranteed e)

  elsewhere : (a : ℕ) (m : Mapping) → slice_get ms a ≡ Some m → m.page ≢ page
  elsewhere a m at same = search rules

  pub given_page : HasPages frames pages → pages_seen (with_page frames page bytes) (ms ++ record { vpn = vpn; page = page; writable = writable } ∷ []) ≡ pages_seen frames ms ++ record { vpn = vpn; writable = writable; bytes = bytes } ∷ []
  given_page same = grind (arith, common_steps, other_pages, get_or-set_same, elsewhere)

  its_row : (x : Mapping) → x ≡ its_mapping → row_in its_pages x.page ≡ Guaranteed e
  its_row x same = ap (λ (m : Mapping). row_in its_pages m.page) same ∙ get_or-set_same pages page (Guaranteed e) Free there

  old_row : (a : ℕ) (x : Mapping) → slice_get ms a ≡ Some x → row_in its_pages x.page ≡ Guaranteed e
  old_row a x at = get_or-set_other pages page x.page (Guaranteed e) Free (elsewhere a x at) ∙ guaranteed.its a x at

  pub given_guaranteed : IsAbove ms vpn → AreGuaranteed (slice_set pages page (Guaranteed e)) e (ms ++ record { vpn = vpn; page = page; writable = writable } ∷ [])
  given_guaranteed above = search (rules, at_end, map-append, rising_more, its_row, old_row, elsewhere)

-- an environment to which nothing is guaranteed
pub none_guaranteed : (pages : List PageRow) (e : ℕ) → AreGuaranteed pages e []
none_guaranteed pages e = record { its = λ a m at. cc; apart = λ a b m n at_a at_b same. cc; rising = λ i j before within. absurd (omega arith) }

-- the pages so far, one more, and those that are left
pub one_moved : (old now next : List KeptPage) (f : ℕ → KeptPage) (vpn : ℕ) (left later all : List ℕ) → next ≡ now ++ f vpn ∷ [] → left ≡ vpn ∷ later → now ++ map f left ≡ old ++ map f all → next ++ map f later ≡ old ++ map f all
one_moved old now next f vpn left later all longer begins so_far = search (rules, append_assoc)

pub listed_more : (f : ℕ → KeptPage) (i : ℕ) → listed f (i + 1) ≡ listed f i ++ f i ∷ []
listed_more f i = rw add-one refl

pub length-listed : (f : ℕ → KeptPage) (i : ℕ) → length (listed f i) ≡ i
length-listed f zero = refl
length-listed f (suc i) = length-append (listed f i) (f i ∷ []) ∙ ap (λ n. n + 1) (length-listed f i) ∙ add-one i

-- the pages so far and one more
pub one_more : (old now next : List KeptPage) (f : ℕ → KeptPage) (i : ℕ) (page : KeptPage) → next ≡ now ++ page ∷ [] → now ≡ old ++ listed f i → page ≡ f i → next ≡ old ++ listed f (i + 1)
one_more old now next f i page longer so_far is = search (rules, append_assoc, listed_more)

-- the rows of the owners so far and one more
pub more_owners : (j : Ledger) (owners : List (Option ℕ)) (k : ℕ) (d : Option ℕ) → k < length owners → with_rows (with_rows j (own_rows owners k)) (own_row k (option_map own_hold (slice_index_or owners k d))) ≡ with_rows j (own_rows owners (k + 1))
more_owners j owners k d within = grind (arith, slice_get-get_or, both_rows, add-one)
