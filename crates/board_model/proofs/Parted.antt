-- Physical memory stays parted: what is mapped is guaranteed.
use Rattle.std.proofs.Common.{◌≡◌, ◌≢◌, ℕ, ◌<◌, List, length, map, IfSome, inl, inr, refl, sym, ◌∙◌, ap, subst, arith, length-set, get_or-set_other, rules}
use Rattle.std.specs.Prelude.{slice_set}
use Rattle.std.proofs.lemmas.Bool.{cases_eq, ne_eqb}
use Rattle.std.proofs.lemmas.List.{length-map}
use Rattle.frame_store.specs.Pages.{with_page}
use Rattle.page_book.specs.declared.row.PageRow.{PageRow}
use Rattle.page_book.specs.declared.row.PageRow.TheVariants.{Free, Guaranteed}
use Rattle.page_book.specs.Row.{released}
use Rattle.page_book.specs.Rows.{row_in}
use Rattle.env_frames.specs.Context.{context_number}
use Rattle.env_frames.specs.Frame.{page_of}
use Rattle.world_model.specs.declared.life.Cause.{Cause}
use Rattle.board_model.specs.declared.roster.Environment.{Environment}
use Rattle.board_model.specs.Shown.{mappings_in, mappings_of, with_record}
use Rattle.board_model.specs.Sound.{AreGuaranteed, PagesAgree}
use Rattle.board_model.specs.Doing.{dead_frame}
use Rattle.board_model.proofs.Lists.{changed_else}
use Rattle.board_model.proofs.Mappings.{kept_mappings, lost_mappings}
use Rattle.board_model.proofs.Pages.{placed}
use Rattle.board_model.proofs.Seen.{guaranteed_there}
use Rattle.board_model.proofs.Sound.{Keeps}
use Rattle.board_model.proofs.Tables.{row_released}

-- where environments have the mappings that they had
pub alike_parted : (frames : List (List ℕ)) (pages : List PageRow) (list new : List Environment) → PagesAgree frames pages list → ((i : ℕ) → mappings_of new i ≡ mappings_of list i) → PagesAgree frames pages new
alike_parted frames pages list new parted alike = record {
  same = parted.same;
  most = parted.most;
  mapped = λ i. subst (AreGuaranteed pages i) (sym (alike i)) (parted.mapped i);
}

pub keep_parted : (f : Environment → Environment) → Keeps f → (frames : List (List ℕ)) (pages : List PageRow) (list : List Environment) (e : ℕ) → PagesAgree frames pages list → PagesAgree frames pages (with_record f list e)
keep_parted f keeps frames pages list e parted = alike_parted frames pages list _ parted (λ i. kept_mappings f keeps list e i)

-- other bytes in a page
pub page_parted : (frames : List (List ℕ)) (pages : List PageRow) (list : List Environment) (n : ℕ) (bytes : List ℕ) → PagesAgree frames pages list → PagesAgree (with_page frames n bytes) pages list
page_parted frames pages list n bytes parted = search (rules, length-set)

-- a context page is a page that is there
pub context_there : (frames : List (List ℕ)) (pages : List PageRow) (list : List Environment) → PagesAgree frames pages list → (e : ℕ) → IfSome (page_of (mappings_of list e) context_number) (λ page. page < length frames)
context_there frames pages list parted e = grind (arith, placed, guaranteed_there)

-- the rows of pages but one
pub other_row : (pages : List PageRow) (page p : ℕ) (row : PageRow) → p ≢ page → row_in (slice_set pages page row) p ≡ row_in pages p
other_row pages page p row other = get_or-set_other pages page p row Free other

-- another row of a page that is guaranteed to nobody
pub row_parted : (frames : List (List ℕ)) (pages : List PageRow) (list : List Environment) (page : ℕ) (row : PageRow) → ((i : ℕ) → row_in pages page ≢ Guaranteed i) → PagesAgree frames pages list → PagesAgree frames (slice_set pages page row) list
row_parted frames pages list page row nobody parted = record {
  same = parted.same ∙ sym (length-set pages page row);
  most = parted.most;
  mapped = λ i. record {
    its = λ a m at.
        let its = (parted.mapped i).its a m at in
        other_row pages page m.page row (λ here. nobody i (ap (row_in pages) (sym here) ∙ its)) ∙ its;
    apart = (parted.mapped i).apart;
    rising = (parted.mapped i).rising;
  };
}

-- an environment that dies
still_guaranteed : (e i : ℕ) → i ≢ e → released e (Guaranteed i) ≡ Guaranteed i
still_guaranteed e i other = rw (ne_eqb i e other) refl

pub death_parted : (cause : Cause) (frames : List (List ℕ)) (pages : List PageRow) (list : List Environment) (e : ℕ) → PagesAgree frames pages list → PagesAgree frames (map (released e) pages) (with_record (dead_frame cause) list e)
death_parted cause frames pages list e parted = record {
  same = parted.same ∙ sym (length-map pages (released e));
  most = parted.most;
  mapped = λ i. elim (cases_eq i e) [ inl same ↦ gone i same | inr other ↦ left i other ];
}
  where
    gone : (i : ℕ) → i ≡ e → AreGuaranteed (map (released e) pages) i (mappings_of (with_record (dead_frame cause) list e) i)
    gone i same = subst (AreGuaranteed (map (released e) pages) i) (sym (ap (mappings_of (with_record (dead_frame cause) list e)) same ∙ lost_mappings cause list e)) (record {
      its = λ a m at. cc;
      apart = λ a b m n at_a at_b page. cc;
      rising = λ a b before within. absurd (omega arith);
    })

    left : (i : ℕ) → i ≢ e → AreGuaranteed (map (released e) pages) i (mappings_of (with_record (dead_frame cause) list e) i)
    left i other = subst (AreGuaranteed (map (released e) pages) i) (sym (ap mappings_in (changed_else (dead_frame cause) list e i other))) (record {
      its = λ a m at. row_released e pages m.page ∙ ap (released e) ((parted.mapped i).its a m at) ∙ still_guaranteed e i other;
      apart = (parted.mapped i).apart;
      rising = (parted.mapped i).rising;
    })
