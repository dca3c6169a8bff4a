-- The pages of a program's record are whole, and their VPNs words.
use Rattle.std.proofs.Common.{◌≡◌, ◌<◌, ◌≤◌, ◌+◌, ◌-◌, ◌*◌, ◌^◌, ◌∙◌, ℕ, zero, suc, List, [], ◌∷◌, ◌++◌, Bool, true, false, Option, Some, None, ap, arith, length, map, refl, sym}
use Rattle.std.specs.Prelude.{if◌then◌else◌, slice_get}
use Rattle.std.specs.List.{filter}
use Rattle.std.proofs.lemmas.List.{length-map, length-replicate}
use Rattle.aegis_limits.specs.Limits.{most_stack_pages, page_size, stack_end, vpn_end}
use Rattle.frame_store.specs.Pages.{zero_page}
use Rattle.elf_static.specs.ElfValue.{ElfValue}
use Rattle.segment_pages.specs.Pages.{byte_at, bytes_from, has_page, numbers_from, page_bytes, pages_from, vpns}
use Rattle.boot_image.specs.ImageValue.{ImageValue, ProgramValue}
use Rattle.world_model.specs.Item.{Item, Boot, absorb_all}
use Rattle.world_model.specs.Page.{KeptPage}
use Rattle.world_model.specs.Solo.{absent}
use Rattle.world_model.specs.Table.{listed}
use Rattle.world_model.specs.World.{World}
use Rattle.std.proofs.lemmas.Option.{slice_get_within}
use Rattle.feed_log.specs.Views.{ArePages, AreWords, IsRecordFit, IsWord, ItemSeen, item_seen, record_text, view_of}
use Rattle.feed_log.specs.declared.view.ItemKind.TheVariants as kind
use Rattle.feed_log.specs.Log.{with_items}
use Rattle.aegis_limits.specs.VersionLimits.{version_number}
use Rattle.run_model.specs.Boot.{body_page, boot_items, boot_world, kept_of, record_items, stack_page}

-- bytes
numbers_length : (n count : ℕ) → length (numbers_from n count) ≡ count
numbers_length n zero = refl
numbers_length n (suc count) = ap suc (numbers_length (n + 1) count)

from_length : (body : ElfValue) (address count : ℕ) → length (bytes_from body address count) ≡ count
unfolding bytes_from
from_length body address count = length-map (numbers_from address count) (byte_at body) ∙ numbers_length address count

body_length : (body : ElfValue) (vpn : ℕ) → length (page_bytes body vpn) ≡ page_size
unfolding page_bytes
body_length body vpn = from_length body (page_size * vpn) page_size

zero_length : length zero_page ≡ page_size
zero_length = let none : ℕ = 0 in length-replicate page_size none

-- VPNs
numbers_words : (n count : ℕ) → n + count ≤ 2 ^ 32 → AreWords (numbers_from n count)
numbers_words n zero below = tt
numbers_words n (suc count) below = (omega (arith, below), numbers_words (n + 1) count (omega (arith, below)))

one_word : (b : Bool) (n : ℕ) (chosen : List ℕ) → IsWord n → AreWords chosen → AreWords (if b then n ∷ chosen else chosen)
one_word true n chosen first rest = (first, rest)
one_word false n chosen first rest = rest

chosen_words : (test : ℕ → Bool) (numbers : List ℕ) → AreWords numbers → AreWords (filter test numbers)
chosen_words test [] words = tt
chosen_words test (n ∷ numbers) (first, rest) = one_word (test n) n (filter test numbers) first (chosen_words test numbers rest)

vpns_words : (body : ElfValue) → AreWords (vpns body)
unfolding pages_from
vpns_words body = chosen_words (has_page body) (numbers_from 0 (vpn_end - 0)) (numbers_words 0 (vpn_end - 0) (omega arith))

-- pages
body_pages : (body : ElfValue) (numbers : List ℕ) (rest : List KeptPage) → AreWords numbers → ArePages rest → ArePages (map (body_page body) numbers ++ rest)
body_pages body [] rest words fit = fit
body_pages body (vpn ∷ numbers) rest (first, words) fit = (first, body_length body vpn, body_pages body numbers rest words fit)

pages_both : (xs ys : List KeptPage) → ArePages xs → ArePages ys → ArePages (xs ++ ys)
pages_both [] ys first next = next
pages_both (x ∷ xs) ys (word, whole, rest) next = (word, whole, pages_both xs ys rest next)

stack_pages : (p : ProgramValue) (count : ℕ) → count ≤ p.stack → p.stack < 2 ^ 32 → ArePages (listed (stack_page p) count)
stack_pages p zero within few = tt
stack_pages p (suc count) within few =
    pages_both (listed (stack_page p) count) (stack_page p count ∷ []) (stack_pages p count (omega (arith, within)) few)
    (omega (arith, within, few), zero_length, tt)

pages_fit : (p : ProgramValue) → p.stack < 2 ^ 32 → ArePages (kept_of p)
pages_fit p few =
    (omega arith, zero_length, body_pages p.body (vpns p.body) (listed (stack_page p) p.stack) (vpns_words p.body) (stack_pages p p.stack (omega arith) few))

pub record_fit : (p : ProgramValue) (entry accept : ℕ) → entry ≡ p.body.entry → accept ≡ p.accept → entry < 2 ^ 32 → accept < 2 ^ 32 → length p.name ≡ 8 → p.stack ≤ most_stack_pages
    → IsRecordFit p.name p.body.entry p.accept (kept_of p)
record_fit p entry accept entered accepts entry_less accept_less whole few = record {
  name_whole = whole;
  entry_word = omega (arith, entered, entry_less);
  accept_word = omega (arith, accepts, accept_less);
  pages = pages_fit p (omega (arith, few));
}

-- what is given at boot where the image has a program of the number
pub record_there : (image : ImageValue) (e : ℕ) (p : ProgramValue) → slice_get image.programs e ≡ Some p → boot_items image e ≡ Boot image.version e p.name p.body.entry p.accept (kept_of p) ∷ []
record_there image e p some = ap (record_items image.version e) some

pub kept_there : (image : ImageValue) (e : ℕ) (p : ProgramValue) → slice_get image.programs e ≡ Some p → ((boot_world image).solos e).kept ≡ kept_of p
kept_there image e p some = ap (λ (o : Option ProgramValue). (absorb_all (absent e) (record_items image.version e o)).kept) some

-- what is told of it: the version, and the bytes of the record with the pages that the booted world has
pub told_there : (image : ImageValue) (e : ℕ) (p : ProgramValue) (w : World) (log : List ItemSeen) (a : ℕ) (bytes : List ℕ) → slice_get image.programs e ≡ Some p → w ≡ boot_world image
    → a ≡ version_number image.version → bytes ≡ record_text e p.name p.body.entry p.accept (w.solos e).kept → log ++ view_of kind.Boot a 0 bytes ∷ [] ≡ with_items log (boot_items image e)
told_there image e p w log a bytes some boots version text =
    let kept : (w.solos e).kept ≡ kept_of p = ap (λ (v : World). (v.solos e).kept) boots ∙ kept_there image e p some in
    let whole : bytes ≡ record_text e p.name p.body.entry p.accept (kept_of p) = text ∙ ap (record_text e p.name p.body.entry p.accept) kept in
    ap (λ (n : ℕ). log ++ view_of kind.Boot n 0 bytes ∷ []) version
    ∙ ap (λ (xs : List ℕ). log ++ view_of kind.Boot (version_number image.version) 0 xs ∷ []) whole
    ∙ ap (λ (items : List Item). log ++ map item_seen items) (sym (record_there image e p some))

pub there_below : (image : ImageValue) (e : ℕ) (p : ProgramValue) (w : World) → slice_get image.programs e ≡ Some p → w ≡ boot_world image → e < w.count
there_below image e p w some boots =
    let count : w.count ≡ length image.programs = ap (λ (v : World). v.count) boots in
    let less = slice_get_within image.programs e p some in
    omega (arith, count, less)
