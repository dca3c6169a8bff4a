-- Programs that are added one after another to the bare world give the boot of their image.
use Rattle.std.proofs.Common.{◌≡◌, ℕ, suc, ◌+◌, List, [], ◌∷◌, ◌++◌, length, Some, refl, sym, ◌∙◌, ap, append_assoc, add-zero, arith, rules}
use Rattle.std.specs.Prelude.{fold, slice_get}
use Rattle.std.proofs.lemmas.Bool.{cases_eq, ne_eqb, eq-eqb}
use Rattle.std.proofs.lemmas.List.{length-append, append-nil}
use Rattle.aegis_limits.specs.declared.version.Version.{Version}
use Rattle.boot_image.specs.ImageValue.{ImageValue, ProgramValue}
use Rattle.world_model.specs.Book.{Book}
use Rattle.world_model.specs.Solo.{Solo, absent}
use Rattle.world_model.specs.Item.{absorb_all}
use Rattle.world_model.specs.World.{World, only}
use Rattle.run_model.specs.Boot.{record_items, bare_world, with_program, boot_world, with_kept, with_all_kept, book_of_image}
use Rattle.board_model.proofs.Lists.{last_get, other_get, past_get}

-- an environment of so many programs
abbrev booted_solo : Version → List ProgramValue → ℕ → Solo
booted_solo v programs e = absorb_all (absent e) (record_items v e (slice_get programs e))

-- the world with these programs on it, which have their pages
abbrev with_programs : World → List ProgramValue → World
with_programs bare programs = record bare { book = with_all_kept 0 programs bare.book; count = length programs; solos = booted_solo bare.book.version programs }

-- the pages of one program more
kept_more : (e : ℕ) (ps : List ProgramValue) (p : ProgramValue) (b : Book) → with_kept (e + length ps) p (with_all_kept e ps b) ≡ with_all_kept e (ps ++ p ∷ []) b
kept_more e [] p b = ap (λ (n : ℕ). with_kept n p b) (add-zero e)
kept_more e (q ∷ ps) p b =
    let next : e + suc (length ps) ≡ e + 1 + length ps = omega arith in
    ap (λ (n : ℕ). with_kept n p (with_all_kept (e + 1) ps (with_kept e q b))) next
    ∙ kept_more (e + 1) ps p (with_kept e q b)

next_solo : (v : Version) (ps : List ProgramValue) (p : ProgramValue) (e : ℕ) → absorb_all (booted_solo v ps e) (only (length ps) (record_items v (length ps) (Some p)) e) ≡ booted_solo v (ps ++ p ∷ []) e
next_solo v ps p e = search (rules, cases_eq, eq-eqb, past_get, last_get, ne_eqb, other_get)

-- pages change no version
kept_version : (e : ℕ) (ps : List ProgramValue) (b : Book) → (with_all_kept e ps b).version ≡ b.version
kept_version e [] b = refl
kept_version e (p ∷ ps) b = kept_version (e + 1) ps (with_kept e p b)

one_more : (bare : World) (ps : List ProgramValue) (p : ProgramValue) → with_program (with_programs bare ps) p ≡ with_programs bare (ps ++ p ∷ [])
one_more bare ps p = λ i. record { book = first_kept bare.book i; count = sym (length-append ps (p ∷ [])) i; solos = λ e. (given e ∙ next_solo bare.book.version ps p e) i; rows = bare.rows }
  where
    given : (e : ℕ) → absorb_all (booted_solo bare.book.version ps e) (only (length ps) (record_items (with_all_kept 0 ps bare.book).version (length ps) (Some p)) e)
        ≡ absorb_all (booted_solo bare.book.version ps e) (only (length ps) (record_items bare.book.version (length ps) (Some p)) e)
    given e = ap (λ (v : Version). absorb_all (booted_solo bare.book.version ps e) (only (length ps) (record_items v (length ps) (Some p)) e)) (kept_version 0 ps bare.book)

    first_kept : (b : Book) → with_kept (length ps) p (with_all_kept 0 ps b) ≡ with_all_kept 0 (ps ++ p ∷ []) b
    first_kept b = let none : length ps ≡ 0 + length ps = omega arith in ap (λ (n : ℕ). with_kept n p (with_all_kept 0 ps b)) none ∙ kept_more 0 ps p b

all_added : (bare : World) (ps qs : List ProgramValue) → fold with_program (with_programs bare ps) qs ≡ with_programs bare (ps ++ qs)
all_added bare ps [] = ap (with_programs bare) (sym (append-nil ps))
all_added bare ps (q ∷ qs) =
    ap (λ (w : World). fold with_program w qs) (one_more bare ps q)
    ∙ all_added bare (ps ++ q ∷ []) qs
    ∙ ap (with_programs bare) (append_assoc ps (q ∷ []) qs)

-- a board without programs shows a world without programs
none_yet : (image : ImageValue) → with_programs (bare_world image.version image.pages image.quantum image.slots) [] ≡ bare_world image.version image.pages image.quantum image.slots
none_yet image = search rules

pub added_boot : (image : ImageValue) → fold with_program (bare_world image.version image.pages image.quantum image.slots) image.programs ≡ boot_world image
added_boot image =
    ap (λ (w : World). fold with_program w image.programs) (sym (none_yet image))
    ∙ all_added (bare_world image.version image.pages image.quantum image.slots) [] image.programs

-- a boot takes no time
kept_time : (e : ℕ) (ps : List ProgramValue) (b : Book) → (with_all_kept e ps b).time ≡ b.time
kept_time e [] b = refl
kept_time e (p ∷ ps) b = kept_time (e + 1) ps (with_kept e p b)

pub boot_time : (image : ImageValue) → (boot_world image).book.time ≡ 0
boot_time image = kept_time 0 image.programs (book_of_image image)
