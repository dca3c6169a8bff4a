-- What words that are put into the context page do to an environment's guaranteed pages.
use Rattle.std.proofs.Common.{◌≡◌, ◌≢◌, ◌+◌, ℕ, Bool, true, false, List, Option, Some, None, ◌⊎◌, inl, inr, refl, sym, ◌∙◌, ap}
use Rattle.std.specs.Prelude.{nat_lt, if◌then◌else◌}
use Rattle.std.specs.Option.{option_map}
use Rattle.std.proofs.lemmas.Bool.{cases_eq}
use Rattle.frame_store.specs.Pages.{with_bytes, word_at, word_bytes}
use Rattle.mips_exec.specs.Word.{low_word}
use Rattle.env_frames.specs.Context.{context_number}
use Rattle.env_frames.specs.Post.{most_records, post_offset, record_bytes, record_offset}
use Rattle.env_frames.specs.declared.post.PostWord.{PostWord}
use Rattle.env_frames.specs.declared.post.PostWord.TheVariants as post
use Rattle.world_model.specs.Page.{KeptPage}
use Rattle.world_model.specs.Post.{asked_for, counted, post_word, with_post}
use Rattle.world_model.specs.Repossession.{copied, recorded, with_page_taken}
use Rattle.world_model.specs.Solo.{Solo, Store, Kept, Physical, bytes_in, bytes_of, kept_at, stored_page}
use Rattle.world_model.specs.Upcalls.{with_context}
use Rattle.world_model.proofs.Stores.{kept_as_was}
use Rattle.sharing_law.specs.Change.{HasAsked, HasRecord, IsRewritten, asked_page, kept_bytes, counted_page, recorded_page}
use Rattle.sharing_law.proofs.Given.{kept_else, kept_here}

-- The context page, if it is there, is rewritten so, and all other guaranteed pages are as they were.
pub record Rewrites (s t : Solo) (rewritten : List ℕ → List ℕ) : Type 0 where
  pub beside : (vpn : ℕ) → vpn ≢ context_number → kept_at t.kept vpn ≡ kept_at s.kept vpn
  pub nowhere : kept_at s.kept context_number ≡ None → kept_at t.kept context_number ≡ None
  pub there : (p : KeptPage) → kept_at s.kept context_number ≡ Some p → (q : KeptPage) × (kept_at t.kept context_number ≡ Some q)
  pub has : (p : KeptPage) → kept_at s.kept context_number ≡ Some p → kept_bytes t context_number ≡ rewritten (kept_bytes s context_number)

-- So its bytes stay, or it is the context page.
pub rewrites_or : (s t : Solo) (rewritten : List ℕ → List ℕ) → Rewrites s t rewritten → (vpn : ℕ) → (kept_bytes t vpn ≡ kept_bytes s vpn) ⊎ IsRewritten s t vpn rewritten
rewrites_or s t rewritten rewrites vpn = elim (cases_eq vpn context_number) [
  | inl here ↦ by_page (kept_at s.kept context_number) refl here
  | inr other ↦ inl (ap bytes_in (rewrites.beside vpn other))
]
  where
    by_page : (o : Option KeptPage) → kept_at s.kept context_number ≡ o → vpn ≡ context_number → (kept_bytes t vpn ≡ kept_bytes s vpn) ⊎ IsRewritten s t vpn rewritten
    by_page None is here = inl (ap (kept_bytes t) here ∙ ap bytes_in (rewrites.nowhere is ∙ sym is) ∙ ap (kept_bytes s) (sym here))
    by_page (Some p) is here = inr (record { context = here; has = ap (kept_bytes t) here ∙ rewrites.has p is ∙ ap (λ n. rewritten (kept_bytes s n)) (sym here) })

-- Nothing is rewritten where the guaranteed pages are the same.
pub rewrites_none : (s t : Solo) → t.kept ≡ s.kept → Rewrites s t (λ page. page)
rewrites_none s t same = record {
  beside = λ vpn other. ap (λ ps. kept_at ps vpn) same;
  nowhere = λ none. ap (λ ps. kept_at ps context_number) same ∙ none;
  there = λ p is. (p, ap (λ ps. kept_at ps context_number) same ∙ is);
  has = λ p is. ap (λ ps. bytes_in (kept_at ps context_number)) same;
}

-- It is rewritten once, and then once more.
pub rewrites_then : (s t u : Solo) (first next : List ℕ → List ℕ) → Rewrites s t first → Rewrites t u next → Rewrites s u (λ page. next (first page))
rewrites_then s t u first next once more = record {
  beside = λ vpn other. more.beside vpn other ∙ once.beside vpn other;
  nowhere = λ none. more.nowhere (once.nowhere none);
  there = λ p is. let mid = once.there p is in more.there mid.0 mid.1;
  has = λ p is. let mid = once.there p is in more.has mid.0 mid.1 ∙ ap next (once.has p is);
}

-- Words in an area of it
pub context_rewrites : (area : ℕ) (words : List ℕ) (s : Solo) → Rewrites s (with_context area words s) (λ page. with_bytes page area words)
context_rewrites area words s = record {
  beside = λ vpn other. kept_else s.kept x context_number vpn refl other;
  nowhere = λ none. now None none;
  there = λ p is. (stored_page x p, now (Some p) is);
  has = λ p is. ap bytes_in (now (Some p) is) ∙ ap (λ (o : Option KeptPage). with_bytes (bytes_in o) area words) (sym is);
}
  where
    x : Store
    x = record { key = Kept context_number; offset = area; bytes = words }

    now : (o : Option KeptPage) → kept_at s.kept context_number ≡ o → kept_at (with_context area words s).kept context_number ≡ option_map (stored_page x) o
    now o is = kept_here s.kept x context_number refl ∙ ap (option_map (stored_page x)) is

-- as a post word that counts up
pub count_rewrites : (word : PostWord) (s : Solo) → Rewrites s (counted word s) (counted_page word)
count_rewrites word s = let words = context_rewrites (post_offset word) (word_bytes (low_word (post_word word s + 1))) s in record { beside = words.beside; nowhere = words.nowhere; there = words.there; has = words.has }

-- What an environment is asked for.
module _ (outstanding deadline : ℕ) (s : Solo) where
  abbrev first : Solo
  first = with_post post.Outstanding outstanding s

  ask_rewrites : Rewrites s (asked_for outstanding deadline s) (asked_page outstanding deadline)
  ask_rewrites =
      rewrites_then s first (asked_for outstanding deadline s) (λ page. with_bytes page (post_offset post.Outstanding) (word_bytes outstanding)) (λ page. with_bytes page (post_offset post.Deadline) (word_bytes deadline))
      (context_rewrites (post_offset post.Outstanding) (word_bytes outstanding) s)
      (context_rewrites (post_offset post.Deadline) (word_bytes deadline) first)

  pub ask_changes : (vpn : ℕ) → (kept_bytes (asked_for outstanding deadline s) vpn ≡ kept_bytes s vpn) ⊎ HasAsked s (asked_for outstanding deadline s) vpn outstanding deadline
  ask_changes = rewrites_or s (asked_for outstanding deadline s) (asked_page outstanding deadline) ask_rewrites

-- A page that is taken is recorded and counted.
copied_kept : (page : ℕ) (backup : Option ℕ) (s : Solo) → (copied page backup s).kept ≡ s.kept
copied_kept page None s = refl
copied_kept page (Some backup) s = kept_as_was s.kept backup 0 (bytes_of s (Physical page))

record_rewrites : (n page : ℕ) (backup : Option ℕ) (s : Solo) → Rewrites s (recorded n page backup s) (recorded_page n page backup)
record_rewrites n page backup s = by_test (nat_lt n most_records)
  where
    by_test : (room : Bool) → Rewrites s (if room then with_context (record_offset n) (record_bytes page backup) s else s) (λ its. if room then with_bytes its (record_offset n) (record_bytes page backup) else its)
    by_test true = context_rewrites (record_offset n) (record_bytes page backup) s
    by_test false = rewrites_none s s refl

module _ (page : ℕ) (backup : Option ℕ) (s : Solo) where
  abbrev copy : Solo
  copy = copied page backup s

  abbrev number : ℕ
  number = post_word post.Takings copy

  abbrev rewritten : ℕ → List ℕ → List ℕ
  rewritten n its = counted_page post.Takings (recorded_page n page backup its)

  take_rewrites : Rewrites s (counted post.Takings (recorded number page backup copy)) (rewritten number)
  take_rewrites =
      let now = recorded number page backup copy in
      rewrites_then s copy (counted post.Takings now) (λ its. its) (rewritten number) (rewrites_none s copy (copied_kept page backup s))
      (rewrites_then copy now (counted post.Takings now) (recorded_page number page backup) (counted_page post.Takings) (record_rewrites number page backup copy) (count_rewrites post.Takings now))

  number_is : number ≡ post_word post.Takings s
  number_is = ap (λ ps. word_at (bytes_in (kept_at ps context_number)) (post_offset post.Takings)) (copied_kept page backup s)

  pub take_changes : (vpn : ℕ) → (kept_bytes (with_page_taken page backup s) vpn ≡ kept_bytes s vpn) ⊎ HasRecord s (with_page_taken page backup s) vpn page backup
  take_changes vpn = elim (rewrites_or s (counted post.Takings (recorded number page backup copy)) (rewritten number) take_rewrites vpn) [
    | inl same ↦ inl same
    | inr now ↦ inr (record { context = now.context; has = now.has ∙ ap (λ n. rewritten n (kept_bytes s vpn)) number_is })
  ]
